-- `store_freed` meets its contract: the cells are freed first, and the slot is cleared in the packed state that this leaves.
use mathlib.Core.Path.{sym, ap, ◌∙◌}
use lib.ListN.{length-map}
use Rattle.slot.specs.Layout.{empty}
use Rattle.rules.specs.Model.{controller}
use Rattle.rules.specs.State.{idle}
use Rattle.rules.specs.Cells.{free_all}
use Rattle.rules.specs.Layout.{lay}
use Rattle.rules.proofs.LayView.{view-lay}
use Rattle.rules.proofs.AreaRead.{count-read, slots_read}
use Rattle.area.specs.Good.{state_in}
use Rattle.stores.specs.Stores.{freed_cells, stored_freed}
use Rattle.stores.proofs.Stored.{slot-stored}
use Rattle.stores.proofs.store_freed.Goals as goal

pub returns : goal.returns
unfolding free_all
returns c =
    let l = c.args.s.now in
    let i = c.args.i in
    slot-stored (freed_cells i (state_in l)) _ i empty c.free_cells.new.s c.clear.new.s _ (slots_read controller l)
    (length-map (state_in l).cells _ ∙ count-read controller l) c.requires.good.1 (ap lay (view-lay idle)) c.free_cells.ensures c.offset-at.ensures c.clear.ensures
    ∙ ap (stored_freed l i) (sym c.requires.v_value)
