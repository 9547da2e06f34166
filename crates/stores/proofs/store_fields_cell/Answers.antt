-- `store_fields_cell` meets its contract: the slot is put in the packed state, and the cell in what that leaves.
use mathlib.Core.Path.{◌∙◌}
use Rattle.wire.specs.Part.{splice}
use Rattle.slot.specs.Fields.{turned_to}
use Rattle.rules.specs.Model.{controller}
use Rattle.rules.specs.State.{slot_at, turn}
use Rattle.rules.specs.Layout.{lay, view, cell_bytes}
use Rattle.rules.proofs.AreaRead.{count-read}
use Rattle.rules.proofs.Stores.{pack-cell}
use Rattle.area.specs.Good.{state_in}
use Rattle.stores.proofs.store_fields_cell.Goals as goal

pub returns : goal.returns
returns c =
    let S = state_in c.args.s.now in
    let v = turned_to (lay (slot_at S c.args.i)) c.args.v in
    c.put_cell.ensures
    ∙ (λ j. splice (c.store_fields.ensures j) (c.cell_offset.ensures j) (cell_bytes 8 c.args.x))
    ∙ pack-cell controller (turn S c.args.i S.clock S.cells (view v)) c.args.c c.args.x (rw (count-read controller c.args.s.now) c.requires.good.2)
