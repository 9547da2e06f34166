-- `store_reads_clock` meets its contract: the fields and the read log are put, the write log behind them stays, and then the clock is put.
use mathlib.Core.List.{List}
use mathlib.Core.Path.{ap, ◌∙◌}
use Prim.Native.Nat.{ℕ}
use Rattle.wire.specs.Field.{to_be}
use Rattle.wire.specs.Part.{splice}
use Rattle.slot.specs.Fields.{with_writes_of}
use Rattle.rules.specs.Model.{controller}
use Rattle.rules.specs.State.{turn}
use Rattle.rules.specs.Layout.{view}
use Rattle.rules.proofs.Stores.{pack-clock}
use Rattle.area.specs.Good.{state_in}
use Rattle.area.specs.InPlace.{record_at}
use Rattle.stores.proofs.Stored.{reads-stored}
use Rattle.stores.proofs.store_reads_clock.Goals as goal

pub returns : goal.returns
returns c =
    let S = state_in c.args.s.now in
    let slot = reads-stored c.requires.good.0 c.requires.good.1 c.offset-at.ensures c.args.v _ _ c.put_fields.ensures c.requires.v_value c.put_reads.ensures in
    c.put.ensures
    ∙ ap (λ (k : List ℕ). splice k 6 (to_be 8 c.args.clock)) slot
    ∙ pack-clock controller (turn S c.args.i S.clock S.cells (view (with_writes_of (record_at c.args.s.now c.args.i) c.args.v))) c.args.clock
