-- `close` meets its contract: only an open slot closes, and its fields are stored with the next phase.
use mathlib.Core.Path.{refl}
use Rattle.slot.proofs.Laws.Fields.{closed-fields}
use Rattle.rules.specs.Model.{controller}
use Rattle.rules.specs.State.{slot_at}
use Rattle.area.specs.Good.{state_in}
use Rattle.ways.proofs.Done.{leaves}
use Rattle.opening.proofs.Ways.{closed-stands, close-0}
use Rattle.opening.proofs.close.Goals as goal

pub store_fields-requires-clause-v_value : goal.store_fields-requires-clause-v_value
store_fields-requires-clause-v_value c =
    let x = slot_at (state_in c.args.s.now) c.args.i in
    (closed-stands x _ refl c.in_ok-in_phase.ensures (closed-fields _ c.fields.ensures c.closed-closed.ensures)).kept

pub returns : goal.returns
returns c =
    leaves _ (close-0 controller _ _ refl c.in_ok-in_phase.ensures (closed-fields _ c.fields.ensures c.closed-closed.ensures)) c.store_fields.ensures
