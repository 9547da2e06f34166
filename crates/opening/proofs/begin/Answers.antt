-- `begin` meets its contract: only an idle slot begins, and the record of an open slot with the clock as its start is stored; an idle slot has no logs.
use mathlib.Core.Path.{refl, ap}
use Rattle.slot.proofs.Laws.Fields.{begun-fields}
use Rattle.rules.specs.Model.{controller}
use Rattle.rules.specs.State.{slot_at}
use Rattle.rules.specs.Layout.{lay}
use Rattle.area.specs.Good.{state_in}
use Rattle.ways.proofs.Phases.{is-idle}
use Rattle.ways.proofs.Done.{leaves}
use Rattle.opening.proofs.Ways.{begun-stands, begin-0}
use Rattle.opening.proofs.begin.Goals as goal

pub store_fields-requires-clause-v_value : goal.store_fields-requires-clause-v_value
store_fields-requires-clause-v_value c =
    let idle = ap lay (is-idle (slot_at (state_in c.args.s.now) c.args.i) _ refl c.in_ok-in_phase.ensures) in
    (begun-stands (begun-fields _ _ idle c.begun-begun.ensures)).kept

pub returns : goal.returns
returns c =
    let idle = ap lay (is-idle (slot_at (state_in c.args.s.now) c.args.i) _ refl c.in_ok-in_phase.ensures) in
    leaves _ (begin-0 controller _ _ refl c.in_ok-in_phase.ensures c.clock.ensures (begun-fields _ _ idle c.begun-begun.ensures)) c.store_fields.ensures
