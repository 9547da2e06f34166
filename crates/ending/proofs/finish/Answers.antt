-- Only a slot in twilight finishes: a spoilt transaction leaves an empty record and no held cell, any other one the record that publishing starts from.
use mathlib.Core.Path.{refl}
use Rattle.slot.proofs.Laws.Fields.{finished-fields}
use Rattle.rules.specs.Model.{controller}
use Rattle.rules.specs.State.{slot_at}
use Rattle.area.specs.Good.{state_in}
use Rattle.ways.proofs.Done.{leaves}
use Rattle.ending.proofs.Ways.{finished-stands, finish-13, finish-0}
use Rattle.ending.proofs.finish.Goals as goal

pub returns-then-spoilt : goal.returns-then-spoilt
returns-then-spoilt c =
    leaves _ (finish-13 controller _ _ refl c.in_ok-in_phase.ensures c.spoilt.ensures c.if-spoilt.true c.idled.ensures) c.store_freed.ensures

pub store_fields-requires-clause-v_value : goal.store_fields-requires-clause-v_value
store_fields-requires-clause-v_value c =
    let x = slot_at (state_in c.args.s.now) c.args.i in
    (finished-stands x _ refl c.in_ok-in_phase.ensures (finished-fields _ c.fields-v.ensures c.finished.ensures)).kept

pub returns : goal.returns
returns c =
    leaves _ (finish-0 controller _ _ refl c.in_ok-in_phase.ensures c.spoilt.ensures c.if-spoilt.false (finished-fields _ c.fields-v.ensures c.finished.ensures)) c.store_fields.ensures
