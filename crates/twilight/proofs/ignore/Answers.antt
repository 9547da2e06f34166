-- Only a slot in twilight ignores, and none with a marked cell in its write log: with a mark the flag is set, and without one nothing changes.
use mathlib.Core.Path.{refl}
use Rattle.slot.proofs.Laws.Fields.{ignoring-fields}
use Rattle.rules.specs.Model.{controller}
use Rattle.rules.specs.State.{slot_at}
use Rattle.area.specs.Good.{state_in}
use Rattle.ways.proofs.Done.{leaves, keeps}
use Rattle.twilight.proofs.Ways.{ignoring-stands, ignore-0, ignore-none}
use Rattle.twilight.proofs.ignore.Goals as goal

pub store_fields-requires-clause-v_value : goal.store_fields-requires-clause-v_value
store_fields-requires-clause-v_value c =
    let x = slot_at (state_in c.args.s.now) c.args.i in
    let p = c.in_ok-in_phase.ensures in
    (ignoring-stands x _ refl p (ignoring-fields _ c.fields.ensures p c.ignoring_set-ignoring.ensures)).kept

pub returns-then-some_marked : goal.returns-then-some_marked
returns-then-some_marked c =
    let p = c.in_ok-in_phase.ensures in
    leaves _ (ignore-0 controller _ _ refl p c.marked_written.ensures c.if-marked_written.false c.some_marked.ensures c.if-some_marked.true (ignoring-fields _ c.fields.ensures p c.ignoring_set-ignoring.ensures)) c.store_fields.ensures

pub returns-else-some_marked : goal.returns-else-some_marked
returns-else-some_marked c =
    keeps _ c.requires.0 (ignore-none controller _ _ refl c.in_ok-in_phase.ensures c.marked_written.ensures c.if-marked_written.false c.some_marked.ensures c.if-some_marked.false)
