-- Only a slot in twilight reloads, if no other slot holds what it read, and below the last stamp: its fields with the next stamp are stored, its reads anew, and the clock.
use mathlib.Core.Path.{refl}
use Rattle.slot.proofs.Laws.Fields.{reloaded-alone}
use Rattle.rules.specs.Cells.{reloaded}
use Rattle.rules.specs.Model.{controller}
use Rattle.rules.specs.State.{slot_at}
use Rattle.rules.specs.Layout.{lay}
use Rattle.area.specs.Good.{state_in}
use Rattle.ways.proofs.Done.{handed, leaves}
use Rattle.twilight.proofs.Ways.{reloaded-stands, reload-12, reload-0}
use Rattle.twilight.proofs.reload.Goals as goal

pub returns-in_err-stamp : goal.returns-in_err-stamp
returns-in_err-stamp c =
    handed _ c.from_residual-in_err-stamp.ensures.1
    (reload-12 controller _ _ refl c.in_ok-in_phase.ensures c.first_obstacle.ensures c.in_default.is c.in_err-stamp.ensures.row)

pub store_reads_clock-requires-clause-v_value : goal.store_reads_clock-requires-clause-v_value
store_reads_clock-requires-clause-v_value c =
    let S = state_in c.args.s.now in
    let v = lay (slot_at S c.args.i) in
    let kept = (reloaded-stands (slot_at S c.args.i) v refl c.in_ok-in_phase.ensures (reloaded S) c.reloaded_reads.ensures (reloaded-alone v c.fields-v.ensures c.reloaded-w.ensures)).kept in
    kept

pub returns : goal.returns
returns c =
    let v = lay (slot_at (state_in c.args.s.now) c.args.i) in
    leaves _
    (reload-0 controller _ _ refl c.in_ok-in_phase.ensures c.first_obstacle.ensures c.in_default.is c.in_ok-stamp.ensures.row c.in_ok-stamp.ensures.next c.reloaded_reads.ensures
    (reloaded-alone v c.fields-v.ensures c.reloaded-w.ensures))
    c.store_reads_clock.ensures
