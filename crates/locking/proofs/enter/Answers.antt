-- Only a locking slot with no cell missing enters, below the last stamp: its fields with the next stamp are stored, its marked reads, and the clock. What the
-- record says of marks is what the marked reads say, since they are its read log.
use mathlib.Core.Path.{refl}
use Prim.Native.Nat.{◌≤◌}
use native.Mathlib.Omega.{arith}
use Rattle.slot.proofs.Laws.Fields.{entered-alone}
use Rattle.rules.specs.Cells.{with_mark}
use Rattle.rules.specs.Model.{controller}
use Rattle.rules.specs.State.{slot_at}
use Rattle.rules.specs.Layout.{lay}
use Rattle.area.specs.Good.{state_in}
use Rattle.ways.proofs.Fields.{fields}
use Rattle.ways.proofs.Done.{leaves}
use Rattle.locking.proofs.Ways.{entered-stands, enter-0}
use Rattle.locking.proofs.enter.Goals as goal

pub store_reads_clock-requires-clause-v_value : goal.store_reads_clock-requires-clause-v_value
store_reads_clock-requires-clause-v_value c =
    let S = state_in c.args.s.now in
    let v = lay (slot_at S c.args.i) in
    let kept = (entered-stands (slot_at S c.args.i) v refl c.in_ok-in_phase.ensures (with_mark S c.args.i v.start) c.marked_reads.ensures (entered-alone v c.fields-v.ensures c.entered-w.ensures)).kept in
    kept

pub returns : goal.returns
returns c =
    let v = lay (slot_at (state_in c.args.s.now) c.args.i) in
    let f = fields v c.fields-v.ensures in
    let taken : v.writecount ≤ v.taken = omega (arith, c.if-v.false) in
    rw c.some_marked.ensures
    (leaves _
    (enter-0 controller _ _ refl c.in_ok-in_phase.ensures taken c.in_ok-commit.ensures.row c.in_ok-commit.ensures.next c.marked_reads.ensures
    (entered-alone v c.fields-v.ensures c.entered-w.ensures))
    c.store_reads_clock.ensures)
