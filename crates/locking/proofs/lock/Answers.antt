-- `lock` meets its contract: the entry at "taken" of the write log is the lowest one missing. Its cell stands below n, since the area is good, and is taken unless another
-- slot holds it.
use mathlib.Core.Path.{refl}
use Prim.Native.Nat.{◌<◌}
use native.Mathlib.Omega.{arith}
use Rattle.slot.proofs.Laws.Fields.{locked-fields}
use Rattle.rules.specs.Model.{controller}
use Rattle.rules.specs.State.{slot_at}
use Rattle.rules.specs.Layout.{lay}
use Rattle.area.specs.Good.{state_in}
use Rattle.ways.proofs.Fields.{fields, entry_at}
use Rattle.ways.proofs.Done.{leaves}
use Rattle.ways.proofs.Known.{known, next}
use Rattle.locking.proofs.Ways.{locked-stands, lock-0}
use Rattle.locking.proofs.lock.Goals as goal

pub write_entry-cell-requires : goal.write_entry-cell-requires
write_entry-cell-requires c =
    let v = lay (slot_at (state_in c.args.s.now) c.args.i) in
    let f = fields v c.fields-v.ensures in
    let missing : v.taken < v.writecount = omega (arith, c.if-v.false) in
    omega (arith, (next (known c.requires.0 c.requires.1 refl) missing).left)

pub cell_at-x-requires : goal.cell_at-x-requires
cell_at-x-requires c =
    let v = lay (slot_at (state_in c.args.s.now) c.args.i) in
    let f = fields v c.fields-v.ensures in
    let missing : v.taken < v.writecount = omega (arith, c.if-v.false) in
    (c.requires.0, rw (← entry_at f c.write_entry-cell.ensures) (next (known c.requires.0 c.requires.1 refl) missing).inside)

pub store_fields_cell-requires-clause-good : goal.store_fields_cell-requires-clause-good
store_fields_cell-requires-clause-good c =
    let v = lay (slot_at (state_in c.args.s.now) c.args.i) in
    let f = fields v c.fields-v.ensures in
    let missing : v.taken < v.writecount = omega (arith, c.if-v.false) in
    (c.requires.0, c.requires.1, rw (← entry_at f c.write_entry-cell.ensures) (next (known c.requires.0 c.requires.1 refl) missing).inside)

pub store_fields_cell-requires-clause-v_value : goal.store_fields_cell-requires-clause-v_value
store_fields_cell-requires-clause-v_value c =
    let p = c.in_ok-in_phase.ensures in
    (locked-stands (slot_at (state_in c.args.s.now) c.args.i) _ refl p (locked-fields _ c.fields-v.ensures p c.locked_one.ensures)).kept

pub returns : goal.returns
returns c =
    let v = lay (slot_at (state_in c.args.s.now) c.args.i) in
    let f = fields v c.fields-v.ensures in
    let missing : v.taken < v.writecount = omega (arith, c.if-v.false) in
    let p = c.in_ok-in_phase.ensures in
    leaves _
    (lock-0 controller _ _ refl p missing (entry_at f c.write_entry-cell.ensures) c.cell_at-x.ensures c.held_by_other.ensures c.if-held_by_other.false
    (locked-fields v c.fields-v.ensures p c.locked_one.ensures))
    c.store_fields_cell.ensures
