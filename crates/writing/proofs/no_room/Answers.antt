-- `no_room` meets its contract: a log with room for another entry has room for any; a full one only for an entry of a cell that it has.
use Prim.Native.Nat.{◌<◌, ◌≤◌}
use native.Mathlib.Omega.{arith}
use borrow.Author.Tests.{lt-leb, le-leb}
use Rattle.slot.specs.Layout.{write_capacity}
use Rattle.slot.proofs.Logic.{and-false, and-true}
use Rattle.rules.specs.State.{slot_at}
use Rattle.rules.specs.Layout.{lay}
use Rattle.area.specs.Good.{state_in}
use Rattle.ways.proofs.Fields.{fields}
use Rattle.writing.proofs.Room.{lacking}
use Rattle.writing.proofs.no_room.Goals as goal

pub returns-then-from-ge-WRITES : goal.returns-then-from-ge-WRITES
returns-then-from-ge-WRITES c =
    let v = lay (slot_at (state_in c.args.slot.area.now) c.args.slot.index) in
    let f = fields v c.fields.ensures in
    let full : write_capacity ≤ v.writecount = omega (arith, c.if-from-ge-WRITES.true, c.from.ensures) in
    rw (le-leb write_capacity v.writecount full, and-true) (lacking _ _ _ c.find_write.ensures c.is_none.ensures)

pub returns-else-from-ge-WRITES : goal.returns-else-from-ge-WRITES
returns-else-from-ge-WRITES c =
    let v = lay (slot_at (state_in c.args.slot.area.now) c.args.slot.index) in
    let f = fields v c.fields.ensures in
    let room : v.writecount < write_capacity = omega (arith, c.if-from-ge-WRITES.false, c.from.ensures) in
    rw (lt-leb write_capacity v.writecount room, and-false, lt-leb write_capacity _ c.if-from-ge-WRITES.false)
