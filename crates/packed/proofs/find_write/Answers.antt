-- `find_write` meets its contract: before each turn no entry that was passed has the cell, so the log's entry of it is that of what is left; what
-- follows a larger cell is larger still.
use mathlib.Core.Path.{ap, refl}
use Prim.Native.Nat.{◌<◌, ◌≤◌, min}
use native.Mathlib.Omega.{arith}
use borrow.Author.Tests.{eq-eqb, ne_eqb}
use Rattle.slot.specs.Layout.{write_capacity, no_write}
use Rattle.slot.specs.Logs.{write_entry}
use Rattle.slot.specs.Operations.{write_found}
use Rattle.packed.specs.Places.{slot_in}
use Rattle.packed.proofs.InLog.{writes-counted, writes-sized, sought-start, entry_next, entry_found, entry_past, entry-end, smaller, larger}
use Rattle.packed.proofs.find_write.Goals as goal

pub loop-k-init : goal.loop-k-init
loop-k-init c = sought-start (writes-sized c.args.width c.args.at c.args.s.now)

pub returns-then-e-cell : goal.returns-then-e-cell
unfolding write_entry
returns-then-e-cell c =
    let inside : c.loop-k.k < (slot_in c.args.width c.args.at c.args.s.now).writecount = omega (arith, writes-counted c.args.width c.args.at c.args.s.now) in
    ap write_found (entry_found no_write c.loop-k.invariant refl inside (omega arith) c.write_at-e.ensures (eq-eqb _ _ c.if-e-cell.true))

-- the first entry that is not below the cell is above it
pub returns-then-cell-e : goal.returns-then-cell-e
unfolding write_entry
returns-then-cell-e c =
    let inside : c.loop-k.k < (slot_in c.args.width c.args.at c.args.s.now).writecount = omega (arith, writes-counted c.args.width c.args.at c.args.s.now) in
    ap write_found
    (entry_past no_write c.loop-k.invariant refl _ c.requires.2 inside (omega arith) c.write_at-e.ensures (ne_eqb _ _ c.if-e-cell.false) (larger (omega arith)))

pub loop-k-preserved : goal.loop-k-preserved
loop-k-preserved c =
    let inside : c.loop-k.k < (slot_in c.args.width c.args.at c.args.s.now).writecount = omega (arith, writes-counted c.args.width c.args.at c.args.s.now) in
    entry_next no_write c.loop-k.invariant inside (omega arith) c.write_at-e.ensures (smaller c.if-cell-e.false)

pub returns : goal.returns
unfolding write_entry
returns c =
    let past : min write_capacity (slot_in c.args.width c.args.at c.args.s.now).writecount ≤ c.loop-k.k = omega (arith, writes-counted c.args.width c.args.at c.args.s.now) in
    ap write_found (entry-end no_write c.loop-k.invariant refl past)
