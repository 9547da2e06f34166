-- Before each turn no cell of the entries passed is marked, so some marked cell is in the write log if one is in what is left; past a cell above
-- the bound there is none.
use mathlib.Core.Path.{refl, sym, ◌∙◌}
use Prim.Native.Nat.{◌<◌, ◌≤◌}
use native.Mathlib.Omega.{arith}
use Rattle.slot.specs.Layout.{no_write}
use Rattle.slot.proofs.Search.{of_none, of_some}
use Rattle.packed.specs.Places.{slot_in}
use Rattle.packed.proofs.InLog.{writes-counted, writes-sized, sought-start, entry_next, entry_found, entry_past, entry-none}
use Rattle.bothlogs.proofs.Overlap.{told, none-past, either_way}
use Rattle.bothlogs.proofs.marked_written.Goals as goal

pub loop-i-init : goal.loop-i-init
loop-i-init c = sought-start (writes-sized c.args.width c.args.at c.args.s.now)

pub write_at-e-requires : goal.write_at-e-requires
write_at-e-requires c =
    (c.requires.narrow, c.requires.size, omega (arith, c.requires.writes, writes-counted c.args.width c.args.at c.args.s.now))

-- above the bound no cell is marked
pub returns-then-bound-c : goal.returns-then-bound-c
returns-then-bound-c c =
    let inside : c.loop-i.i < (slot_in c.args.width c.args.at c.args.s.now).writecount = omega (arith, writes-counted c.args.width c.args.at c.args.s.now) in
    let above : c.note_marked-bound.result < c.write_at-e.result.cell = omega arith in
    sym (of_none _ _ (sym (entry_past no_write c.loop-i.invariant refl _ c.requires.ascending inside (omega (arith, c.requires.writes)) c.write_at-e.ensures
    (c.note_marked-bound.ensures.by_index _ above) (none-past _ c.note_marked-bound.ensures.by_index above))))
    ∙ either_way _ _

pub bounds-marked-c : goal.bounds-marked-c
bounds-marked-c c =
    let inside : c.loop-i.i < (slot_in c.args.width c.args.at c.args.s.now).writecount = omega (arith, writes-counted c.args.width c.args.at c.args.s.now) in
    rw (c.from-c.ensures, c.write_at-e.ensures) (c.requires.writes_below _ inside)

pub returns-then-marked-c : goal.returns-then-marked-c
returns-then-marked-c c =
    let inside : c.loop-i.i < (slot_in c.args.width c.args.at c.args.s.now).writecount = omega (arith, writes-counted c.args.width c.args.at c.args.s.now) in
    let below : c.write_at-e.result.cell < 64 = rw c.write_at-e.ensures (c.requires.writes_below _ inside) in
    let marked = told _ c.note_marked-bound.ensures.marked_after c.from-c.ensures below c.if-marked-c.true in
    sym (of_some _ _ _ (sym (entry_found no_write c.loop-i.invariant refl inside (omega (arith, c.requires.writes)) c.write_at-e.ensures marked))) ∙ either_way _ _

pub loop-i-preserved : goal.loop-i-preserved
loop-i-preserved c =
    let inside : c.loop-i.i < (slot_in c.args.width c.args.at c.args.s.now).writecount = omega (arith, writes-counted c.args.width c.args.at c.args.s.now) in
    let below : c.write_at-e.result.cell < 64 = rw c.write_at-e.ensures (c.requires.writes_below _ inside) in
    let unmarked = told _ c.note_marked-bound.ensures.marked_after c.from-c.ensures below c.if-marked-c.false in
    entry_next no_write c.loop-i.invariant inside (omega (arith, c.requires.writes)) c.write_at-e.ensures unmarked

pub returns : goal.returns
returns c =
    let past : (slot_in c.args.width c.args.at c.args.s.now).writecount ≤ c.loop-i.i = omega (arith, writes-counted c.args.width c.args.at c.args.s.now) in
    sym (of_none _ _ (sym (entry-none no_write c.loop-i.invariant refl past))) ∙ either_way _ _
