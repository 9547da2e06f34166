-- Before each turn the table has what the entries passed say of each cell, and above the bound none of them is marked.
use mathlib.Core.Path.{◌≡◌}
use Prim.Native.Nat.{◌<◌}
use native.Mathlib.Omega.{arith}
use lib.ListN.{length}
use Rattle.slot.specs.Layout.{read_capacity}
use Rattle.packed.specs.Places.{slot_in}
use Rattle.packed.proofs.InLog.{reads-counted, reads_sized}
use Rattle.bothlogs.proofs.Overlap.{tabled_start, tabled-unmarked, tabled-marked, tabled-whole}
use Rattle.bothlogs.proofs.note_marked.Goals as goal

pub loop-i-init : goal.loop-i-init
loop-i-init c =
    tabled_start (slot_in c.args.width c.args.at c.args.s.now).reads c.requires.1

pub read_at-e-requires : goal.read_at-e-requires
read_at-e-requires c =
    (c.requires.0.narrow, c.requires.0.size, omega (arith, c.loop-i-test.true, c.requires.0.reads, reads-counted c.args.width c.args.at c.args.s.now))

pub bounds-marked-c : goal.bounds-marked-c
bounds-marked-c c =
    let inside : c.loop-i.i < (slot_in c.args.width c.args.at c.args.s.now).readcount = omega (arith, reads-counted c.args.width c.args.at c.args.s.now) in
    rw (c.from-c.ensures, c.read_at-e.ensures) (c.requires.0.reads_below _ inside)

pub loop-i-preserved : goal.loop-i-preserved
loop-i-preserved c =
    let here-inside : c.loop-i.i < read_capacity = omega (arith, c.requires.0.reads, reads-counted c.args.width c.args.at c.args.s.now) in
    let room : c.loop-i.i < length (slot_in c.args.width c.args.at c.args.s.now).reads = rw (reads_sized c.args.width c.args.at c.args.s.now) here-inside in
    grind (arith, tabled-marked _ _ room c.loop-i.invariant c.read_at-e.ensures, tabled-unmarked _ _ room c.loop-i.invariant c.read_at-e.ensures)

pub returns-clause-marked_after : goal.returns-clause-marked_after
returns-clause-marked_after c =
    let all : c.loop-i.i ≡ (slot_in c.args.width c.args.at c.args.s.now).readcount = omega (arith, reads-counted c.args.width c.args.at c.args.s.now) in
    rw (← all) (tabled-whole c.loop-i.invariant)

pub returns-clause-by_index : goal.returns-clause-by_index
returns-clause-by_index c =
    let all : c.loop-i.i ≡ (slot_in c.args.width c.args.at c.args.s.now).readcount = omega (arith, reads-counted c.args.width c.args.at c.args.s.now) in
    rw (← all) c.loop-i.invariant.above
