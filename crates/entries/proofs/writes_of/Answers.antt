-- `writes_of` meets its contract: before each turn the first `i` entries are those of the table, and the others are as they were made.
use mathlib.Core.Path.{◌≡◌}
use Prim.Native.Nat.{◌+◌, ◌*◌}
use native.Mathlib.Omega.{arith}
use lib.ListN.{drop, replicate}
use Rattle.wire.proofs.Laws.Table.{fill_start, fill_step, fill_end}
use Rattle.slot.specs.Layout.{write_capacity, no_write, write_of, write_size}
use Rattle.entries.proofs.writes_of.Goals as goal

pub loop-i-init : goal.loop-i-init
loop-i-init c = fill_start (λ j. write_of (drop (c.args.at + write_size * j) c.args.s.now)) (replicate write_capacity no_write)

pub loop-i-preserved : goal.loop-i-preserved
loop-i-preserved c =
    rw c.read.ensures
    (fill_step (λ j. write_of (drop (c.args.at + write_size * j) c.args.s.now)) (replicate write_capacity no_write) c.loop-i.entry-items c.loop-i.i (omega arith) c.loop-i.invariant)

pub returns : goal.returns
returns c =
    let all : c.loop-i.i ≡ write_capacity = omega arith in
    fill_end (λ j. write_of (drop (c.args.at + write_size * j) c.args.s.now)) (replicate write_capacity no_write) c.loop-i.entry-items write_capacity (omega arith)
    (rw all at c.loop-i.invariant)
