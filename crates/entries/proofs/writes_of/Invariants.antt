use mathlib.Core.Path.{◌≡◌}
use mathlib.Core.List.{◌++◌}
use Prim.Native.Nat.{◌+◌, ◌*◌}
use lib.ListN.{drop, replicate}
use Rattle.wire.specs.Table.{tab}
use Rattle.slot.specs.Layout.{write_capacity, no_write, write_of, write_size}
use Rattle.entries.proofs.writes_of.Given as goal

abbrev pub invariant-loop-i : goal.invariant-loop-i
invariant-loop-i l = l.entry-items ≡ tab l.i (λ j. write_of (drop (l.at + write_size * j) l.s)) ++ drop l.i (replicate write_capacity no_write)
