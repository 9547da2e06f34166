use mathlib.Core.List.{◌++◌}
use mathlib.Core.Path.{◌≡◌}
use lib.ListN.{drop, replicate}
use Rattle.wire.specs.Table.{tab}
use Rattle.slotcheck.specs.SlotParts.{stamp_in}
use Rattle.slotcheck.proofs.stamps.stamps_of.Given as goal

abbrev pub invariant-loop-k : goal.invariant-loop-k
invariant-loop-k l = l.stamp-items ≡ tab l.k (stamp_in l.area.cells l.area.bytes.now) ++ drop l.k (replicate 8 0)
