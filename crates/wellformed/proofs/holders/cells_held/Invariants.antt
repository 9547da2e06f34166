use Rattle.wellformed.proofs.Turn.{Passed}
use Rattle.wellformed.proofs.holders.cells_held.Given as goal

abbrev pub invariant-loop-k : goal.invariant-loop-k
invariant-loop-k l = Passed l.area.bytes.now l.k l.due
