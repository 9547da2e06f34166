use Rattle.pick.proofs.Searches.{Sought}
use Rattle.pick.proofs.pick.Given as goal

abbrev pub invariant-loop-g : goal.invariant-loop-g
invariant-loop-g l = Sought l.words l.g l.fewest l.best
