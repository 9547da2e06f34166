use mathlib.Core.Path.{◌≡◌}
use lib.Dec.{eqb}
use Rattle.rules.specs.AreaRight.{zeros}
use Rattle.logcheck.proofs.all_zero.Given as goal

abbrev pub invariant-loop-x : goal.invariant-loop-x
invariant-loop-x l = eqb l.any 0 ≡ zeros l.x-index l.s
