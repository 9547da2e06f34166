use mathlib.Core.Path.{◌≡◌}
use Rattle.std.specs.Prelude.{None}
use Rattle.pick.specs.Pick.{negative_at}
use Rattle.pick.proofs.negative_at.Given as goal

abbrev pub invariant-loop-g : goal.invariant-loop-g
invariant-loop-g l = negative_at l.words l.g ≡ None
