use mathlib.Core.Path.{◌≡◌}
use Rattle.wire.specs.Field.{field_put}
use Rattle.wire.proofs.put.Given as goal

abbrev pub invariant-loop-k : goal.invariant-loop-k
invariant-loop-k l = field_put l.s l.at l.k l.n ≡ field_put l.initial.s l.at l.width l.number
