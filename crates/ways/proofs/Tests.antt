-- The tests that rows share, where their answer is known: each takes away one line of the step's definition.
use mathlib.Core.Bool.{Bool, true, false}
use mathlib.Core.Path.{◌≡◌}
use Rattle.call.specs.declared.Refusal.{Refusal}
use Rattle.rules.specs.Outcome.{Outcome, refused, refuse_if}

pub stops : {b : Bool} (r : Refusal) (o : Outcome) → b ≡ true → refuse_if b r o ≡ refused r
stops r o e = rw e

pub passes : {b : Bool} (r : Refusal) (o : Outcome) → b ≡ false → refuse_if b r o ≡ o
passes r o e = rw e
