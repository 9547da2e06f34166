-- A chain of tests: one that fails makes the conjunction false, and one that passes leaves the rest.
use mathlib.Core.Bool.{Bool, true, false}
use mathlib.Core.Path.{◌≡◌}
use Rattle.slot.specs.Logic.{◌and◌}

pub fails : (a b : Bool) → a ≡ false → (a and b) ≡ false
unfolding ◌and◌
fails a b p = rw p

pub goes_on : {c : Bool} (a b : Bool) → a ≡ true → b ≡ c → (a and b) ≡ c
unfolding ◌and◌
goes_on a b p q = rw p q
