-- The contract of `well_formed` determines its reply: any two replies that it allows are equal, being the same test of the same bytes.
use mathlib.Core.Bool.{Bool}
use mathlib.Core.List.{List}
use mathlib.Core.Path.{◌≡◌}
use Prim.Native.Nat.{ℕ}
use Rattle.wire.proofs.Unique.{unique}
use Rattle.rules.specs.Model.{controller}
use Rattle.rules.specs.AreaRight.{well_formed}

pub well-formed-unique : (l : List ℕ) (r₁ r₂ : Bool) → r₁ ≡ well_formed controller l → r₂ ≡ well_formed controller l → r₁ ≡ r₂
well-formed-unique l r₁ r₂ = unique
