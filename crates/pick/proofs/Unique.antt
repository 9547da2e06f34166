-- Each public function's contract leaves one answer: it says that the answer is one value.
use mathlib.Core.List.{List}
use mathlib.Core.Path.{◌≡◌}
use Prim.Native.Nat.{ℕ}
use Rattle.std.specs.Prelude.{Option}
use Rattle.wire.proofs.Unique.{unique}
use Rattle.pick.specs.Pick.{negative_at, picked}

module _ (words : List ℕ) (groups : ℕ) where
  pub negative-at-unique : (r₁ r₂ : Option ℕ) → r₁ ≡ negative_at words groups → r₂ ≡ negative_at words groups → r₁ ≡ r₂
  negative-at-unique r₁ r₂ = unique

  pub pick-unique : (r₁ r₂ : Option ℕ) → r₁ ≡ picked words groups → r₂ ≡ picked words groups → r₁ ≡ r₂
  pick-unique r₁ r₂ = unique
