-- Each public function's contract leaves one answer: it says that the answer is one value.
use mathlib.Core.Bool.{Bool}
use mathlib.Core.List.{List}
use mathlib.Core.Path.{◌≡◌}
use Prim.Native.Nat.{ℕ}
use Rattle.wire.proofs.Unique.{unique}
use Rattle.rules.specs.Model.{controller}
use Rattle.rules.specs.Layout.{slot_place}
use Rattle.slotcheck.specs.SlotParts.{slots_right, stamps_right}

module _ (a : List ℕ) where
  pub slot-place-unique : (k : ℕ) (t₁ t₂ : List ℕ) → t₁ ≡ slot_place controller a k → t₂ ≡ slot_place controller a k → t₁ ≡ t₂
  slot-place-unique k t₁ t₂ = unique

  pub slots-right-unique : (clock : ℕ) (r₁ r₂ : Bool) → r₁ ≡ slots_right clock a → r₂ ≡ slots_right clock a → r₁ ≡ r₂
  slots-right-unique clock r₁ r₂ = unique

  pub stamps-apart-unique : (r₁ r₂ : Bool) → r₁ ≡ stamps_right a → r₂ ≡ stamps_right a → r₁ ≡ r₂
  stamps-apart-unique r₁ r₂ = unique
