-- Each public function's contract leaves one answer: it says that the answer, or the slice at exit, is one value.
use mathlib.Core.Path.{◌≡◌, sym, ◌∙◌}
use mathlib.Core.List.{List}
use Prim.Native.Nat.{ℕ}
use Rattle.wire.specs.Field.{field_at, field_put}
use Rattle.wire.specs.Part.{splice}

-- two answers that are both one value are the same
pub unique : {A : Type 0} {x r₁ r₂ : A} → r₁ ≡ x → r₂ ≡ x → r₁ ≡ r₂
unique p q = p ∙ sym q

pub get-unique : (s : List ℕ) (at width r₁ r₂ : ℕ) → r₁ ≡ field_at s at width → r₂ ≡ field_at s at width → r₁ ≡ r₂
get-unique s at width r₁ r₂ = unique

pub word-at-unique : (s : List ℕ) (at r₁ r₂ : ℕ) → r₁ ≡ field_at s at 4 → r₂ ≡ field_at s at 4 → r₁ ≡ r₂
word-at-unique s at = get-unique s at 4

pub put-unique : (s : List ℕ) (at width number : ℕ) (s₁ s₂ : List ℕ)
    → s₁ ≡ field_put s at width number → s₂ ≡ field_put s at width number → s₁ ≡ s₂
put-unique s at width number s₁ s₂ = unique

pub put-part-unique : (s : List ℕ) (at : ℕ) (part s₁ s₂ : List ℕ) → s₁ ≡ splice s at part → s₂ ≡ splice s at part → s₁ ≡ s₂
put-part-unique s at part s₁ s₂ = unique
