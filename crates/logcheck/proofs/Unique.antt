-- Each public function's contract leaves one answer: it says that the answer is one value.
use mathlib.Core.Bool.{Bool}
use mathlib.Core.List.{List}
use mathlib.Core.Path.{◌≡◌}
use Prim.Native.Nat.{ℕ}
use Rattle.wire.proofs.Unique.{unique}
use Rattle.logcheck.specs.Logged.{legal_at, zeros_from, slot_logs_right, slot_unused_zero}
use Rattle.logcheck.specs.Marked.{marked_right}

pub legal-at-unique : (kind at : ℕ) (l : List ℕ) (r₁ r₂ : Bool) → r₁ ≡ legal_at kind l at → r₂ ≡ legal_at kind l at → r₁ ≡ r₂
legal-at-unique kind at l r₁ r₂ = unique

pub all-zero-unique : (l : List ℕ) (from count : ℕ) (r₁ r₂ : Bool) → r₁ ≡ zeros_from l from count → r₂ ≡ zeros_from l from count → r₁ ≡ r₂
all-zero-unique l from count r₁ r₂ = unique

module _ (a l : List ℕ) where
  pub logs-right-unique : (r₁ r₂ : Bool) → r₁ ≡ slot_logs_right a l → r₂ ≡ slot_logs_right a l → r₁ ≡ r₂
  logs-right-unique r₁ r₂ = unique

  pub unused-zero-unique : (r₁ r₂ : Bool) → r₁ ≡ slot_unused_zero l → r₂ ≡ slot_unused_zero l → r₁ ≡ r₂
  unused-zero-unique r₁ r₂ = unique

  pub marked-right-unique : (r₁ r₂ : Bool) → r₁ ≡ marked_right l → r₂ ≡ marked_right l → r₁ ≡ r₂
  marked-right-unique r₁ r₂ = unique
