-- Each public function's contract leaves one answer.
use mathlib.Core.List.{List}
use mathlib.Core.Path.{◌≡◌}
use Prim.Native.Nat.{ℕ}
use Rattle.wire.proofs.Unique.{unique}
use Rattle.std.specs.Prelude.{Option}
use Rattle.apart.specs.declared.Parts.{Parts}
use Rattle.apart.specs.Apart.{byte_at, step_word, taken_apart}

pub byte-unique : (s : List ℕ) (at r₁ r₂ : ℕ) → r₁ ≡ byte_at s at → r₂ ≡ byte_at s at → r₁ ≡ r₂
byte-unique s at r₁ r₂ = unique

pub word-unique : (s : List ℕ) (r₁ r₂ : ℕ) → r₁ ≡ step_word s → r₂ ≡ step_word s → r₁ ≡ r₂
word-unique s r₁ r₂ = unique

pub take-apart-unique : (s : List ℕ) (r₁ r₂ : Option Parts) → r₁ ≡ taken_apart s → r₂ ≡ taken_apart s → r₁ ≡ r₂
take-apart-unique s r₁ r₂ = unique
