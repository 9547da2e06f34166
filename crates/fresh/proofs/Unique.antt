-- Each public function's contract leaves one answer; that of the lay-out the code and every byte.
use mathlib.Core.Bool.{Bool}
use mathlib.Core.List.{List}
use mathlib.Core.Path.{◌≡◌, refl}
use Prim.Native.Nat.{ℕ}
use native.Mathlib.Omega.{arith}
use Rattle.wire.proofs.Unique.{unique}
use Rattle.std.specs.Prelude.{Result, Ok, Err}
use Rattle.fresh.specs.LaidOut.{LaidOut, laid_code, refusal_code}
use Rattle.fresh.specs.declared.NotLaidOut.{NotLaidOut}
use Rattle.fresh.specs.declared.NotLaidOut.TheVariants.{WrongLengths, IllegalValue}
use Rattle.fresh.specs.Parts.{described_legal}

pub all-legal-unique : (ds : List ℕ) (r₁ r₂ : Bool) → r₁ ≡ described_legal ds → r₂ ≡ described_legal ds → r₁ ≡ r₂
all-legal-unique ds r₁ r₂ = unique

pub lay-out-unique : (l ds : List ℕ) (r₁ r₂ : ℕ) (l₁ l₂ : List ℕ) → LaidOut l ds r₁ l₁ → LaidOut l ds r₂ l₂ → (r₁ ≡ r₂) × (l₁ ≡ l₂)
lay-out-unique l ds r₁ r₂ l₁ l₂ p q = (unique p.answer q.answer, unique p.bytes q.bytes)

pub code-unique : (e : NotLaidOut) (r₁ r₂ : ℕ) → r₁ ≡ refusal_code e → r₂ ≡ refusal_code e → r₁ ≡ r₂
code-unique e r₁ r₂ = unique

-- the answer too: no two have one code
one-code : (r₁ r₂ : Result (Unit {0}) NotLaidOut) → laid_code r₁ ≡ laid_code r₂ → r₁ ≡ r₂
one-code (Ok _) (Ok _) e = refl
one-code (Ok _) (Err WrongLengths) e = absurd (omega arith)
one-code (Ok _) (Err IllegalValue) e = absurd (omega arith)
one-code (Err WrongLengths) (Ok _) e = absurd (omega arith)
one-code (Err WrongLengths) (Err WrongLengths) e = refl
one-code (Err WrongLengths) (Err IllegalValue) e = absurd (omega arith)
one-code (Err IllegalValue) (Ok _) e = absurd (omega arith)
one-code (Err IllegalValue) (Err WrongLengths) e = absurd (omega arith)
one-code (Err IllegalValue) (Err IllegalValue) e = refl

pub answer-unique : (l ds : List ℕ) (r₁ r₂ : Result (Unit {0}) NotLaidOut) (l₁ l₂ : List ℕ) → LaidOut l ds (laid_code r₁) l₁ → LaidOut l ds (laid_code r₂) l₂
    → (r₁ ≡ r₂) × (l₁ ≡ l₂)
answer-unique l ds r₁ r₂ l₁ l₂ p q = (one-code r₁ r₂ (unique p.answer q.answer), unique p.bytes q.bytes)
