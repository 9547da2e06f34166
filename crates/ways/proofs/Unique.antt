-- A step's contract leaves one reply and one area after it: so for every step and for the dispatch, which all promise `Did`.
use mathlib.Core.List.{List}
use mathlib.Core.Path.{◌≡◌}
use Prim.Native.Nat.{ℕ}
use Rattle.wire.proofs.Unique.{unique}
use Rattle.call.specs.Answer.{Reply}
use Rattle.rules.specs.Outcome.{Outcome}
use Rattle.ways.specs.Did.{Did}

pub did-unique : (o : Outcome) (l : List ℕ) (r₁ r₂ : Reply) (l₁ l₂ : List ℕ) → Did o l r₁ l₁ → Did o l r₂ l₂ → (r₁ ≡ r₂) × (l₁ ≡ l₂)
did-unique o l r₁ r₂ l₁ l₂ p q = (unique p.reply q.reply, unique p.bytes q.bytes)
