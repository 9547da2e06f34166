-- The public function's contract leaves one answer, and one area.
use mathlib.Core.List.{List}
use mathlib.Core.Path.{◌≡◌}
use Prim.Native.Nat.{ℕ}
use Rattle.wire.proofs.Unique.{unique}
use Rattle.level.specs.Level.{Levelled}
use Rattle.level.specs.Reached.{Comes}

pub comes-unique : (w : Levelled) (r₁ r₂ : ℕ) (l₁ l₂ : List ℕ) → Comes w r₁ l₁ → Comes w r₂ l₂ → (r₁ ≡ r₂) × (l₁ ≡ l₂)
comes-unique w r₁ r₂ l₁ l₂ p q = (unique p.answer q.answer, unique p.bytes q.bytes)
