-- The public function's contract leaves one answer, and one content of the area and of the buffer.
use mathlib.Core.List.{List}
use mathlib.Core.Path.{◌≡◌}
use Prim.Native.Nat.{ℕ}
use Rattle.std.specs.Prelude.{Result}
use Rattle.stage.specs.declared.TooShort.{TooShort}
use Rattle.stage.proofs.Unique.{printed-unique}
use Rattle.effects.specs.Traced.{traced, most_trace, SheetTraced}

pub trace-sheet-unique : (s a out : List ℕ) (r₁ r₂ : Result ℕ TooShort) (a₁ a₂ t₁ t₂ : List ℕ) → SheetTraced s a out r₁ a₁ t₁ → SheetTraced s a out r₂ a₂ t₂
    → (r₁ ≡ r₂) × (a₁ ≡ a₂) × (t₁ ≡ t₂)
trace-sheet-unique s a out = printed-unique most_trace (traced s) s a out
