-- The public function's contract leaves one answer: it says that the answer is one value.
use mathlib.Core.Bool.{Bool}
use mathlib.Core.List.{List}
use mathlib.Core.Path.{◌≡◌}
use Prim.Native.Nat.{ℕ}
use Rattle.wire.proofs.Unique.{unique}
use Rattle.bothlogs.specs.BothLogs.{marked_written_at}

pub marked-written-unique : (width at : ℕ) (s : List ℕ) (r₁ r₂ : Bool) → r₁ ≡ marked_written_at width at s → r₂ ≡ marked_written_at width at s → r₁ ≡ r₂
marked-written-unique width at s r₁ r₂ = unique
