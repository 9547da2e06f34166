-- Each public function's contract leaves one answer: it says that the answer is one value.
use mathlib.Core.Bool.{Bool}
use mathlib.Core.List.{List}
use mathlib.Core.Path.{◌≡◌}
use Prim.Native.Nat.{ℕ}
use Rattle.wire.proofs.Unique.{unique}
use Rattle.slot.specs.declared.ReadEntry.{ReadEntry}
use Rattle.std.specs.Prelude.{Option}
use Rattle.readlog.specs.declared.Held.{Held}
use Rattle.readlog.specs.Reload.{marked_reads, reloaded_reads, obstacle_in}
use Rattle.readlog.specs.MarkedWritten.{marked_written_in}

module _ (l : List ℕ) (i : ℕ) where
  pub reloaded-reads-unique : (r₁ r₂ : List ReadEntry) → r₁ ≡ reloaded_reads l i → r₂ ≡ reloaded_reads l i → r₁ ≡ r₂
  reloaded-reads-unique r₁ r₂ = unique

  pub marked-reads-unique : (r₁ r₂ : List ReadEntry) → r₁ ≡ marked_reads l i → r₂ ≡ marked_reads l i → r₁ ≡ r₂
  marked-reads-unique r₁ r₂ = unique

  pub first-obstacle-unique : (r₁ r₂ : Option Held) → r₁ ≡ obstacle_in l i → r₂ ≡ obstacle_in l i → r₁ ≡ r₂
  first-obstacle-unique r₁ r₂ = unique

  pub marked-written-unique : (r₁ r₂ : Bool) → r₁ ≡ marked_written_in l i → r₂ ≡ marked_written_in l i → r₁ ≡ r₂
  marked-written-unique r₁ r₂ = unique
