-- Each public function's contract leaves one answer: it says that the answer, or the slice at exit, is one value.
use mathlib.Core.Bool.{Bool}
use mathlib.Core.Path.{◌≡◌}
use mathlib.Core.List.{List}
use Prim.Native.Nat.{ℕ}
use Rattle.wire.proofs.Unique.{unique}
use Rattle.slot.specs.declared.ReadEntry.{ReadEntry}
use Rattle.slot.specs.declared.WriteEntry.{WriteEntry}
use Rattle.entries.specs.Entries.{read_here, write_here, write_log_here, read_put, write_put, first_put}

module _ (at : ℕ) (s : List ℕ) where
  pub read-of-unique : (r₁ r₂ : ReadEntry) → r₁ ≡ read_here at s → r₂ ≡ read_here at s → r₁ ≡ r₂
  read-of-unique r₁ r₂ = unique

  pub write-of-unique : (r₁ r₂ : WriteEntry) → r₁ ≡ write_here at s → r₂ ≡ write_here at s → r₁ ≡ r₂
  write-of-unique r₁ r₂ = unique

  pub writes-of-unique : (r₁ r₂ : List WriteEntry) → r₁ ≡ write_log_here at s → r₂ ≡ write_log_here at s → r₁ ≡ r₂
  writes-of-unique r₁ r₂ = unique

  pub put-read-entry-unique : (e : ReadEntry) (r₁ r₂ : List ℕ) → r₁ ≡ read_put at s e → r₂ ≡ read_put at s e → r₁ ≡ r₂
  put-read-entry-unique e r₁ r₂ = unique

  pub put-write-entry-unique : (e : WriteEntry) (r₁ r₂ : List ℕ) → r₁ ≡ write_put at s e → r₂ ≡ write_put at s e → r₁ ≡ r₂
  put-write-entry-unique e r₁ r₂ = unique

  pub put-first-unique : (phase : ℕ) (ignoring : Bool) (taken readcount writecount : ℕ) (r₁ r₂ : List ℕ) → r₁ ≡ first_put at s phase ignoring taken readcount writecount → r₂ ≡ first_put at s phase ignoring taken readcount writecount → r₁ ≡ r₂
  put-first-unique phase ignoring taken readcount writecount r₁ r₂ = unique
