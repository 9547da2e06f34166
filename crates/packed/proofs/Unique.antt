-- Each public function's contract leaves one answer: it says that the answer, or the slice at exit, is one value.
use mathlib.Core.Bool.{Bool}
use mathlib.Core.Path.{◌≡◌}
use mathlib.Core.List.{List}
use Prim.Native.Nat.{ℕ}
use Rattle.std.specs.Prelude.{Option}
use Rattle.wire.proofs.Unique.{unique}
use Rattle.slot.specs.declared.ReadEntry.{ReadEntry}
use Rattle.slot.specs.declared.WriteEntry.{WriteEntry}
use Rattle.slot.specs.declared.SlotRecord.{SlotRecord}
use Rattle.packed.specs.Places.{fields_at, with_writes_at, read_entry_at, write_entry_at, read_found_at, write_found_at, marked_at, slot_cleared, fields_put, read_entry_put, read_log_put, write_log_put}

module _ (width at : ℕ) (s : List ℕ) where
  pub fields-unique : (r₁ r₂ : SlotRecord) → r₁ ≡ fields_at width at s → r₂ ≡ fields_at width at s → r₁ ≡ r₂
  fields-unique r₁ r₂ = unique

  pub with-writes-unique : (r₁ r₂ : SlotRecord) → r₁ ≡ with_writes_at width at s → r₂ ≡ with_writes_at width at s → r₁ ≡ r₂
  with-writes-unique r₁ r₂ = unique

  pub read-at-unique : (k : ℕ) (r₁ r₂ : ReadEntry) → r₁ ≡ read_entry_at width at s k → r₂ ≡ read_entry_at width at s k → r₁ ≡ r₂
  read-at-unique k r₁ r₂ = unique

  pub write-at-unique : (k : ℕ) (r₁ r₂ : WriteEntry) → r₁ ≡ write_entry_at width at s k → r₂ ≡ write_entry_at width at s k → r₁ ≡ r₂
  write-at-unique k r₁ r₂ = unique

  pub find-read-unique : (cell : ℕ) (r₁ r₂ : Option ReadEntry) → r₁ ≡ read_found_at width at s cell → r₂ ≡ read_found_at width at s cell → r₁ ≡ r₂
  find-read-unique cell r₁ r₂ = unique

  pub find-write-unique : (cell : ℕ) (r₁ r₂ : Option WriteEntry) → r₁ ≡ write_found_at width at s cell → r₂ ≡ write_found_at width at s cell → r₁ ≡ r₂
  find-write-unique cell r₁ r₂ = unique

  pub some-marked-unique : (r₁ r₂ : Bool) → r₁ ≡ marked_at width at s → r₂ ≡ marked_at width at s → r₁ ≡ r₂
  some-marked-unique r₁ r₂ = unique

  pub clear-unique : (r₁ r₂ : List ℕ) → r₁ ≡ slot_cleared width at s → r₂ ≡ slot_cleared width at s → r₁ ≡ r₂
  clear-unique r₁ r₂ = unique

  pub put-fields-unique : (v : SlotRecord) (r₁ r₂ : List ℕ) → r₁ ≡ fields_put width at s v → r₂ ≡ fields_put width at s v → r₁ ≡ r₂
  put-fields-unique v r₁ r₂ = unique

  pub put-read-unique : (k : ℕ) (v : SlotRecord) (r₁ r₂ : List ℕ) → r₁ ≡ read_entry_put width at s k v → r₂ ≡ read_entry_put width at s k v → r₁ ≡ r₂
  put-read-unique k v r₁ r₂ = unique

  pub put-reads-unique : (v : SlotRecord) (r₁ r₂ : List ℕ) → r₁ ≡ read_log_put width at s v → r₂ ≡ read_log_put width at s v → r₁ ≡ r₂
  put-reads-unique v r₁ r₂ = unique

  pub put-writes-unique : (v : SlotRecord) (r₁ r₂ : List ℕ) → r₁ ≡ write_log_put width at s v → r₂ ≡ write_log_put width at s v → r₁ ≡ r₂
  put-writes-unique v r₁ r₂ = unique
