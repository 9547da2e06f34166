-- Each store's contract leaves one area at exit.
use mathlib.Core.List.{List}
use mathlib.Core.Path.{◌≡◌}
use Prim.Native.Nat.{ℕ}
use Rattle.wire.proofs.Unique.{unique}
use Rattle.slot.specs.declared.SlotRecord.{SlotRecord}
use Rattle.rules.specs.declared.Cell.{Cell}
use Rattle.stores.specs.Stores.{stored_fields, stored_fields_cell, stored_read, stored_writes, stored_reads_clock, stored_freed, cell_put}

module _ (l : List ℕ) where
  pub put-cell-unique : (at : ℕ) (x : Cell) (l₁ l₂ : List ℕ) → l₁ ≡ cell_put l at x → l₂ ≡ cell_put l at x → l₁ ≡ l₂
  put-cell-unique at x l₁ l₂ = unique

  module _ (i : ℕ) where
    module _ (v : SlotRecord) where
      pub store-freed-unique : (l₁ l₂ : List ℕ) → l₁ ≡ stored_freed l i v → l₂ ≡ stored_freed l i v → l₁ ≡ l₂
      store-freed-unique l₁ l₂ = unique

      pub store-fields-unique : (l₁ l₂ : List ℕ) → l₁ ≡ stored_fields l i v → l₂ ≡ stored_fields l i v → l₁ ≡ l₂
      store-fields-unique l₁ l₂ = unique

      pub store-fields-cell-unique : (c : ℕ) (x : Cell) (l₁ l₂ : List ℕ) → l₁ ≡ stored_fields_cell l i v c x → l₂ ≡ stored_fields_cell l i v c x → l₁ ≡ l₂
      store-fields-cell-unique c x l₁ l₂ = unique

      pub store-read-unique : (l₁ l₂ : List ℕ) → l₁ ≡ stored_read l i v → l₂ ≡ stored_read l i v → l₁ ≡ l₂
      store-read-unique l₁ l₂ = unique

      pub store-writes-unique : (l₁ l₂ : List ℕ) → l₁ ≡ stored_writes l i v → l₂ ≡ stored_writes l i v → l₁ ≡ l₂
      store-writes-unique l₁ l₂ = unique

      pub store-reads-clock-unique : (clock : ℕ) (l₁ l₂ : List ℕ) → l₁ ≡ stored_reads_clock l i v clock → l₂ ≡ stored_reads_clock l i v clock → l₁ ≡ l₂
      store-reads-clock-unique clock l₁ l₂ = unique
