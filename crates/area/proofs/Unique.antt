-- Each public function's contract leaves one answer: it says that the answer is one value.
use mathlib.Core.Bool.{Bool}
use mathlib.Core.List.{List}
use mathlib.Core.Path.{◌≡◌}
use Prim.Native.Nat.{ℕ}
use Rattle.std.specs.Prelude.{Option}
use Rattle.wire.proofs.Unique.{unique}
use Rattle.slot.specs.declared.ReadEntry.{ReadEntry}
use Rattle.slot.specs.declared.SlotRecord.{SlotRecord}
use Rattle.slot.specs.declared.WriteEntry.{WriteEntry}
use Rattle.rules.specs.Cells.{held_by_other}
use Rattle.rules.specs.declared.Cell.{Cell}
use Rattle.area.specs.InPlace.{cell_start, slot_start, cell_count_in, clock_now, cell_in, phase_in, fields_in, writes_in, read_in, write_in, read_found_in, write_found_in, marked_in}

pub cell-offset-unique : (c : ℕ) (r₁ r₂ : ℕ) → r₁ ≡ cell_start c → r₂ ≡ cell_start c → r₁ ≡ r₂
cell-offset-unique c r₁ r₂ = unique

pub held-by-other-unique : (i : ℕ) (x : Cell) (r₁ r₂ : Bool) → r₁ ≡ held_by_other i x → r₂ ≡ held_by_other i x → r₁ ≡ r₂
held-by-other-unique i x r₁ r₂ = unique

module _ (l : List ℕ) where
  pub count-unique : (r₁ r₂ : ℕ) → r₁ ≡ cell_count_in l → r₂ ≡ cell_count_in l → r₁ ≡ r₂
  count-unique r₁ r₂ = unique

  pub clock-unique : (r₁ r₂ : ℕ) → r₁ ≡ clock_now l → r₂ ≡ clock_now l → r₁ ≡ r₂
  clock-unique r₁ r₂ = unique

  pub cell-at-unique : (c : ℕ) (r₁ r₂ : Cell) → r₁ ≡ cell_in l c → r₂ ≡ cell_in l c → r₁ ≡ r₂
  cell-at-unique c r₁ r₂ = unique

  module _ (i : ℕ) where
    pub offset-unique : (r₁ r₂ : ℕ) → r₁ ≡ slot_start l i → r₂ ≡ slot_start l i → r₁ ≡ r₂
    offset-unique r₁ r₂ = unique

    pub phase-unique : (r₁ r₂ : ℕ) → r₁ ≡ phase_in l i → r₂ ≡ phase_in l i → r₁ ≡ r₂
    phase-unique r₁ r₂ = unique

    pub fields-unique : (r₁ r₂ : SlotRecord) → r₁ ≡ fields_in l i → r₂ ≡ fields_in l i → r₁ ≡ r₂
    fields-unique r₁ r₂ = unique

    pub with-writes-unique : (r₁ r₂ : SlotRecord) → r₁ ≡ writes_in l i → r₂ ≡ writes_in l i → r₁ ≡ r₂
    with-writes-unique r₁ r₂ = unique

    pub read-entry-unique : (k : ℕ) (r₁ r₂ : ReadEntry) → r₁ ≡ read_in l i k → r₂ ≡ read_in l i k → r₁ ≡ r₂
    read-entry-unique k r₁ r₂ = unique

    pub write-entry-unique : (k : ℕ) (r₁ r₂ : WriteEntry) → r₁ ≡ write_in l i k → r₂ ≡ write_in l i k → r₁ ≡ r₂
    write-entry-unique k r₁ r₂ = unique

    pub find-read-unique : (c : ℕ) (r₁ r₂ : Option ReadEntry) → r₁ ≡ read_found_in l i c → r₂ ≡ read_found_in l i c → r₁ ≡ r₂
    find-read-unique c r₁ r₂ = unique

    pub find-write-unique : (c : ℕ) (r₁ r₂ : Option WriteEntry) → r₁ ≡ write_found_in l i c → r₂ ≡ write_found_in l i c → r₁ ≡ r₂
    find-write-unique c r₁ r₂ = unique

    pub some-marked-unique : (r₁ r₂ : Bool) → r₁ ≡ marked_in l i → r₂ ≡ marked_in l i → r₁ ≡ r₂
    some-marked-unique r₁ r₂ = unique
