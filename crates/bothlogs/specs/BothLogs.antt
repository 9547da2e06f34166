-- What the two logs of a slot say of one another: the slot at `at` of the list l, for stamps of `width` bytes.
use Rattle.std.specs.Prelude.{Bool, List, ℕ, ◌+◌, ◌≤◌, ◌<◌, eqb, length, get_or}
use Rattle.wire.specs.Table.{tab}
use Rattle.slot.specs.declared.ReadEntry.{ReadEntry}
use Rattle.slot.specs.Layout.{read_capacity, write_capacity, no_read, no_write, slot_size}
use Rattle.slot.specs.Logic.{◌and◌, any}
use Rattle.slot.specs.Logs.{has_marked_written}
use Rattle.packed.specs.Places.{slot_in, Ascends}

-- the slot is there, its stamps have at most 8 bytes, its counts are at most 16, the cells in its logs are below 64, and its write log ascends
pub record Indexed (width at : ℕ) (l : List ℕ) : Type 0 where
  pub narrow : width ≤ 8
  pub size : at + slot_size width ≤ length l
  pub reads : (slot_in width at l).readcount ≤ read_capacity
  pub writes : (slot_in width at l).writecount ≤ write_capacity
  pub reads_below : (k : ℕ) → k < (slot_in width at l).readcount → (get_or (slot_in width at l).reads k no_read).cell < 64
  pub writes_below : (k : ℕ) → k < (slot_in width at l).writecount → (get_or (slot_in width at l).writes k no_write).cell < 64
  pub ascending : Ascends width at l

-- the read log has the cell with a mark
unfoldable pub marks_cell : List ReadEntry → ℕ → Bool
marks_cell reads c = any (λ (e : ReadEntry). e.mark and eqb c e.cell) reads

-- for each cell whether that is so
abbrev pub marked_table : List ReadEntry → List Bool
marked_table reads = tab 64 (marks_cell reads)

-- some marked cell is also in the write log
abbrev pub marked_written_at : (width at : ℕ) → List ℕ → Bool
marked_written_at width at l = has_marked_written (slot_in width at l)
