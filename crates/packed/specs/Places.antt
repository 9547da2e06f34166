-- The slot at `at` of the list l, for stamps of `width` bytes: what is read of it, and what is left of l when a part of it is put.
use Rattle.std.specs.Prelude.{Bool, true, Option, List, ◌≡◌, ℕ, ◌+◌, ◌*◌, ltb, drop, get_or}
use Rattle.wire.specs.Part.{splice}
use Rattle.slot.specs.Layout.{no_read, no_write, empty, read_size, reads_at, writes_at, read_bytes, field_bytes, read_log_bytes, write_log_bytes, slot_of, slot_bytes}
use Rattle.slot.specs.Logic.{pairwise}
use Rattle.slot.specs.Logs.{read_log, write_log, read_entry, write_entry, has_mark}
use Rattle.slot.specs.Operations.{read_found, write_found}
use Rattle.slot.specs.Fields.{fields_of, without_reads}
use Rattle.slot.specs.declared.ReadEntry.{ReadEntry}
use Rattle.slot.specs.declared.WriteEntry.{WriteEntry}
use Rattle.slot.specs.declared.SlotRecord.{SlotRecord}

module _ (width at : ℕ) (l : List ℕ) where
  abbrev pub slot_in : SlotRecord
  slot_in = slot_of width (drop at l)

  -- its record with empty logs, or with its write log alone
  abbrev pub fields_at : SlotRecord
  fields_at = fields_of slot_in

  abbrev pub with_writes_at : SlotRecord
  with_writes_at = without_reads slot_in

  -- its write log ascends by cell
  abbrev pub Ascends : Type 0
  Ascends = pairwise (λ (e f : WriteEntry). ltb e.cell f.cell) (write_log slot_in) ≡ true

  -- entry k of each log, and the entry of a cell
  abbrev pub read_entry_at : ℕ → ReadEntry
  read_entry_at k = get_or slot_in.reads k no_read

  abbrev pub write_entry_at : ℕ → WriteEntry
  write_entry_at k = get_or slot_in.writes k no_write

  abbrev pub read_found_at : ℕ → Option ReadEntry
  read_found_at cell = read_found (read_entry (read_log slot_in) cell)

  abbrev pub write_found_at : ℕ → Option WriteEntry
  write_found_at cell = write_found (write_entry (write_log slot_in) cell)

  abbrev pub marked_at : Bool
  marked_at = has_mark slot_in

  -- cleared to zero throughout
  abbrev pub slot_cleared : List ℕ
  slot_cleared = splice l at (slot_bytes width empty)

  -- all but the logs of a record put, its read entry k, and each of its logs
  abbrev pub fields_put : SlotRecord → List ℕ
  fields_put v = splice l at (field_bytes width v)

  abbrev pub read_entry_put : ℕ → SlotRecord → List ℕ
  read_entry_put k v = splice l (at + (reads_at width + read_size * k)) (read_bytes (get_or v.reads k no_read))

  abbrev pub read_log_put : SlotRecord → List ℕ
  read_log_put v = splice l (at + reads_at width) (read_log_bytes v.reads)

  abbrev pub write_log_put : SlotRecord → List ℕ
  write_log_put v = splice l (at + writes_at width) (write_log_bytes v.writes)
