-- What each function reads of an area `l` where it stands: of the whole area, of a cell, and of slot i's record.
use Rattle.std.specs.Prelude.{Bool, Option, List, ℕ, get_or}
use Rattle.slot.specs.declared.ReadEntry.{ReadEntry}
use Rattle.slot.specs.declared.SlotRecord.{SlotRecord}
use Rattle.slot.specs.declared.WriteEntry.{WriteEntry}
use Rattle.slot.specs.Fields.{fields_of, without_reads}
use Rattle.slot.specs.Layout.{no_read, no_write}
use Rattle.slot.specs.Logs.{read_log, write_log, read_entry, write_entry, some_marked}
use Rattle.slot.specs.Operations.{read_found, write_found}
use Rattle.rules.specs.Model.{controller, cell_offset, slot_offset}
use Rattle.rules.specs.State.{cell_count, cell_at, slot_at}
use Rattle.rules.specs.Layout.{count_in, lay}
use Rattle.rules.specs.declared.Cell.{Cell}
use Rattle.area.specs.Good.{state_in}

-- where a cell starts, and slot i behind the cells
abbrev pub cell_start : ℕ → ℕ
cell_start c = cell_offset controller c

abbrev pub slot_start : List ℕ → ℕ → ℕ
slot_start l i = slot_offset controller (count_in l) i

-- the number of cells, the clock, a cell
abbrev pub cell_count_in : List ℕ → ℕ
cell_count_in l = cell_count (state_in l)

abbrev pub clock_now : List ℕ → ℕ
clock_now l = (state_in l).clock

abbrev pub cell_in : List ℕ → ℕ → Cell
cell_in l c = cell_at (state_in l) c

-- the record of slot i: its phase, it with empty logs, it with its write log alone
abbrev pub record_at : List ℕ → ℕ → SlotRecord
record_at l i = lay (slot_at (state_in l) i)

abbrev pub phase_in : List ℕ → ℕ → ℕ
phase_in l i = (record_at l i).phase

abbrev pub fields_in : List ℕ → ℕ → SlotRecord
fields_in l i = fields_of (record_at l i)

abbrev pub writes_in : List ℕ → ℕ → SlotRecord
writes_in l i = without_reads (record_at l i)

-- entry k of its logs, a cell's entry in them, and whether an entry is marked
abbrev pub read_in : List ℕ → ℕ → ℕ → ReadEntry
read_in l i k = get_or (record_at l i).reads k no_read

abbrev pub write_in : List ℕ → ℕ → ℕ → WriteEntry
write_in l i k = get_or (record_at l i).writes k no_write

abbrev pub read_found_in : List ℕ → ℕ → ℕ → Option ReadEntry
read_found_in l i c = read_found (read_entry (read_log (record_at l i)) c)

abbrev pub write_found_in : List ℕ → ℕ → ℕ → Option WriteEntry
write_found_in l i c = write_found (write_entry (write_log (record_at l i)) c)

abbrev pub marked_in : List ℕ → ℕ → Bool
marked_in l i = some_marked (read_log (record_at l i))
