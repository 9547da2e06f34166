-- A slot's bytes: phase, ignoring flag, taken, read count, write count (1 byte each), start and commit stamp (the width of a stamp each), the read
-- entries, then the write entries. Each definition reads from the head of a list; a slot at an offset is read from `drop offset`.
use Rattle.std.specs.Prelude.{Bool, false, cond, List, [], ◌∷◌, ◌++◌, ℕ, ◌+◌, ◌*◌, eqb, get_or, drop, replicate}
use Rattle.wire.specs.Field.{be, to_be}
use Rattle.wire.specs.Table.{cat, tab}
use Rattle.slot.specs.declared.ReadEntry.{ReadEntry}
use Rattle.slot.specs.declared.WriteEntry.{WriteEntry}
use Rattle.slot.specs.declared.SlotRecord.{SlotRecord}

-- at most 16 entries in each log
abbrev pub read_capacity : ℕ
read_capacity = 16

abbrev pub write_capacity : ℕ
write_capacity = 16

abbrev pub no_read : ReadEntry
no_read = record { cell = 0; mark = false; word = 0 }

abbrev pub no_write : WriteEntry
no_write = record { cell = 0; word = 0 }

-- the record of an idle slot: zero throughout
abbrev pub empty : SlotRecord
empty =
    record {
      phase = 0;
      ignoring = false;
      taken = 0;
      readcount = 0;
      writecount = 0;
      start = 0;
      commit = 0;
      reads = replicate read_capacity no_read;
      writes = replicate write_capacity no_write;
    }

-- a flag or a mark is 0 or 1
abbrev pub bit : Bool → ℕ
bit b = cond b 1 0

-- a read entry: cell (1), mark (1), word (4)
abbrev pub read_size : ℕ
read_size = 6

unfoldable pub read_of : List ℕ → ReadEntry
read_of l = record { cell = get_or l 0 0; mark = eqb (get_or l 1 0) 1; word = be 4 (drop 2 l) }

unfoldable pub read_bytes : ReadEntry → List ℕ
read_bytes e = e.cell ∷ bit e.mark ∷ to_be 4 e.word

-- a write entry: cell (1), word (4)
abbrev pub write_size : ℕ
write_size = 5

unfoldable pub write_of : List ℕ → WriteEntry
write_of l = record { cell = get_or l 0 0; word = be 4 (drop 1 l) }

unfoldable pub write_bytes : WriteEntry → List ℕ
write_bytes e = e.cell ∷ to_be 4 e.word

-- where each part of a slot starts, for stamps of `width` bytes, and its whole size
abbrev pub start_at : ℕ
start_at = 5

abbrev pub commit_at : ℕ → ℕ
commit_at width = 5 + width

abbrev pub reads_at : ℕ → ℕ
reads_at width = 5 + 2 * width

abbrev pub writes_at : ℕ → ℕ
writes_at width = reads_at width + read_size * read_capacity

abbrev pub slot_size : ℕ → ℕ
slot_size width = writes_at width + write_size * write_capacity

unfoldable pub slot_of : ℕ → List ℕ → SlotRecord
slot_of width l =
    record {
      phase = get_or l 0 0;
      ignoring = eqb (get_or l 1 0) 1;
      taken = get_or l 2 0;
      readcount = get_or l 3 0;
      writecount = get_or l 4 0;
      start = be width (drop start_at l);
      commit = be width (drop (commit_at width) l);
      reads = tab read_capacity (λ i. read_of (drop (reads_at width + read_size * i) l));
      writes = tab write_capacity (λ i. write_of (drop (writes_at width + write_size * i) l));
    }

-- the bytes of all but the logs
abbrev pub field_bytes : ℕ → SlotRecord → List ℕ
field_bytes width v = (v.phase ∷ bit v.ignoring ∷ v.taken ∷ v.readcount ∷ v.writecount ∷ []) ++ to_be width v.start ++ to_be width v.commit

-- the bytes of each log
abbrev pub read_log_bytes : List ReadEntry → List ℕ
read_log_bytes reads = cat read_capacity (λ i. read_bytes (get_or reads i no_read))

abbrev pub write_log_bytes : List WriteEntry → List ℕ
write_log_bytes writes = cat write_capacity (λ i. write_bytes (get_or writes i no_write))

unfoldable pub slot_bytes : ℕ → SlotRecord → List ℕ
slot_bytes width v = field_bytes width v ++ read_log_bytes v.reads ++ write_log_bytes v.writes
