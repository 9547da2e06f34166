-- The logs as lists: what is searched in them and put into them, and how they stand in a record.
use Rattle.std.specs.Prelude.{Bool, true, cond, List, [], ◌∷◌, ◌++◌, ◌≡◌, ℕ, ◌-◌, eqb, ltb, length, take, replicate}
use Rattle.std.proofs.Math.Option.{Option}
use Rattle.slot.specs.Logic.{◌and◌, any, pairwise, first}
use Rattle.slot.specs.Layout.{read_capacity, write_capacity, no_read, no_write}
use Rattle.slot.specs.declared.ReadEntry.{ReadEntry}
use Rattle.slot.specs.declared.WriteEntry.{WriteEntry}
use Rattle.slot.specs.declared.SlotRecord.{SlotRecord}

-- the entry of a cell, if the log has one
unfoldable pub read_entry : List ReadEntry → ℕ → Option ReadEntry
unfolding first
read_entry reads c = first (λ (e : ReadEntry). eqb e.cell c) reads

unfoldable pub write_entry : List WriteEntry → ℕ → Option WriteEntry
unfolding first
write_entry writes c = first (λ (e : WriteEntry). eqb e.cell c) writes

-- the log has the cell
unfoldable pub reads_cell : List ReadEntry → ℕ → Bool
unfolding any
reads_cell reads c = any (λ (e : ReadEntry). eqb e.cell c) reads

unfoldable pub writes_cell : List WriteEntry → ℕ → Bool
unfolding any
writes_cell writes c = any (λ (e : WriteEntry). eqb e.cell c) writes

-- it ascends by cell
abbrev pub Ascending : List WriteEntry → Type 0
Ascending writes = pairwise (λ (e f : WriteEntry). ltb e.cell f.cell) writes ≡ true

-- puts or replaces the entry in the write log, which ascends
unfoldable pub put_write : WriteEntry → List WriteEntry → List WriteEntry
put_write e [] = e ∷ []
put_write e (x ∷ writes) =
    cond (ltb e.cell x.cell) (e ∷ x ∷ writes)
    (cond (eqb e.cell x.cell) (e ∷ writes)
    (x ∷ put_write e writes))

unfoldable pub some_marked : List ReadEntry → Bool
unfolding any
some_marked reads = any (λ (e : ReadEntry). e.mark) reads

-- some marked cell is also in the write log
unfoldable pub marked_written : List ReadEntry → List WriteEntry → Bool
unfolding any
marked_written reads writes = any (λ (e : ReadEntry). e.mark and writes_cell writes e.cell) reads

-- a log in an array of 16: unused entries all zero
abbrev pub padded_reads : List ReadEntry → List ReadEntry
padded_reads reads = reads ++ replicate (read_capacity - length reads) no_read

abbrev pub padded_writes : List WriteEntry → List WriteEntry
padded_writes writes = writes ++ replicate (write_capacity - length writes) no_write

-- the logs of a record: as many entries as its counts say
abbrev pub read_log : SlotRecord → List ReadEntry
read_log v = take v.readcount v.reads

abbrev pub write_log : SlotRecord → List WriteEntry
write_log v = take v.writecount v.writes

-- of a record: an entry of its read log is marked; a marked cell is in its write log too
abbrev pub has_mark : SlotRecord → Bool
has_mark v = some_marked (read_log v)

abbrev pub has_marked_written : SlotRecord → Bool
has_marked_written v = marked_written (read_log v) (write_log v)

-- a busy slot's record, whole, from its logs
abbrev pub busy_record : ℕ → Bool → ℕ → ℕ → ℕ → List ReadEntry → List WriteEntry → SlotRecord
busy_record phase ignoring taken start commit reads writes =
    record {
      phase = phase;
      ignoring = ignoring;
      taken = taken;
      readcount = length reads;
      writecount = length writes;
      start = start;
      commit = commit;
      reads = padded_reads reads;
      writes = padded_writes writes;
    }
