-- The operations of a slot's record: each gives the next record, every field of it.
use Rattle.std.specs.Prelude as code
use Rattle.std.specs.Prelude.{Bool, true, false, cond, List, [], ◌≡◌, ℕ, ◌+◌, ◌≤◌, eqb, ltb, length, set}
use Rattle.std.proofs.Math.Option.{Option, none, some}
use Rattle.slot.specs.Layout.{write_capacity, empty}
use Rattle.slot.specs.Logs.{Ascending, write_log, padded_writes, busy_record, put_write}
use Rattle.slot.specs.declared.ReadEntry.{ReadEntry}
use Rattle.slot.specs.declared.WriteEntry.{WriteEntry}
use Rattle.slot.specs.declared.SlotRecord.{SlotRecord}

-- what a search finds, as the code hands it back
module _ {A : Type 0} where
  abbrev pub found : Option A → code.Option A
  found none = code.None
  found (some x) = code.Some x

abbrev pub read_found : Option ReadEntry → code.Option ReadEntry
read_found = found

abbrev pub write_found : Option WriteEntry → code.Option WriteEntry
write_found = found

-- the record with another phase, ignoring flag, taken and commit stamp; with another read log; with another write log
abbrev pub moved : SlotRecord → ℕ → Bool → ℕ → ℕ → SlotRecord
moved v phase ignoring taken commit =
    record {
      phase = phase;
      ignoring = ignoring;
      taken = taken;
      readcount = v.readcount;
      writecount = v.writecount;
      start = v.start;
      commit = commit;
      reads = v.reads;
      writes = v.writes;
    }

abbrev pub with_reads : SlotRecord → ℕ → List ReadEntry → SlotRecord
with_reads v readcount reads =
    record {
      phase = v.phase;
      ignoring = v.ignoring;
      taken = v.taken;
      readcount = readcount;
      writecount = v.writecount;
      start = v.start;
      commit = v.commit;
      reads = reads;
      writes = v.writes;
    }

abbrev pub with_writes : SlotRecord → ℕ → List WriteEntry → SlotRecord
with_writes v writecount writes =
    record {
      phase = v.phase;
      ignoring = v.ignoring;
      taken = v.taken;
      readcount = v.readcount;
      writecount = writecount;
      start = v.start;
      commit = v.commit;
      reads = v.reads;
      writes = writes;
    }

-- give up, and a finish that aborts: idle
abbrev pub idled : SlotRecord → SlotRecord
idled v = empty

-- begin: open; the start stamp; logs empty
abbrev pub begun : SlotRecord → ℕ → SlotRecord
begun v start = busy_record 1 false 0 start 0 [] []

-- read: one more entry in the read log
abbrev pub joined : SlotRecord → ReadEntry → SlotRecord
joined v e = with_reads v (v.readcount + 1) (set v.reads v.readcount e)

-- write and update: the entry put or replaced in the write log
abbrev pub written : SlotRecord → WriteEntry → SlotRecord
written v e = with_writes v (length (put_write e (write_log v))) (padded_writes (put_write e (write_log v)))

-- a write log that has room for the entry: its count is at most 16, unused entries are zero, it ascends by cell, and with the entry it is at most 16 long
pub record Writable (v : SlotRecord) (e : WriteEntry) : Type 0 where
  pub counted : v.writecount ≤ write_capacity
  pub unused : v.writes ≡ padded_writes (write_log v)
  pub ascending : Ascending (write_log v)
  pub room : length (put_write e (write_log v)) ≤ write_capacity

-- close: locking
abbrev pub closed : SlotRecord → SlotRecord
closed v = moved v 2 v.ignoring v.taken v.commit

-- lock: one more cell taken
abbrev pub locked_one : SlotRecord → SlotRecord
locked_one v = moved v v.phase v.ignoring (v.taken + 1) v.commit

-- enter: twilight, with the read entries as they are marked and the commit stamp; taken := 0
abbrev pub entered : SlotRecord → List ReadEntry → ℕ → SlotRecord
entered v reads commit = with_reads (moved v 3 v.ignoring 0 commit) v.readcount reads

-- reload: the read entries as they are reloaded, the ignoring flag cleared, the new commit stamp; start stays
abbrev pub reloaded_with : SlotRecord → List ReadEntry → ℕ → SlotRecord
reloaded_with v reads commit = with_reads (moved v v.phase false v.taken commit) v.readcount reads

-- ignore: sets the ignoring flag
abbrev pub ignoring_set : SlotRecord → SlotRecord
ignoring_set v = moved v v.phase true v.taken v.commit

-- finish: publishing, or idle at once if the write log is empty
unfoldable pub finished : SlotRecord → SlotRecord
finished v = cond (eqb v.writecount 0) (idled v) (moved v 4 v.ignoring v.taken v.commit)

-- publish: one more cell published; after the last, idle
unfoldable pub published_one : SlotRecord → SlotRecord
published_one v =
    cond (ltb (v.taken + 1) v.writecount) (moved v v.phase v.ignoring (v.taken + 1) v.commit) (idled v)
