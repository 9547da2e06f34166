-- A slot's record without its logs or with one of them, and how it is put back: a step takes and hands back what it needs, and the rest stays as it stands.
use Rattle.std.specs.Prelude.{cond, ◌-◌, eqb, get_or, set, replicate}
use Rattle.slot.specs.Layout.{read_capacity, write_capacity, no_read, no_write, empty}
use Rattle.slot.specs.Operations.{with_reads, with_writes}
use Rattle.slot.specs.declared.SlotRecord.{SlotRecord}

-- the record with empty logs
abbrev pub fields_of : SlotRecord → SlotRecord
fields_of v =
    record {
      phase = v.phase;
      ignoring = v.ignoring;
      taken = v.taken;
      readcount = v.readcount;
      writecount = v.writecount;
      start = v.start;
      commit = v.commit;
      reads = replicate read_capacity no_read;
      writes = replicate write_capacity no_write;
    }

-- the fields of w with the logs of v
abbrev pub with_fields : SlotRecord → SlotRecord → SlotRecord
with_fields v w =
    record {
      phase = w.phase;
      ignoring = w.ignoring;
      taken = w.taken;
      readcount = w.readcount;
      writecount = w.writecount;
      start = w.start;
      commit = w.commit;
      reads = v.reads;
      writes = v.writes;
    }

-- the same, but a slot that turns idle is cleared to zero throughout
unfoldable pub turned_to : SlotRecord → SlotRecord → SlotRecord
turned_to v w = cond (eqb w.phase 0) empty (with_fields v w)

-- the fields of w with the logs of v, of which the read log has the last entry of w's
abbrev pub with_last : SlotRecord → SlotRecord → SlotRecord
with_last v w = with_reads (with_fields v w) w.readcount (set v.reads (w.readcount - 1) (get_or w.reads (w.readcount - 1) no_read))

-- the record with its write log alone
abbrev pub without_reads : SlotRecord → SlotRecord
without_reads v = with_reads v v.readcount (replicate read_capacity no_read)

-- w with the read log of v, or with its write log
abbrev pub with_reads_of : SlotRecord → SlotRecord → SlotRecord
with_reads_of v w = with_reads w w.readcount v.reads

abbrev pub with_writes_of : SlotRecord → SlotRecord → SlotRecord
with_writes_of v w = with_writes w w.writecount v.writes
