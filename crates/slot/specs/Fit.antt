-- What a record or its bytes must meet for a round trip.
use Rattle.std.specs.Prelude.{◌≡◌, List, ℕ, ◌+◌, ◌*◌, ◌^◌, ◌≤◌, ◌<◌, length, get_or}
use Rattle.slot.specs.Layout.{read_capacity, write_capacity, no_read, no_write, read_size, reads_at}
use Rattle.slot.specs.declared.SlotRecord.{SlotRecord}

-- the stamps fit their width, the words 4 bytes, and each log has all of its entries: the record is read back from its bytes
pub record Fitting (width : ℕ) (v : SlotRecord) : Type 0 where
  pub start_fits : v.start < 256 ^ width
  pub commit_fits : v.commit < 256 ^ width
  pub reads_length : length v.reads ≡ read_capacity
  pub writes_length : length v.writes ≡ write_capacity
  pub read_words : (i : ℕ) → i < read_capacity → (get_or v.reads i no_read).word < 2 ^ 32
  pub write_words : (i : ℕ) → i < write_capacity → (get_or v.writes i no_write).word < 2 ^ 32

-- what stands in one byte fits it: the bytes of the record are bytes
pub record Bytewise (v : SlotRecord) : Type 0 where
  pub phase_byte : v.phase < 256
  pub taken_byte : v.taken < 256
  pub readcount_byte : v.readcount < 256
  pub writecount_byte : v.writecount < 256
  pub read_cells : (i : ℕ) → i < read_capacity → (get_or v.reads i no_read).cell < 256
  pub write_cells : (i : ℕ) → i < write_capacity → (get_or v.writes i no_write).cell < 256

-- the flag and the marks are 0 or 1: the bytes are written back from the record that they stand for
pub record Flagged (width : ℕ) (l : List ℕ) : Type 0 where
  pub flag : get_or l 1 0 ≤ 1
  pub marks : (i : ℕ) → i < read_capacity → get_or l (reads_at width + read_size * i + 1) 0 ≤ 1
