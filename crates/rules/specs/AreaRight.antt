-- "Well formed means all of": of any bytes, a named clause for each sentence.
use Rattle.std.specs.Prelude.{Bool, false, not, cond, List, ℕ, ◌+◌, ◌*◌, eqb, ltb, leb, length, get_or, take, drop}
use Rattle.slot.specs.declared.SlotRecord.{SlotRecord}
use Rattle.slot.specs.Layout.{read_capacity, write_capacity, read_size, write_size, reads_at, writes_at, empty, slot_of}
use Rattle.slot.specs.Logic.{◌and◌, ◌or◌, every, all, pairwise}
use Rattle.rules.specs.Model.{Model, size_of_slot, area_length}
use Rattle.slot.specs.Logs.{writes_cell, some_marked, read_log, write_log}
use Rattle.rules.specs.LogsRight.{cell_right, reads_right, writes_right, no_update_lost, cell_count_right, commit_between, stamps_apart, holders_right}
use Rattle.rules.specs.Layout.{version_in, length_in, count_in, clock_in, slot_place, cells_in, records_in}
use Rattle.rules.specs.declared.Cell.{Cell}

-- the first `count` bytes are zero
unfoldable pub zeros : ℕ → List ℕ → Bool
zeros count l = every count (λ i. eqb (get_or l i 0) 0)

-- the lent length, the length field and the formula agree
unfoldable pub lengths_agree : Model → List ℕ → Bool
lengths_agree M a = eqb (length a) (area_length M (count_in a)) and eqb (length_in a) (length a)

-- version 1
unfoldable pub version_right : Model → List ℕ → Bool
version_right M a = eqb (version_in a) M.version

-- counts at most 16
unfoldable pub counts_right : SlotRecord → Bool
counts_right v = leb v.readcount read_capacity and leb v.writecount write_capacity

-- flags and marks 0 or 1: the bytes, of which a record says only whether they are 1
unfoldable pub flags_right : ℕ → List ℕ → Bool
flags_right width l = leb (get_or l 1 0) 1 and every read_capacity (λ i. leb (get_or l (reads_at width + read_size * i + 1) 0) 1)

-- unused entries all zero
unfoldable pub unused_zero : ℕ → List ℕ → SlotRecord → Bool
unused_zero width l v =
    every read_capacity (λ i. ltb i v.readcount or zeros read_size (drop (reads_at width + read_size * i) l))
    and every write_capacity (λ i. ltb i v.writecount or zeros write_size (drop (writes_at width + write_size * i) l))

-- "Taken" is locks taken in phase 2, cells published in phase 4 (less than the write count), else 0, and never above the write count.
unfoldable pub taken_right : SlotRecord → Bool
taken_right v =
    cond (eqb v.phase 2) (leb v.taken v.writecount)
    (cond (eqb v.phase 4) (ltb v.taken v.writecount)
    (eqb v.taken 0))

-- The commit stamp is 0 in phases 0 to 2; in 3 and 4 it is above start, at most the clock ..
unfoldable pub commit_right : ℕ → SlotRecord → Bool
commit_right clock v = cond (leb v.phase 2) (eqb v.commit 0) (commit_between v.start v.commit clock)

-- Marks are 0 before phase 3.
unfoldable pub marks_right : SlotRecord → Bool
marks_right v = leb 3 v.phase or not (some_marked (read_log v))

-- The flag is 1 only if some mark is 1; in phase 4 a mark requires the flag.
unfoldable pub ignoring_right : SlotRecord → Bool
ignoring_right v =
    (not v.ignoring or some_marked (read_log v)) and (not (eqb v.phase 4) or not (some_marked (read_log v)) or v.ignoring)

-- a slot that is not idle
unfoldable pub busy_right : Model → List Cell → ℕ → List ℕ → SlotRecord → Bool
busy_right M cells clock l v =
    counts_right v
    and reads_right cells (read_log v)
    and writes_right cells (write_log v)
    and leb v.start clock
    and taken_right v
    and commit_right clock v
    and marks_right v
    and ignoring_right v
    and no_update_lost v.ignoring (read_log v) (write_log v)
    and flags_right M.stamp_bytes l
    and unused_zero M.stamp_bytes l v

-- phases 0 to 4; an idle slot all zero, which meets every other sentence. `l` are the bytes from the slot on
unfoldable pub slot_place_right : Model → List Cell → ℕ → List ℕ → Bool
slot_place_right M cells clock l =
    let v = slot_of M.stamp_bytes l in
    leb v.phase 4 and cond (eqb v.phase 0) (zeros (size_of_slot M) l) (busy_right M cells clock l v)

-- .. and different from any other slot's.
unfoldable pub commits_apart : List SlotRecord → Bool
commits_apart records = pairwise (λ (v u : SlotRecord). stamps_apart v.commit u.commit) records

-- all but the holders
unfoldable pub well_formed_but_holders : Model → List ℕ → Bool
well_formed_but_holders M a =
    lengths_agree M a
    and version_right M a
    and cell_count_right M (count_in a)
    and all (cell_right (clock_in M a)) (cells_in M a)
    and every M.slots (λ s. slot_place_right M (cells_in M a) (clock_in M a) (slot_place M a s))
    and commits_apart (records_in M a)

-- the cells that a slot has to hold: s is in phase 2 and the cell is among the first "taken" of its write log, or in phase 3 and in the log, or in phase 4
-- and in the log but not among the first "taken"
unfoldable pub record_holds : SlotRecord → ℕ → Bool
record_holds v c =
    cond (eqb v.phase 2) (writes_cell (take v.taken (write_log v)) c)
    (cond (eqb v.phase 3) (writes_cell (write_log v) c)
    (cond (eqb v.phase 4) (writes_cell (drop v.taken (write_log v)) c)
    false))

-- Holders legal; a cell's holder is s exactly if that is so.
unfoldable pub area_holders_right : Model → List ℕ → Bool
area_holders_right M a = holders_right (cells_in M a) M.slots (λ s c. record_holds (get_or (records_in M a) s empty) c)

unfoldable pub well_formed : Model → List ℕ → Bool
well_formed M a = well_formed_but_holders M a and area_holders_right M a
