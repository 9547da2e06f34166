-- A slot's bytes are right exactly if the slot is: each clause about the record says what the clause about the slot says, and those about zeros and flags
-- hold of any slot that was laid down.
use mathlib.Core.Bool.{Bool, true, false}
use mathlib.Core.List.{List, ◌++◌}
use mathlib.Core.Path.{◌≡◌, refl, sym, ◌∙◌, ap}
use Prim.Native.Nat.{ℕ, ◌+◌, ◌*◌, ◌<◌, ◌≤◌}
use native.Mathlib.Omega.{arith}
use lib.Dec.{ltb, leb}
use lib.ListN.{get_or, drop}
use lib.Seq.{get_or-take, get_or-drop, take_at}
use borrow.Author.Tests.{ltb-false}
use Rattle.slot.specs.declared.SlotRecord.{SlotRecord}
use Rattle.slot.specs.declared.ReadEntry.{ReadEntry}
use Rattle.slot.specs.declared.WriteEntry.{WriteEntry}
use Rattle.slot.specs.Logs.{busy_record}
use Rattle.slot.specs.Layout.{read_capacity, write_capacity, no_read, no_write, bit, read_bytes, read_size, write_bytes, write_size, reads_at, writes_at, slot_size, empty, slot_bytes}
use Rattle.slot.specs.Fit.{Fitting}
use Rattle.slot.proofs.RoundTrip.{slot-back, ignoring-at, read-bytes-at, write-bytes-at, length-slot_bytes}
use Rattle.wire.specs.Field.{to_be}
use Rattle.slot.specs.Logic.{◌and◌, ◌or◌, every}
use Rattle.slot.proofs.Padding.{padded-zero}
use Rattle.rules.specs.Model.{Model}
use Rattle.rules.specs.State.{Slot, idle, opened, locking, twilight, publishing}
use Rattle.rules.specs.StateRight.{logs_right, slot_right}
use Rattle.rules.specs.Layout.{lay}
use Rattle.rules.specs.LogsRight.{no_update_lost}
use Rattle.rules.specs.AreaRight.{zeros, counts_right, flags_right, unused_zero, taken_right, commit_right, marks_right, ignoring_right, busy_right, slot_place_right}
use Rattle.rules.specs.declared.Cell.{Cell}
use Rattle.slot.proofs.Logic.{and_assoc, and-true, true-and, true-or, false-or, or-when, and_intro, every_of}
use Rattle.rules.proofs.LayView.{read-log, write-log}
use Rattle.slot.proofs.Zero.{empty-bytes}
use Rattle.rules.proofs.Zeros.{zeros-front}

bit_le : (b : Bool) → leb (bit b) 1 ≡ true
bit_le true = refl
bit_le false = refl

module _ (w : ℕ) (v : SlotRecord) (rest : List ℕ) where
  -- flags and marks are laid down as 0 or 1
  flags-laid : flags_right w (slot_bytes w v ++ rest) ≡ true
  unfolding flags_right read_bytes
  flags-laid =
      and_intro (leb (get_or (slot_bytes w v ++ rest) 1 0) 1) (every read_capacity (λ i. leb (get_or (slot_bytes w v ++ rest) (reads_at w + read_size * i + 1) 0) 1))
      (rw (ignoring-at w v rest) (bit_le v.ignoring))
      (every_of read_capacity (λ i. leb (get_or (slot_bytes w v ++ rest) (reads_at w + read_size * i + 1) 0) 1)
      (λ i h. rw (mark-at i h) (bit_le (get_or v.reads i no_read).mark)))
    where
      mark-at : (i : ℕ) → i < read_capacity → get_or (slot_bytes w v ++ rest) (reads_at w + read_size * i + 1) 0 ≡ bit (get_or v.reads i no_read).mark
      mark-at i h =
          sym (get_or-drop (reads_at w + read_size * i) (slot_bytes w v ++ rest) 1 0)
          ∙ sym (get_or-take read_size (drop (reads_at w + read_size * i) (slot_bytes w v ++ rest)) 1 0 (omega arith))
          ∙ ap (λ (k : List ℕ). get_or k 1 0) (read-bytes-at w v rest i h)

  module _ (reads_zero : (i : ℕ) → v.readcount ≤ i → i < read_capacity → get_or v.reads i no_read ≡ no_read)
      (writes_zero : (i : ℕ) → v.writecount ≤ i → i < write_capacity → get_or v.writes i no_write ≡ no_write) where
    -- unused entries are laid down as zeros
    unused-laid : unused_zero w (slot_bytes w v ++ rest) v ≡ true
    unfolding unused_zero read_bytes write_bytes to_be
    unused-laid =
        and_intro (every read_capacity read_zero) (every write_capacity write_zero)
        (every_of read_capacity read_zero reads)
        (every_of write_capacity write_zero writes)
      where
        read_zero : ℕ → Bool
        read_zero i = ltb i v.readcount or zeros read_size (drop (reads_at w + read_size * i) (slot_bytes w v ++ rest))

        write_zero : ℕ → Bool
        write_zero i = ltb i v.writecount or zeros write_size (drop (writes_at w + write_size * i) (slot_bytes w v ++ rest))

        reads : (i : ℕ) → i < read_capacity → read_zero i ≡ true
        reads i h =
            or-when (ltb i v.readcount) (zeros read_size (drop (reads_at w + read_size * i) (slot_bytes w v ++ rest)))
            (λ past.
            zeros-front read_size (drop (reads_at w + read_size * i) (slot_bytes w v ++ rest))
            (read-bytes-at w v rest i h ∙ ap read_bytes (reads_zero i (ltb-false i v.readcount past) h)))

        writes : (i : ℕ) → i < write_capacity → write_zero i ≡ true
        writes i h =
            or-when (ltb i v.writecount) (zeros write_size (drop (writes_at w + write_size * i) (slot_bytes w v ++ rest)))
            (λ past.
            zeros-front write_size (drop (writes_at w + write_size * i) (slot_bytes w v ++ rest))
            (write-bytes-at w v rest i h ∙ ap write_bytes (writes_zero i (ltb-false i v.writecount past) h)))

module _ (M : Model) (cells : List Cell) (clock : ℕ) (rest : List ℕ) where
  -- of a record that was laid down, in any phase: what is left to say once the logs are right
  busy-laid : (phase : ℕ) (ignoring : Bool) (taken start commit : ℕ) (reads : List ReadEntry) (writes : List WriteEntry)
      → let v = busy_record phase ignoring taken start commit reads writes in
      busy_right M cells clock (slot_bytes M.stamp_bytes v ++ rest) v
      ≡ (logs_right cells clock start reads writes and taken_right v and commit_right clock v and marks_right v and ignoring_right v and no_update_lost ignoring reads writes)
  unfolding busy_right counts_right logs_right
  busy-laid phase ignoring taken start commit reads writes =
      let v = busy_record phase ignoring taken start commit reads writes in
      let unused : unused_zero M.stamp_bytes (slot_bytes M.stamp_bytes v ++ rest) v ≡ true =
      unused-laid M.stamp_bytes v rest (padded-zero no_read reads read_capacity) (padded-zero no_write writes write_capacity) in
      rw (flags-laid M.stamp_bytes v rest, unused, read-log (opened start reads writes), write-log (opened start reads writes))
      (simp (and_assoc, and-true))

  -- the bytes of an idle slot
  idle-laid : zeros (slot_size M.stamp_bytes) (slot_bytes M.stamp_bytes empty ++ rest) ≡ true
  idle-laid =
      zeros-front (slot_size M.stamp_bytes) (slot_bytes M.stamp_bytes empty ++ rest)
      (take_at (slot_bytes M.stamp_bytes empty) rest (slot_size M.stamp_bytes) (length-slot_bytes M.stamp_bytes empty) ∙ empty-bytes M.stamp_bytes)

  pub slot-laid : (x : Slot) → Fitting M.stamp_bytes (lay x)
      → slot_place_right M cells clock (slot_bytes M.stamp_bytes (lay x) ++ rest) ≡ slot_right cells clock x
  unfolding slot_place_right slot_right taken_right commit_right marks_right ignoring_right no_update_lost
  slot-laid idle fit = rw (slot-back M.stamp_bytes (lay idle) rest fit, true-and) idle-laid
  slot-laid (opened start reads writes) fit =
      rw (slot-back M.stamp_bytes (lay (opened start reads writes)) rest fit, true-and, busy-laid 1 false 0 start 0 reads writes, read-log (opened start reads writes))
      (simp (true-and, and-true, false-or, true-or))
  slot-laid (locking taken start reads writes) fit =
      rw (slot-back M.stamp_bytes (lay (locking taken start reads writes)) rest fit, true-and, busy-laid 2 false taken start 0 reads writes, read-log (opened start reads writes))
      (simp (true-and, and-true, false-or, true-or))
  slot-laid (twilight ignoring start commit reads writes) fit =
      rw (slot-back M.stamp_bytes (lay (twilight ignoring start commit reads writes)) rest fit, true-and, busy-laid 3 ignoring 0 start commit reads writes, read-log (opened start reads writes))
      (simp (true-and, and-true, true-or))
  slot-laid (publishing ignoring taken start commit reads writes) fit =
      rw (slot-back M.stamp_bytes (lay (publishing ignoring taken start commit reads writes)) rest fit, true-and, busy-laid 4 ignoring taken start commit reads writes, read-log (opened start reads writes))
      (simp (true-and, false-or, true-or, and_assoc))
