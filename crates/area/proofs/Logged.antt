-- The logs of a slot of a good area: each fits its array, each entry is of a cell of the area, and the write log ascends, since the slot's logs are right.
use mathlib.Core.Bool.{true}
use mathlib.Core.List.{List}
use mathlib.Core.Path.{◌≡◌, refl, ap, ◌∙◌}
use Prim.Native.Nat.{ℕ, ◌≤◌, ◌<◌}
use lib.Dec.{ltb}
use lib.ListN.{length, get_or}
use Rattle.slot.specs.declared.ReadEntry.{ReadEntry}
use Rattle.slot.specs.declared.WriteEntry.{WriteEntry}
use Rattle.slot.specs.declared.SlotRecord.{SlotRecord}
use Rattle.slot.specs.Layout.{read_capacity, write_capacity, no_read, no_write}
use Rattle.slot.specs.Logic.{pairwise}
use Rattle.slot.specs.Logs.{padded_reads, write_log}
use Rattle.slot.proofs.Logic.{and_left, and_right, all-at}
use Rattle.slot.proofs.Padding.{length-padded}
use Rattle.packed.specs.Places.{slot_in}
use Rattle.rules.specs.Model.{controller}
use Rattle.rules.specs.State.{Slot, idle, opened, locking, twilight, publishing, reads_of, writes_of, start_of, slot_at}
use Rattle.rules.specs.LogsRight.{reads_right, writes_right}
use Rattle.rules.specs.StateRight.{slot_right, state_right_but_holders}
use Rattle.rules.specs.Layout.{count_in, lay}
use Rattle.rules.proofs.StateSized.{LogsHold, slot-logs-hold}
use Rattle.rules.proofs.LayView.{read-log, write-log}
use Rattle.rules.proofs.LogFront.{front-inside}
use Rattle.rules.proofs.RoundTrip.{state-right, state-but-holders}
use Rattle.rules.proofs.AreaRead.{count-read, slots_read}
use Rattle.area.specs.Good.{Good, state_in}
use Rattle.area.specs.InPlace.{slot_start, record_at, fields_in}
use Rattle.area.proofs.SlotRead.{slot-of}

-- each log of v fits its array, each entry is of a cell of the area, and the write log ascends
pub record Logged (l : List ℕ) (v : SlotRecord) : Type 0 where
  pub whole : length v.reads ≡ read_capacity
  pub reads_most : v.readcount ≤ read_capacity
  pub reads_inside : (k : ℕ) → k < v.readcount → (get_or v.reads k no_read).cell < count_in l
  pub writes_most : v.writecount ≤ write_capacity
  pub writes_inside : (k : ℕ) → k < v.writecount → (get_or v.writes k no_write).cell < count_in l
  pub ascending : pairwise (λ (e f : WriteEntry). ltb e.cell f.cell) (write_log v) ≡ true

-- a slot's record has its read log, padded, and the lengths of both logs
reads-laid : (x : Slot) → (lay x).reads ≡ padded_reads (reads_of x)
reads-laid idle = refl
reads-laid (opened start reads writes) = refl
reads-laid (locking taken start reads writes) = refl
reads-laid (twilight ignoring start commit reads writes) = refl
reads-laid (publishing ignoring taken start commit reads writes) = refl

counts-laid : (x : Slot) → ((lay x).readcount ≡ length (reads_of x)) × ((lay x).writecount ≡ length (writes_of x))
counts-laid idle = (refl, refl)
counts-laid (opened start reads writes) = (refl, refl)
counts-laid (locking taken start reads writes) = (refl, refl)
counts-laid (twilight ignoring start commit reads writes) = (refl, refl)
counts-laid (publishing ignoring taken start commit reads writes) = (refl, refl)

-- each slot of a good area is right
pub slot-holds : (l : List ℕ) → Good l → (i : ℕ) → i < 8 → slot_right (state_in l).cells (state_in l).clock (slot_at (state_in l) i) ≡ true
unfolding state_right_but_holders
slot-holds l good i h =
    let right = state-but-holders controller (state_in l) (state-right controller l good.bytes good.right) in
    all-at (slot_right (state_in l).cells (state_in l).clock) (state_in l).slots idle (and_left _ _ (and_right _ _ (and_right _ _ (and_right _ _ right)))) i
    (rw (slots_read controller l) h)

-- the record of a slot whose logs hold
logged-laid : (l : List ℕ) (x : Slot) → LogsHold (state_in l).cells (state_in l).clock (start_of x) (reads_of x) (writes_of x) → Logged l (lay x)
unfolding reads_right writes_right
logged-laid l x logs =
    record {
      whole = ap length (reads-laid x) ∙ length-padded no_read (reads_of x) read_capacity logs.reads_few;
      reads_most = rw (counts-laid x).0 logs.reads_few;
      reads_inside = rw (← count-read controller l)
          (front-inside (λ (e : ReadEntry). e.cell) (λ (e : ReadEntry). e.word) no_read (state_in l).cells (lay x).reads (reads_of x) (lay x).readcount
          (read-log x) (counts-laid x).0 (and_left _ _ logs.reads_hold));
      writes_most = rw (counts-laid x).1 logs.writes_few;
      writes_inside = rw (← count-read controller l)
          (front-inside (λ (e : WriteEntry). e.cell) (λ (e : WriteEntry). e.word) no_write (state_in l).cells (lay x).writes (writes_of x) (lay x).writecount
          (write-log x) (counts-laid x).1 (and_left _ _ logs.writes_hold));
      ascending = rw (write-log x) (and_right _ _ logs.writes_hold);
    }

-- the record of a slot of a good area
pub logged-of : (l : List ℕ) → Good l → (i : ℕ) → i < 8 → (v : SlotRecord) → v ≡ lay (slot_at (state_in l) i) → Logged l v
logged-of l good i h v e =
    rw e (logged-laid l (slot_at (state_in l) i) (slot-logs-hold (state_in l).cells (state_in l).clock (slot_at (state_in l) i) (slot-holds l good i h)))

-- as it is read where it stands
pub logged-at : {l : List ℕ} {i at : ℕ} → Good l → i < 8 → at ≡ slot_start l i → Logged l (slot_in 8 at l)
logged-at {l} {i} {at} good below place = logged-of l good i below (slot_in 8 at l) (slot-of good below place)

-- its read log, of which the slot's fields give the count
pub record Counted (l : List ℕ) (i n : ℕ) : Type 0 where
  pub count : n ≡ (record_at l i).readcount
  pub logged : Logged l (record_at l i)

pub counted_of : {l : List ℕ} {i : ℕ} {h : SlotRecord} → Good l → i < 8 → h ≡ fields_in l i → Counted l i h.readcount
counted_of {l = l} {i = i} good below e =
    record { count = ap (λ (u : SlotRecord). u.readcount) e; logged = logged-of l good i below (record_at l i) refl }
