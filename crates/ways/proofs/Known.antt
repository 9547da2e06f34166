-- What a good area says of the write log of a slot: it has at most 16 entries, of cells below n that ascend, and unused entries are zero. Each is a sentence of
-- "well formed" for the slot, in whatever phase it is, since the logs of an idle slot are empty.
use mathlib.Core.Bool.{true}
use mathlib.Core.List.{List}
use mathlib.Core.Path.{◌≡◌}
use Prim.Native.Nat.{ℕ, ◌<◌, ◌≤◌}
use native.Mathlib.Omega.{arith}
use lib.Dec.{ltb}
use lib.ListN.{length, get_or}
use lib.Seq.{get_or-take}
use Rattle.slot.specs.declared.WriteEntry.{WriteEntry}
use Rattle.slot.specs.declared.SlotRecord.{SlotRecord}
use Rattle.slot.specs.Layout.{write_capacity, no_write}
use Rattle.slot.specs.Logic.{pairwise}
use Rattle.slot.specs.Logs.{write_log, padded_writes}
use Rattle.rules.specs.State.{slot_at}
use Rattle.rules.specs.Layout.{lay, count_in}
use Rattle.area.specs.Good.{Good, state_in}
use Rattle.area.proofs.Logged.{Logged, logged-of}
use Rattle.ways.proofs.Phases.{write-count, unused-writes}

pub record Known (l : List ℕ) (v : SlotRecord) : Type 0 where
  pub counted : length (write_log v) ≡ v.writecount
  pub writes_few : v.writecount ≤ write_capacity
  pub unused : v.writes ≡ padded_writes (write_log v)
  pub ascending : pairwise (λ (e f : WriteEntry). ltb e.cell f.cell) (write_log v) ≡ true
  pub writes_below : (k : ℕ) → k < v.writecount → (get_or v.writes k no_write).cell < count_in l

-- the record of slot i of a good area
pub known : {l : List ℕ} {i : ℕ} {v : SlotRecord} → Good l → i < 8 → v ≡ lay (slot_at (state_in l) i) → Known l v
known {l} {i} {v} good below laid =
    let logged : Logged l v = logged-of l good i below v laid in
    record {
      counted = write-count (slot_at (state_in l) i) v laid;
      writes_few = logged.writes_most;
      unused = unused-writes (slot_at (state_in l) i) v laid;
      ascending = logged.ascending;
      writes_below = logged.writes_inside;
    }

-- the write entry at "taken" of a slot that has one there: it is in the log, and its cell is one of the area's
pub record Next (l : List ℕ) (v : SlotRecord) : Type 0 where
  pub left : v.taken < write_capacity
  pub logged : get_or (write_log v) v.taken no_write ≡ get_or v.writes v.taken no_write
  pub inside : (get_or v.writes v.taken no_write).cell < count_in l

pub next : {l : List ℕ} {v : SlotRecord} → Known l v → v.taken < v.writecount → Next l v
next {v = v} k more =
    record {
      left = omega (arith, k.writes_few);
      logged = get_or-take v.writecount v.writes v.taken no_write more;
      inside = k.writes_below v.taken more;
    }
