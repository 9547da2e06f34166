-- "Right" of a slot as facts, phase by phase. It asks of the cells only their number and kinds, and of the clock only that it is not less: so a slot stays
-- right while other slots go on.
use mathlib.Core.Bool.{Bool, true, false, not}
use mathlib.Core.List.{List}
use mathlib.Core.Path.{◌≡◌, refl, sym, ap}
use Prim.Native.Nat.{ℕ, ◌<◌, ◌≤◌}
use native.Mathlib.Omega.{arith}
use lib.Dec.{ltb}
use lib.ListN.{length, drop, drop_of_length-le}
use borrow.Author.Tests.{leb-true, le-leb, ltb-true, lt-ltb, ltb-false, not-true}
use Rattle.slot.specs.declared.ReadEntry.{ReadEntry}
use Rattle.slot.specs.declared.WriteEntry.{WriteEntry}
use Rattle.rules.specs.declared.Cell.{Cell}
use Rattle.slot.specs.Logic.{◌or◌}
use Rattle.rules.specs.State.{Slot, idle, opened, locking, twilight, publishing, commit_of}
use Rattle.slot.specs.Logs.{writes_cell, some_marked}
use Rattle.rules.specs.LogsRight.{logged_right, reads_right, writes_right, no_update_lost, commit_between}
use Rattle.rules.specs.StateRight.{logs_right, slot_right, holds}
use Rattle.rules.specs.Steps.{publishing_or_idle}
use Rattle.slot.proofs.Logic.{and_intro, and_left, and_right}
use Rattle.rules.proofs.StateSized.{LogsHold, logs-hold}
use Rattle.history.proofs.Keeps.Lists.{cond-elim}
use Rattle.history.proofs.Keeps.Kinds.{SameKinds}

-- a flag that needs a mark, and marks that need the flag
not-or : (a : Bool) → (not a or a) ≡ true
unfolding ◌or◌
not-or true = refl
not-or false = refl

flags-eq : (a b : Bool) → (not a or b) ≡ true → (not b or a) ≡ true → a ≡ b
unfolding ◌or◌
flags-eq true b p q = sym p
flags-eq false true p q = q
flags-eq false false p q = refl

abbrev pub SlotHolds : List Cell → ℕ → Slot → Type 0
SlotHolds cells clock idle = Unit
SlotHolds cells clock (opened start reads writes) = LogsHold cells clock start reads writes × (some_marked reads ≡ false)
SlotHolds cells clock (locking taken start reads writes) = LogsHold cells clock start reads writes × (taken ≤ length writes) × (some_marked reads ≡ false)
SlotHolds cells clock (twilight ignoring start commit reads writes) =
    LogsHold cells clock start reads writes × (start < commit) × (commit ≤ clock) × ((not ignoring or some_marked reads) ≡ true)
    × (no_update_lost ignoring reads writes ≡ true)
SlotHolds cells clock (publishing ignoring taken start commit reads writes) =
    LogsHold cells clock start reads writes × (taken < length writes) × (start < commit) × (commit ≤ clock) × (ignoring ≡ some_marked reads)
    × (no_update_lost ignoring reads writes ≡ true)

module _ (cells : List Cell) (clock : ℕ) where
  logs-right : (start : ℕ) (reads : List ReadEntry) (writes : List WriteEntry) → LogsHold cells clock start reads writes → logs_right cells clock start reads writes ≡ true
  unfolding logs_right
  logs-right start reads writes h =
      and_intro _ _ (le-leb _ _ h.reads_few)
      (and_intro _ _ (le-leb _ _ h.writes_few) (and_intro _ _ h.reads_hold (and_intro _ _ h.writes_hold (le-leb _ _ h.start_holds))))

  pub slot-holds : (x : Slot) → slot_right cells clock x ≡ true → SlotHolds cells clock x
  unfolding slot_right commit_between
  slot-holds idle p = tt
  slot-holds (opened start reads writes) p = (logs-hold cells clock start reads writes (and_left _ _ p), not-true _ (and_right _ _ p))
  slot-holds (locking taken start reads writes) p =
      let q = and_right _ _ p in
      (logs-hold cells clock start reads writes (and_left _ _ p), leb-true _ _ (and_left _ _ q), not-true _ (and_right _ _ q))
  slot-holds (twilight ignoring start commit reads writes) p =
      let q = and_right _ _ p in
      let k = and_left _ _ q in
      (logs-hold cells clock start reads writes (and_left _ _ p), ltb-true _ _ (and_left _ _ k), leb-true _ _ (and_right _ _ k), and_left _ _ (and_right _ _ q), and_right _ _ (and_right _ _ q))
  slot-holds (publishing ignoring taken start commit reads writes) p =
      let q = and_right _ _ p in
      let r = and_right _ _ q in
      let k = and_left _ _ r in
      let flags = and_right _ _ r in (
        logs-hold cells clock start reads writes (and_left _ _ p),
        ltb-true _ _ (and_left _ _ q),
        ltb-true _ _ (and_left _ _ k),
        leb-true _ _ (and_right _ _ k),
        flags-eq _ _ (and_left _ _ flags) (and_left _ _ (and_right _ _ flags)),
        and_right _ _ (and_right _ _ flags),
      )

  pub slot-right : (x : Slot) → SlotHolds cells clock x → slot_right cells clock x ≡ true
  unfolding slot_right commit_between
  slot-right idle h = refl
  slot-right (opened start reads writes) h = and_intro _ _ (logs-right start reads writes h.0) (ap not h.1)
  slot-right (locking taken start reads writes) h =
      and_intro _ _ (logs-right start reads writes h.0) (and_intro _ _ (le-leb _ _ h.1) (ap not h.2))
  slot-right (twilight ignoring start commit reads writes) h =
      and_intro _ _ (logs-right start reads writes h.0) (and_intro _ _ (and_intro _ _ (lt-ltb _ _ h.1) (le-leb _ _ h.2)) (and_intro _ _ h.3 h.4))
  slot-right (publishing ignoring taken start commit reads writes) h =
      and_intro _ _ (logs-right start reads writes h.0)
      (and_intro _ _ (lt-ltb _ _ h.1)
      (and_intro _ _ (and_intro _ _ (lt-ltb _ _ h.2) (le-leb _ _ h.3))
      (and_intro _ _ (rw h.4 (not-or (some_marked reads))) (and_intro _ _ (rw h.4 (not-or (some_marked reads))) h.5))))

  -- a commit stamp is at most the clock
  pub commit-given : (x : Slot) → SlotHolds cells clock x → commit_of x ≤ clock
  commit-given idle h = omega arith
  commit-given (opened start reads writes) h = omega arith
  commit-given (locking taken start reads writes) h = omega arith
  commit-given (twilight ignoring start commit reads writes) h = h.2
  commit-given (publishing ignoring taken start commit reads writes) h = h.3

  -- publishing from the k-th on: idle if there is none
  module _ (ignoring : Bool) (k start commit : ℕ) (reads : List ReadEntry) (writes : List WriteEntry) where
    pub owing-right : LogsHold cells clock start reads writes → start < commit → commit ≤ clock → ignoring ≡ some_marked reads
        → no_update_lost ignoring reads writes ≡ true
        → SlotHolds cells clock (publishing_or_idle ignoring k start commit reads writes)
    unfolding publishing_or_idle
    owing-right logs above given flag kept =
        cond-elim (SlotHolds cells clock) (ltb k (length writes)) _ _ (λ h. (logs, ltb-true _ _ h, above, given, flag, kept)) (λ h. tt)

pub owing-holds : (ignoring : Bool) (k start commit : ℕ) (reads : List ReadEntry) (writes : List WriteEntry) (c : ℕ)
    → holds (publishing_or_idle ignoring k start commit reads writes) c ≡ writes_cell (drop k writes) c
unfolding publishing_or_idle holds writes_cell
owing-holds ignoring k start commit reads writes c =
    cond-elim (λ (x : Slot). holds x c ≡ writes_cell (drop k writes) c) (ltb k (length writes)) _ _ (λ h. refl)
    (λ h. rw (drop_of_length-le writes (ltb-false _ _ h)))

-- the slot stays right
module _ (cells next : List Cell) (clock later : ℕ) (kinds : SameKinds cells next) (rises : clock ≤ later) where
  logged-kept : (c w : ℕ) → logged_right next c w ≡ logged_right cells c w
  unfolding logged_right
  logged-kept c w = rw (kinds.count, kinds.kind c)

  logs-kept : (start : ℕ) (reads : List ReadEntry) (writes : List WriteEntry) → LogsHold cells clock start reads writes → LogsHold next later start reads writes
  unfolding reads_right writes_right
  logs-kept start reads writes h =
      let begun = h.start_holds in
      record {
        reads_few = h.reads_few;
        writes_few = h.writes_few;
        reads_hold = simp logged-kept h.reads_hold;
        writes_hold = simp logged-kept h.writes_hold;
        start_holds = omega arith;
      }

  pub slot_kept : (x : Slot) → SlotHolds cells clock x → SlotHolds next later x
  slot_kept idle h = tt
  slot_kept (opened start reads writes) h = (logs-kept start reads writes h.0, h.1)
  slot_kept (locking taken start reads writes) h = (logs-kept start reads writes h.0, h.1, h.2)
  slot_kept (twilight ignoring start commit reads writes) h =
      let given = h.2 in
      (logs-kept start reads writes h.0, h.1, omega arith, h.3, h.4)
  slot_kept (publishing ignoring taken start commit reads writes) h =
      let given = h.3 in
      (logs-kept start reads writes h.0, h.1, h.2, omega arith, h.4, h.5)
