-- The moves that leave every cell alone keep a state well formed: the slot goes on holding what it held, and what its tests have shown makes its logs and
-- its stamp right again.
use mathlib.Core.Bool.{Bool, true, false, not}
use mathlib.Core.List.{List, [], ◌∷◌, ◌++◌, map}
use mathlib.Core.Option.{none, some}
use mathlib.Core.Path.{◌≡◌, refl, sym, ◌∙◌, ap, subst}
use Prim.Native.Nat.{ℕ, suc, ◌<◌, ◌≤◌}
use native.Mathlib.Omega.{arith}
use lib.Dec.{leb}
use lib.ListN.{length, length-append, length-map}
use lib.Seq.{take_all}
use borrow.Author.Tests.{ltb-true, lt-ltb}
use Rattle.value.specs.declared.CellValue.{CellValue}
use Rattle.value.specs.Value.{word_of}
use Rattle.slot.specs.declared.ReadEntry.{ReadEntry}
use Rattle.slot.specs.declared.WriteEntry.{WriteEntry}
use Rattle.slot.specs.Layout.{read_capacity, write_capacity}
use Rattle.slot.specs.Logic.{◌and◌, ◌or◌, all, pairwise, any}
use Rattle.rules.specs.Model.{Model, last_stamp}
use Rattle.rules.specs.State.{State, Slot, idle, opened, locking, twilight, cell_count, cell_at, slot_at, turn, commit_of}
use Rattle.slot.specs.Logs.{read_entry, write_entry, writes_cell, put_write, some_marked, marked_written}
use Rattle.rules.specs.Cells.{with_mark, reloaded}
use Rattle.rules.specs.LogsRight.{cell_right, logged_right, reads_right, writes_right, no_update_lost}
use Rattle.rules.specs.StateRight.{holds}
use Rattle.rules.specs.Steps.{publishing_or_idle}
use Rattle.slot.proofs.Logic.{and_intro, and_left, and_right, any_append}
use Rattle.slot.proofs.Search.{write-has}
use Rattle.slot.proofs.Laws.Operations.{put-few}
use Rattle.rules.proofs.StateSized.{LogsHold}
use Rattle.history.proofs.Move.{Fitting, new_read, new_write}
use Rattle.history.proofs.Right.{Right}
use Rattle.history.proofs.Keeps.Logs.{put_same, marked-same, reads-joined, reads-changed, writes-put}
use Rattle.history.proofs.Keeps.Slots.{SlotHolds, owing-right, owing-holds}
use Rattle.history.proofs.Keeps.Turn.{slot-now, keeps-stamp, new-stamp, owing-stamp, still}

-- a commit without the flag has no mark, and one with the flag has a mark
flag_is : (marks flag : Bool) → (marks and not flag) ≡ false → (not flag or marks) ≡ true → flag ≡ marks
unfolding ◌and◌ ◌or◌
flag_is true true p q = refl
flag_is true false p q = sym p
flag_is false true p q = sym q
flag_is false false p q = refl

module _ (M : Model) (S : State) (right : Right M S) where
  legal-here : (c : ℕ) → c < cell_count S → logged_right S.cells c (cell_at S c).word ≡ true
  unfolding logged_right cell_right
  legal-here c h = and_intro _ _ (lt-ltb _ _ h) (and_left _ _ (right.cell c h))

  legal-there : (c : ℕ) (v : CellValue) → Fitting S c v → logged_right S.cells c (word_of v) ≡ true
  unfolding logged_right
  legal-there c v fit = and_intro _ _ (lt-ltb _ _ fit.inside) (rw (← fit.kind) fit.legal)

  module _ (start : ℕ) (reads : List ReadEntry) (writes : List WriteEntry) (logs : LogsHold S.cells S.clock start reads writes) where
    logs-joined : (c : ℕ) → c < cell_count S → read_entry reads c ≡ none → length reads < read_capacity
        → LogsHold S.cells S.clock start (reads ++ (new_read S c ∷ [])) writes
    logs-joined c inside new room =
        record {
          reads_few = rw (length-append reads (new_read S c ∷ [])) (omega arith);
          writes_few = logs.writes_few;
          reads_hold = reads-joined S.cells reads (new_read S c) logs.reads_hold (legal-here c inside) new;
          writes_hold = logs.writes_hold;
          start_holds = logs.start_holds;
        }

    logs-put : (c : ℕ) (v : CellValue) → Fitting S c v → (not (writes_cell writes c) and leb write_capacity (length writes)) ≡ false
        → LogsHold S.cells S.clock start reads (put_write (new_write c v) writes)
    unfolding writes_right
    logs-put c v fit room =
        record {
          reads_few = logs.reads_few;
          writes_few = put-few (new_write c v) write_capacity writes (and_right _ _ logs.writes_hold) logs.writes_few room;
          reads_hold = logs.reads_hold;
          writes_hold = writes-put S.cells writes (new_write c v) logs.writes_hold (legal-there c v fit);
          start_holds = logs.start_holds;
        }

    -- read entries get a mark or a legal word, and the clock goes on
    logs-changed : (g : ReadEntry → ReadEntry) → ((e : ReadEntry) → (g e).cell ≡ e.cell)
        → ((e : ReadEntry) → logged_right S.cells e.cell e.word ≡ true → logged_right S.cells (g e).cell (g e).word ≡ true)
        → LogsHold S.cells (suc S.clock) start (map g reads) writes
    logs-changed g cell legal =
        let begun = logs.start_holds in
        record {
          reads_few = rw (length-map reads g) logs.reads_few;
          writes_few = logs.writes_few;
          reads_hold = reads-changed S.cells g reads cell legal logs.reads_hold;
          writes_hold = logs.writes_hold;
          start_holds = omega arith;
        }

module _ (M : Model) (S : State) (right : Right M S) (i : ℕ) (inside : i < M.slots) where
  -- the slot that a move starts from is right
  pub now-is : (x : Slot) → slot_at S i ≡ x → SlotHolds S.cells S.clock x
  now-is x e = subst (SlotHolds S.cells S.clock) e (slot-now M S right i)

  -- the clock stays, or a new stamp is given
  steady : (x : Slot) → SlotHolds S.cells S.clock x → commit_of x ≡ commit_of (slot_at S i) → ((c : ℕ) → holds x c ≡ holds (slot_at S i) c)
      → Right M (turn S i S.clock S.cells x)
  steady x h k = still M S right i inside S.clock x (omega arith) right.clock_last h (keeps-stamp M S right i inside x k)

  stamped : (x : Slot) → (S.clock ≡ last_stamp M → ⊥) → SlotHolds S.cells (suc S.clock) x → commit_of x ≡ suc S.clock
      → ((c : ℕ) → holds x c ≡ holds (slot_at S i) c) → Right M (turn S i (suc S.clock) S.cells x)
  stamped x below h k =
      let last = right.clock_last in
      still M S right i inside (suc S.clock) x (omega arith) (omega arith) h (rw k (new-stamp M S right i inside (suc S.clock) (omega arith)))

  pub began-right : slot_at S i ≡ idle → Right M (turn S i S.clock S.cells (opened S.clock [] []))
  unfolding holds reads_right writes_right all pairwise some_marked any
  began-right x =
      steady (opened S.clock [] []) (
        record {
          reads_few = omega arith;
          writes_few = omega arith;
          reads_hold = and_intro _ _ refl refl;
          writes_hold = and_intro _ _ refl refl;
          start_holds = omega arith;
        },
        refl,
      )
      (rw x) (λ c. rw x)

  module _ (start : ℕ) (reads : List ReadEntry) (writes : List WriteEntry) (x : slot_at S i ≡ opened start reads writes) where
    pub read_right : (c : ℕ) → c < cell_count S → read_entry reads c ≡ none → length reads < read_capacity
        → Right M (turn S i S.clock S.cells (opened start (reads ++ (new_read S c ∷ [])) writes))
    unfolding holds some_marked any ◌or◌
    read_right c h new room =
        let (logs, unmarked) = now-is (opened start reads writes) x in
        steady (opened start (reads ++ (new_read S c ∷ [])) writes) (
          logs-joined M S right start reads writes logs c h new room,
          any_append (λ (e : ReadEntry). e.mark) reads (new_read S c ∷ []) ∙ rw unmarked,
        )
        (rw x) (λ c. rw x)

    pub wrote_right : (c : ℕ) (v : CellValue) → Fitting S c v → (not (writes_cell writes c) and leb write_capacity (length writes)) ≡ false
        → Right M (turn S i S.clock S.cells (opened start reads (put_write (new_write c v) writes)))
    unfolding holds
    wrote_right c v fit room =
        let (logs, unmarked) = now-is (opened start reads writes) x in
        steady (opened start reads (put_write (new_write c v) writes)) (logs-put M S right start reads writes logs c v fit room, unmarked) (rw x) (λ c. rw x)

    pub closed-right : Right M (turn S i S.clock S.cells (locking 0 start reads writes))
    unfolding holds writes_cell any
    closed-right =
        let (logs, unmarked) = now-is (opened start reads writes) x in
        steady (locking 0 start reads writes) (logs, omega arith, unmarked) (rw x) (λ c. rw x)

  pub entered-right : (count start : ℕ) (reads : List ReadEntry) (writes : List WriteEntry) → slot_at S i ≡ locking count start reads writes → length writes ≤ count
      → (S.clock ≡ last_stamp M → ⊥)
      → Right M (turn S i (suc S.clock) S.cells (twilight false start (suc S.clock) (map (with_mark S i start) reads) writes))
  unfolding holds with_mark ◌or◌ no_update_lost
  entered-right count start reads writes x whole below =
      let (logs, taken, unmarked) = now-is (locking count start reads writes) x in
      let begun = logs.start_holds in
      stamped (twilight false start (suc S.clock) (map (with_mark S i start) reads) writes) below
      (logs-changed M S right start reads writes logs (with_mark S i start) (λ e. refl) (λ e h. h), omega arith, omega arith, refl, refl)
      refl (λ c. rw (x, take_all count writes whole))

  module _ (ignoring : Bool) (start commit : ℕ) (reads : List ReadEntry) (writes : List WriteEntry) (x : slot_at S i ≡ twilight ignoring start commit reads writes) where
    twilight-now : SlotHolds S.cells S.clock (twilight ignoring start commit reads writes)
    twilight-now = now-is (twilight ignoring start commit reads writes) x

    pub updated-right : (c : ℕ) (v : CellValue) (e : WriteEntry) → Fitting S c v → write_entry writes c ≡ some e
        → Right M (turn S i S.clock S.cells (twilight ignoring start commit reads (put_write (new_write c v) writes)))
    unfolding holds ◌and◌ no_update_lost
    updated-right c v e fit found =
        let (logs, above, given, flag, kept) = twilight-now in
        let there = write-has writes c e found in
        steady (twilight ignoring start commit reads (put_write (new_write c v) writes))
        (logs-put M S right start reads writes logs c v fit (rw there), above, given, flag, rw (marked-same writes (put_write (new_write c v) writes) (λ d. put_same (new_write c v) writes d there) reads) kept)
        (rw x) (λ d. rw x (put_same (new_write c v) writes d there))

    pub reloaded-right : (S.clock ≡ last_stamp M → ⊥)
        → Right M (turn S i (suc S.clock) S.cells (twilight false start (suc S.clock) (map (reloaded S) reads) writes))
    unfolding holds reloaded ◌or◌ logged_right no_update_lost
    reloaded-right below =
        let (logs, above, given, flag, kept) = twilight-now in
        let begun = logs.start_holds in
        stamped (twilight false start (suc S.clock) (map (reloaded S) reads) writes) below
        (logs-changed M S right start reads writes logs (reloaded S) (λ e. refl) (λ e h. legal-here M S right e.cell (ltb-true _ _ (and_left _ _ h))), omega arith, omega arith, refl, refl)
        refl (λ c. rw x)

    pub ignored-right : marked_written reads writes ≡ false → some_marked reads ≡ true → Right M (turn S i S.clock S.cells (twilight true start commit reads writes))
    unfolding holds ◌or◌ no_update_lost
    ignored-right free m =
        let (logs, above, given, flag, kept) = twilight-now in
        steady (twilight true start commit reads writes) (logs, above, given, m, ap not free) (rw x) (λ c. rw x)

    pub committed-right : (some_marked reads and not ignoring) ≡ false
        → Right M (turn S i S.clock S.cells (publishing_or_idle ignoring 0 start commit reads writes))
    unfolding holds
    committed-right m =
        let (logs, above, given, flag, kept) = twilight-now in
        still M S right i inside S.clock (publishing_or_idle ignoring 0 start commit reads writes) (omega arith) right.clock_last
        (owing-right S.cells S.clock ignoring 0 start commit reads writes logs above given (flag_is _ _ m flag) kept)
        (owing-stamp M S right i inside ignoring 0 start commit reads writes (rw x))
        (λ c. rw x (owing-holds ignoring 0 start commit reads writes c))
