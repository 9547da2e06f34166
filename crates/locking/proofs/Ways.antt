-- Each way out of lock and enter, in the terms in which the code has its facts: the slot's record, and tests on its fields. Each test that was passed takes away
-- one line of the step's definition.
use mathlib.Core.Bool.{Bool, false, not}
use mathlib.Core.List.{List, map}
use mathlib.Core.Path.{◌≡◌, sym, ◌∙◌, ap}
use Prim.Native.Nat.{ℕ, suc, ◌+◌, ◌<◌, ◌≤◌}
use native.Mathlib.Numerals.{add-one}
use lib.ListN.{get_or, set, length-map}
use lib.Seq.{get_or-take}
use borrow.Author.Tests.{lt-leb, le-ltb}
use Rattle.call.specs.declared.Answer.TheVariants.{Done, Verdict}
use Rattle.slot.specs.declared.ReadEntry.{ReadEntry}
use Rattle.slot.specs.declared.WriteEntry.{WriteEntry}
use Rattle.slot.specs.declared.SlotRecord.{SlotRecord}
use Rattle.slot.specs.Layout.{no_write}
use Rattle.slot.specs.Logs.{read_log, write_log, padded_reads, some_marked}
use Rattle.slot.specs.Operations.{locked_one, entered}
use Rattle.slot.proofs.Laws.Operations.{busy-locked, busy-entered}
use Rattle.rules.specs.declared.Cell.{Cell}
use Rattle.rules.specs.Model.{Model}
use Rattle.rules.specs.State.{State, Slot, locking, twilight, cell_at, slot_at, turn}
use Rattle.rules.specs.Layout.{lay, view}
use Rattle.rules.specs.Cells.{held_by_other, with_mark}
use Rattle.rules.specs.Outcome.{Outcome, accepted, below_last_stamp}
use Rattle.rules.specs.Steps.{lock, enter}
use Rattle.ways.proofs.Phases.{is-locking, write-count}
use Rattle.ways.proofs.Record.{Stands, stands}

-- v is the record of a locking slot
module _ (x : Slot) (v : SlotRecord) (here : v ≡ lay x) (p : v.phase ≡ 2) where
  laid : v ≡ lay (locking v.taken v.start (read_log v) (write_log v))
  laid = here ∙ ap lay (is-locking x v here p)

  pub locked-stands : {w : SlotRecord} → w ≡ locked_one v → Stands w (locking (suc v.taken) v.start (read_log v) (write_log v))
  locked-stands made = stands _ (made ∙ ap locked_one laid ∙ busy-locked 2 false v.taken v.start 0 (read_log v) (write_log v))

  -- with each entry of the read log changed by f
  pub entered-stands : (f : ReadEntry → ReadEntry) {w : SlotRecord} {reads : List ReadEntry} {commit : ℕ} → reads ≡ padded_reads (map f (read_log v)) → w ≡ entered v reads commit
      → Stands w (twilight false v.start commit (map f (read_log v)) (write_log v))
  entered-stands f {commit = commit} anew made =
      stands _
      (made
      ∙ (λ j. entered (laid j) (anew j) commit)
      ∙ busy-entered 2 false v.taken v.start 0 (read_log v) (write_log v) (map f (read_log v)) commit (length-map (read_log v) f))

module _ (M : Model) (S : State) (i : ℕ) where
  -- v is the record of the slot, which is locking
  module _ {v : SlotRecord} (here : v ≡ lay (slot_at S i)) (p : v.phase ≡ 2) where
    -- lock: the next cell, which no other slot holds, is taken
    pub lock-0 : v.taken < v.writecount → {e : WriteEntry} → get_or v.writes v.taken no_write ≡ e → {x : Cell} → x ≡ cell_at S e.cell → {held : Bool}
        → held ≡ held_by_other i x → held ≡ false → {w : SlotRecord} → w ≡ locked_one v
        → lock M S i
        ≡ accepted Done
        (turn S i S.clock (set S.cells e.cell (record { kind = x.kind; holder = i + 1; word = x.word; stamp = x.stamp })) (view w))
    unfolding lock
    lock-0 missing entry there asked free made =
        rw (
          is-locking (slot_at S i) v here p,
          write-count (slot_at S i) v here,
          lt-leb _ _ missing,
          get_or-take v.writecount v.writes v.taken no_write missing,
          entry,
          ← there,
          ← asked,
          free,
          add-one,
          (locked-stands (slot_at S i) v here p made).viewed,
        )

    -- enter: a stamp is taken, all cells being taken
    pub enter-0 : v.writecount ≤ v.taken → ((o : Outcome) → below_last_stamp M S o ≡ o) → {k : ℕ} → k ≡ S.clock + 1 → {w : SlotRecord} {reads : List ReadEntry}
        → reads ≡ padded_reads (map (with_mark S i v.start) (read_log v)) → w ≡ entered v reads k
        → enter M S i ≡ accepted (Verdict (not (some_marked (read_log w)))) (turn S i k S.cells (view w))
    unfolding enter
    enter-0 taken more next marked made =
        let there = entered-stands (slot_at S i) v here p (with_mark S i v.start) marked made in
        let stamp : suc S.clock ≡ _ = sym (next ∙ add-one S.clock) in
        rw (is-locking (slot_at S i) v here p, write-count (slot_at S i) v here, le-ltb v.taken v.writecount taken, more, stamp, there.viewed, there.reads)
