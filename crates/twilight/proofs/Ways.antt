-- Each way out of reload and ignore that changes the slot, in the terms in which the code has its facts: the slot's record, and tests on its fields. Each test that was passed takes away
-- one line of the step's definition.
use Rattle.std.specs.Prelude as code
use mathlib.Core.Bool.{Bool, true, false}
use mathlib.Core.List.{List, map}
use mathlib.Core.Option.{Option, none, some}
use mathlib.Core.Path.{◌≡◌, refl, sym, ◌∙◌, ap}
use Prim.Native.Nat.{ℕ, suc, ◌+◌}
use native.Mathlib.Numerals.{add-one}
use lib.ListN.{length-map}
use Rattle.call.specs.declared.Answer.TheVariants.{Done}
use Rattle.call.specs.declared.Refusal.{Refusal}
use Rattle.slot.specs.declared.ReadEntry.{ReadEntry}
use Rattle.slot.specs.declared.SlotRecord.{SlotRecord}
use Rattle.slot.specs.Logs.{read_log, write_log, padded_reads, some_marked, marked_written, busy_record}
use Rattle.slot.specs.Operations.{reloaded_with, ignoring_set}
use Rattle.slot.proofs.Laws.Operations.{busy-reloaded, busy-ignoring}
use Rattle.rules.specs.Model.{Model}
use Rattle.rules.specs.State.{State, Slot, twilight, slot_at, turn}
use Rattle.rules.specs.Layout.{lay, view}
use Rattle.rules.specs.Cells.{reloaded, obstacle}
use Rattle.rules.specs.Outcome.{Outcome, refused, accepted, below_last_stamp}
use Rattle.rules.specs.Steps.{reload, ignore}
use Rattle.readlog.specs.declared.Held.{Held}
use Rattle.readlog.specs.Reload.{obstacle_of}
use Rattle.ways.proofs.Phases.{is-twilight, when-twilight}
use Rattle.ways.proofs.Record.{Stands, stands}

-- where nothing stands in reload's way, no obstacle was found
clear : (S : State) (o : Option ReadEntry) {k : code.Option Held} → k ≡ obstacle_of S o → k ≡ code.None → o ≡ none
clear S none found told = refl
clear S (some e) found told = let two : obstacle_of S (some e) ≡ code.None = sym found ∙ told in cc

-- v is the record of a slot in twilight
module _ (x : Slot) (v : SlotRecord) (here : v ≡ lay x) (p : v.phase ≡ 3) where
  laid : v ≡ busy_record 3 v.ignoring 0 v.start v.commit (read_log v) (write_log v)
  laid = here ∙ ap lay (is-twilight x v here p)

  -- with each entry of the read log changed by f
  pub reloaded-stands : (f : ReadEntry → ReadEntry) {w : SlotRecord} {reads : List ReadEntry} {commit : ℕ} → reads ≡ padded_reads (map f (read_log v)) → w ≡ reloaded_with v reads commit
      → Stands w (twilight false v.start commit (map f (read_log v)) (write_log v))
  reloaded-stands f {commit = commit} anew made =
      stands _
      (made
      ∙ (λ j. reloaded_with (laid j) (anew j) commit)
      ∙ busy-reloaded 3 v.ignoring 0 v.start v.commit (read_log v) (write_log v) (map f (read_log v)) commit (length-map (read_log v) f))

  pub ignoring-stands : {w : SlotRecord} → w ≡ ignoring_set v → Stands w (twilight true v.start v.commit (read_log v) (write_log v))
  ignoring-stands made = stands _ (made ∙ ap ignoring_set laid ∙ busy-ignoring 3 v.ignoring 0 v.start v.commit (read_log v) (write_log v))

module _ (M : Model) (S : State) (i : ℕ) where
  -- v is the record of the slot, which is in twilight
  module _ {v : SlotRecord} (here : v ≡ lay (slot_at S i)) (p : v.phase ≡ 3) where
    -- reload, where no cell is held by another: there is no next stamp; it is taken
    module _ {k : code.Option Held} (sought : k ≡ obstacle_of S (obstacle S i (read_log v))) (told : k ≡ code.None) where
      pub reload-12 : {e : Refusal} → ((o : Outcome) → below_last_stamp M S o ≡ refused e) → reload M S i ≡ refused e
      unfolding reload
      reload-12 none-left = when-twilight (slot_at S i) v here p _ ∙ rw (clear S (obstacle S i (read_log v)) sought told) (none-left _)

      pub reload-0 : ((o : Outcome) → below_last_stamp M S o ≡ o) → {stamp : ℕ} → stamp ≡ S.clock + 1 → {w : SlotRecord} {reads : List ReadEntry}
          → reads ≡ padded_reads (map (reloaded S) (read_log v)) → w ≡ reloaded_with v reads stamp → reload M S i ≡ accepted Done (turn S i stamp S.cells (view w))
      unfolding reload
      reload-0 more next anew made =
          let stamped : suc S.clock ≡ _ = sym (next ∙ add-one S.clock) in
          when-twilight (slot_at S i) v here p _
          ∙ rw (
            clear S (obstacle S i (read_log v)) sought told,
            more,
            stamped,
            (reloaded-stands (slot_at S i) v here p (reloaded S) anew made).viewed,
          )

    -- ignore: a marked cell is in the write log too; something is marked, or nothing
    module _ {lost : Bool} (both : lost ≡ marked_written (read_log v) (write_log v)) where
      module _ (kept : lost ≡ false) {marked : Bool} (some : marked ≡ some_marked (read_log v)) where
        pub ignore-0 : {w : SlotRecord} → marked ≡ true → w ≡ ignoring_set v → ignore M S i ≡ accepted Done (turn S i S.clock S.cells (view w))
        unfolding ignore
        ignore-0 so made = when-twilight (slot_at S i) v here p _ ∙ rw (← both, kept, ← some, so, (ignoring-stands (slot_at S i) v here p made).viewed)

        pub ignore-none : marked ≡ false → ignore M S i ≡ accepted Done S
        unfolding ignore
        ignore-none never = when-twilight (slot_at S i) v here p _ ∙ rw (← both, kept, ← some, never)
