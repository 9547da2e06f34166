-- Each way out of write and update, in the terms in which the code has its facts: the slot's record, and tests on its fields. Each test that was passed takes away
-- one line of the step's definition.
use Rattle.std.specs.Prelude as code
use mathlib.Core.Bool.{Bool, false}
use mathlib.Core.List.{List}
use mathlib.Core.Path.{◌≡◌, refl, ◌∙◌, ap}
use Prim.Native.Nat.{ℕ}
use Rattle.value.specs.declared.CellValue.{CellValue}
use Rattle.value.specs.Value.{word_of}
use Rattle.call.specs.declared.Answer.TheVariants.{Done}
use Rattle.call.specs.declared.Refusal.TheVariants.{LogFull}
use Rattle.slot.specs.declared.WriteEntry.{WriteEntry}
use Rattle.slot.specs.declared.SlotRecord.{SlotRecord}
use Rattle.slot.specs.Logs.{write_entry, put_write, read_log, write_log}
use Rattle.slot.specs.Operations.{write_found, written}
use Rattle.slot.proofs.Laws.Operations.{busy-written}
use Rattle.rules.specs.Model.{Model}
use Rattle.rules.specs.State.{State, Slot, opened, twilight, slot_at, turn}
use Rattle.rules.specs.Layout.{lay, view}
use Rattle.rules.specs.Outcome.{Outcome, accepted, refuse_if, inside_cells, fitting_value, in_log}
use Rattle.rules.specs.Steps.{write, update}
use Rattle.ways.specs.Asked.{no_room}
use Rattle.ways.proofs.Found.{write-sought}
use Rattle.ways.proofs.Phases.{is_open, is-twilight, when-open, when-twilight, write-count}
use Rattle.ways.proofs.Record.{Stands, stands}

-- the record with the entry put stands for the slot with the entry put
module _ (x : Slot) (v : SlotRecord) (here : v ≡ lay x) (e : WriteEntry) {w : SlotRecord} (made : w ≡ written v e) where
  pub written_stands : v.phase ≡ 1 → Stands w (opened v.start (read_log v) (put_write e (write_log v)))
  written_stands p =
      stands _
      (made ∙ ap (λ (u : SlotRecord). written u e) (here ∙ ap lay (is_open x v here p)) ∙ busy-written 1 false 0 v.start 0 (read_log v) (write_log v) e)

  pub updated-stands : v.phase ≡ 3 → Stands w (twilight v.ignoring v.start v.commit (read_log v) (put_write e (write_log v)))
  updated-stands p =
      stands _
      (made ∙ ap (λ (u : SlotRecord). written u e) (here ∙ ap lay (is-twilight x v here p))
      ∙ busy-written 3 v.ignoring 0 v.start v.commit (read_log v) (write_log v) e)

module _ (M : Model) (S : State) (i c : ℕ) (to : CellValue) where
  abbrev v : SlotRecord
  v = lay (slot_at S i)

  abbrev put : ℕ → List WriteEntry
  put word = put_write (record { cell = c; word = word }) (write_log v)

  -- write, in an open slot
  module _ (p : v.phase ≡ 1) where
    writing : write M S i c to
        ≡ inside_cells S c
        (fitting_value S c to (refuse_if (no_room v c) LogFull (accepted Done (turn S i S.clock S.cells (opened v.start (read_log v) (put (word_of to)))))))
    unfolding write
    writing = when-open (slot_at S i) _ refl p _ ∙ rw (write-count (slot_at S i) v refl)

    module _ (inside : (o : Outcome) → inside_cells S c o ≡ o) (fits : (o : Outcome) → fitting_value S c to o ≡ o) {full : Bool} (room : full ≡ no_room v c) where
      pub write-0 : full ≡ false → {word : ℕ} → word ≡ word_of to
          → write M S i c to ≡ accepted Done (turn S i S.clock S.cells (view (written v (record { cell = c; word = word }))))
      write-0 told {word} of_word =
          writing ∙ inside _ ∙ fits _ ∙ rw (← room, told, ← of_word, (written_stands (slot_at S i) v refl (record { cell = c; word = word }) refl p).viewed)

  -- update, in twilight
  module _ (p : v.phase ≡ 3) where
    updating : update M S i c to
        ≡ inside_cells S c
        (fitting_value S c to
        (in_log (write_entry (write_log v) c) λ (e : WriteEntry).
        accepted Done (turn S i S.clock S.cells (twilight v.ignoring v.start v.commit (read_log v) (put (word_of to))))))
    unfolding update
    updating = when-twilight (slot_at S i) _ refl p _

    module _ (inside : (o : Outcome) → inside_cells S c o ≡ o) (fits : (o : Outcome) → fitting_value S c to o ≡ o) {f : code.Option WriteEntry}
        (sought : f ≡ write_found (write_entry (write_log v) c)) where
      pub update-0 : {e : WriteEntry} → f ≡ code.Some e → {word : ℕ} → word ≡ word_of to
          → update M S i c to ≡ accepted Done (turn S i S.clock S.cells (view (written v (record { cell = c; word = word }))))
      update-0 told {word} of_word =
          updating ∙ inside _ ∙ fits _
          ∙ rw (
            write-sought (write_entry (write_log v) c) sought told,
            ← of_word,
            (updated-stands (slot_at S i) v refl (record { cell = c; word = word }) refl p).viewed,
          )
