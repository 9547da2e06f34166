-- Each way out of begin, read and close, in the terms in which the code has its facts: the slot's record, and tests on its fields. Each test that was passed takes away
-- one line of the step's definition.
use Rattle.std.specs.Prelude as code
use mathlib.Core.Bool.{Bool, false}
use mathlib.Core.Path.{◌≡◌, ◌∙◌, ap}
use Prim.Native.Nat.{ℕ, ◌<◌, ◌≤◌}
use borrow.Author.Tests.{lt-leb, le-ltb}
use Rattle.value.specs.declared.CellValue.{CellValue}
use Rattle.value.specs.Value.{value_of}
use Rattle.call.specs.declared.Answer.TheVariants.{Done, Value}
use Rattle.slot.specs.declared.ReadEntry.{ReadEntry}
use Rattle.slot.specs.declared.WriteEntry.{WriteEntry}
use Rattle.slot.specs.declared.SlotRecord.{SlotRecord}
use Rattle.slot.specs.Layout.{read_capacity, empty}
use Rattle.slot.specs.Logs.{read_entry, write_entry, read_log, write_log}
use Rattle.slot.specs.Operations.{read_found, write_found, begun, joined, closed}
use Rattle.rules.specs.declared.Cell.{Cell}
use Rattle.rules.specs.Model.{Model}
use Rattle.rules.specs.State.{State, cell_at, slot_at, turn, Slot, opened, locking}
use Rattle.rules.specs.Layout.{lay, view}
use Rattle.rules.specs.Cells.{held_by_other, newer}
use Rattle.rules.specs.Outcome.{Outcome, accepted, inside_cells}
use Rattle.rules.specs.Steps.{begin, read_shared, read, close}
use Rattle.ways.proofs.Found.{read-sought, write-sought}
use Rattle.ways.proofs.Phases.{is-idle, when-open, read_count, is_open}
use mathlib.Core.List.{[], ◌∷◌, ◌++◌}
use Rattle.slot.proofs.Laws.Operations.{busy-joined}
use Rattle.ways.proofs.Record.{Stands, stands}

pub begun-stands : {w : SlotRecord} {start : ℕ} → w ≡ begun empty start → Stands w (opened start [] [])
begun-stands made = stands _ made

-- v is the record of an open slot
module _ (x : Slot) (v : SlotRecord) (here : v ≡ lay x) (p : v.phase ≡ 1) where
  laid : v ≡ lay (opened v.start (read_log v) (write_log v))
  laid = here ∙ ap lay (is_open x v here p)

  pub joined-stands : (e : ReadEntry) → v.readcount < read_capacity → {w : SlotRecord} → w ≡ joined v e → Stands w (opened v.start (read_log v ++ (e ∷ [])) (write_log v))
  joined-stands e room made =
      stands _
      (made ∙ ap (λ (u : SlotRecord). joined u e) laid ∙ busy-joined 1 false 0 v.start 0 (read_log v) (write_log v) e (rw (read_count x v here) room))

  pub closed-stands : {w : SlotRecord} → w ≡ closed v → Stands w (locking 0 v.start (read_log v) (write_log v))
  closed-stands made = stands _ (made ∙ ap closed laid)

module _ (M : Model) (S : State) (i : ℕ) where
  -- v is the slot's record
  module _ {v : SlotRecord} (here : v ≡ lay (slot_at S i)) where
    pub begin-0 : v.phase ≡ 0 → {start : ℕ} {w : SlotRecord} → start ≡ S.clock → w ≡ begun v start → begin M S i ≡ accepted Done (turn S i S.clock S.cells (view w))
    unfolding begin
    begin-0 p now made = rw (is-idle (slot_at S i) v here p, (begun-stands made).viewed, now)

    pub close-0 : v.phase ≡ 1 → {w : SlotRecord} → w ≡ closed v → close M S i ≡ accepted Done (turn S i S.clock S.cells (view w))
    unfolding close
    close-0 p made = when-open (slot_at S i) v here p _ ∙ rw (closed-stands (slot_at S i) v here p made).viewed

    -- read, in an open slot
    module _ (p : v.phase ≡ 1) (c : ℕ) where
      -- the cell is in the write log; in the read log; in neither
      module _ (inside : (o : Outcome) → inside_cells S c o ≡ o) {f : code.Option WriteEntry} (sought : f ≡ write_found (write_entry (write_log v) c)) where
        pub read-written : {x : Cell} {value : CellValue} {e : WriteEntry} → x ≡ cell_at S c → f ≡ code.Some e → value ≡ value_of x.kind e.word
            → read M S i c ≡ accepted (Value value) S
        unfolding read
        read-written there told answer =
            when-open (slot_at S i) v here p _ ∙ inside _ ∙ rw (write-sought (write_entry (write_log v) c) sought told, ← there, answer)

        module _ (unwritten : f ≡ code.None) {g : code.Option ReadEntry} (looked : g ≡ read_found (read_entry (read_log v) c)) where
          pub read-logged : {x : Cell} {value : CellValue} {e : ReadEntry} → x ≡ cell_at S c → g ≡ code.Some e → value ≡ value_of x.kind e.word
              → read M S i c ≡ accepted (Value value) S
          unfolding read
          read-logged there told answer =
              when-open (slot_at S i) v here p _ ∙ inside _
              ∙ rw (write-sought (write_entry (write_log v) c) sought unwritten, read-sought (read_entry (read_log v) c) looked told, ← there, answer)

          pub read-shared : g ≡ code.None → read M S i c ≡ read_shared M S i c v.start (read_log v) (write_log v)
          unfolding read
          read-shared told =
              when-open (slot_at S i) v here p _ ∙ inside _
              ∙ rw (write-sought (write_entry (write_log v) c) sought unwritten, read-sought (read_entry (read_log v) c) looked told)

    -- a read from the shared cell x, where there is room for it, no other slot holds it, and it is no newer: it joins the read log
    module _ (c : ℕ) (room : v.readcount < read_capacity) (x : Cell) (there : x ≡ cell_at S c) {held : Bool} (asked : held ≡ held_by_other i x) (free : held ≡ false) where
      pub shared-0 : x.stamp ≤ v.start → {value : CellValue} {w : SlotRecord} → value ≡ value_of x.kind x.word → v.phase ≡ 1
          → w ≡ joined v (record { cell = c; mark = false; word = x.word })
          → read_shared M S i c v.start (read_log v) (write_log v) ≡ accepted (Value value) (turn S i S.clock S.cells (view w))
      unfolding read_shared newer
      shared-0 h answer p made =
          rw (
            read_count (slot_at S i) v here,
            lt-leb _ _ room,
            ← there,
            ← asked,
            free,
            le-ltb _ _ h,
            answer,
            (joined-stands (slot_at S i) v here p _ room made).viewed,
          )
