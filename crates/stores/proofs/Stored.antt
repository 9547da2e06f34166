-- Stores in place, in the rules' terms: what is put at an offset of a packed state packs the changed state.
use mathlib.Core.Bool.{Bool, true, false, cond}
use mathlib.Core.List.{List}
use mathlib.Core.Path.{◌≡◌, refl, sym, ap, ◌∙◌}
use Prim.Native.Nat.{ℕ, suc, ◌+◌, ◌-◌, ◌*◌, ◌<◌, ◌≤◌}
use native.Mathlib.Omega.{arith}
use borrow.Author.Tests.{eq-eqb, ne_eqb}
use lib.Dec.{eqb}
use lib.ListN.{length, get_or, set}
use lib.Seq.{set-get_or}
use Rattle.wire.specs.Part.{splice}
use Rattle.slot.specs.declared.SlotRecord.{SlotRecord}
use Rattle.slot.specs.Operations.{with_reads}
use Rattle.slot.specs.Fields.{turned_to, with_fields, with_last, with_reads_of, with_writes_of}
use Rattle.slot.specs.Layout.{read_capacity, no_read, empty, read_size, read_bytes, reads_at, writes_at, field_bytes, read_log_bytes, write_log_bytes, slot_bytes}
use Rattle.packed.proofs.PutAnew.{put-fields, put-entry, put_reads, put-writes}
use Rattle.rules.specs.Model.{controller, cell_offset, slot_offset}
use Rattle.rules.specs.State.{State, Slot, idle, cell_count, cell_at, slot_at, no_cell, turn}
use Rattle.rules.specs.Cells.{freed}
use Rattle.rules.specs.Layout.{count_in, view, pack}
use Rattle.rules.specs.declared.Cell.{Cell}
use Rattle.rules.proofs.AreaRead.{count-read, slots_read}
use Rattle.rules.proofs.Freed.{freed_from}
use Rattle.rules.proofs.Stores.{pack-slot, holder-packed, pack-holder}
use Rattle.area.specs.Good.{Good, state_in}
use Rattle.area.specs.InPlace.{slot_start, clock_now, record_at}
use Rattle.area.proofs.Good.{good-kept}
use Rattle.area.proofs.Logged.{logged-of}
use Rattle.stores.proofs.Sweep.{sweep}
use Rattle.stores.specs.Stores.{Canonical, stored, stored_fields, stored_read, stored_writes, holder_freed}

-- a slot's record put at its place among n cells
pub slot-stored : (S : State) (n i : ℕ) (v : SlotRecord) (l k : List ℕ) (at : ℕ)
    → length S.slots ≡ 8 → cell_count S ≡ n → i < 8 → Canonical v
    → l ≡ pack controller S → at ≡ slot_offset controller n i → k ≡ splice l at (slot_bytes 8 v)
    → k ≡ pack controller (turn S i S.clock S.cells (view v))
slot-stored S n i v l k at slots count h same there place put =
    put
    ∙ (λ j. splice (there j) ((place ∙ ap (λ (m : ℕ). slot_offset controller m i) (sym count)) j) (slot_bytes 8 (sym same j)))
    ∙ pack-slot controller S i (view v) slots h

-- slot i of a good area, whose bytes stand at its place
module _ {l : List ℕ} {i at : ℕ} (good : Good l) (below : i < 8) (place : at ≡ slot_start l i) where
  -- a record put over it is stored
  pub put-stored : (w : SlotRecord) (k : List ℕ) → Canonical w → k ≡ splice l at (slot_bytes 8 w) → k ≡ stored l i (clock_now l) (state_in l).cells w
  put-stored w k same put =
      slot-stored (state_in l) (count_in l) i w l k at (slots_read controller l) (count-read controller l) below same (good-kept l good) place put

  fits : at ≤ length l
  fits =
      let long = good.long in
      let cells : at ≡ 14 + 14 * count_in l + 197 * i = place in
      omega arith

  stands : splice l at (slot_bytes 8 (record_at l i)) ≡ l
  stands =
      slot-bytes-put
      ∙ ap (λ (x : List Slot). pack controller (record { clock = (state_in l).clock; cells = (state_in l).cells; slots = x })) (set-get_or (state_in l).slots i idle)
      ∙ sym (good-kept l good)
    where
      slot-bytes-put : splice l at (slot_bytes 8 (record_at l i)) ≡ pack controller (turn (state_in l) i (state_in l).clock (state_in l).cells (slot_at (state_in l) i))
      slot-bytes-put =
          (λ j. splice (good-kept l good j) ((place ∙ ap (λ (m : ℕ). slot_offset controller m i) (sym (count-read controller l))) j) (slot_bytes 8 (record_at l i)))
          ∙ pack-slot controller (state_in l) i (slot_at (state_in l) i) (slots_read controller l) below

  -- its fields put anew leave its logs
  fields-put : (w : SlotRecord) (k : List ℕ) → k ≡ splice l at (field_bytes 8 w) → k ≡ splice l at (slot_bytes 8 (with_fields (record_at l i) w))
  fields-put w k put =
      put ∙ ap (λ (x : List ℕ). splice x at (field_bytes 8 w)) (sym stands) ∙ put-fields 8 l at (record_at l i) fits w

  module _ (v : SlotRecord) where
    -- a slot that turns idle is cleared throughout, of another one the fields are put
    pub cleared-stored : (k : List ℕ) → v.phase ≡ 0 → Canonical (turned_to (record_at l i) v) → k ≡ splice l at (slot_bytes 8 empty) → k ≡ stored_fields l i v
    unfolding turned_to
    cleared-stored k zero_phase same cleared =
        let empty_now : empty ≡ turned_to (record_at l i) v = rw (eq-eqb _ _ zero_phase) in
        put-stored (turned_to (record_at l i) v) k same (cleared ∙ ap (λ (u : SlotRecord). splice l at (slot_bytes 8 u)) empty_now)

    pub fields-stored : (k : List ℕ) → (v.phase ≡ 0 → ⊥) → Canonical (turned_to (record_at l i) v) → k ≡ splice l at (field_bytes 8 v) → k ≡ stored_fields l i v
    unfolding turned_to
    fields-stored k busy same put =
        let fields_now : with_fields (record_at l i) v ≡ turned_to (record_at l i) v = rw (ne_eqb _ _ busy) in
        put-stored (turned_to (record_at l i) v) k same (fields-put v k put ∙ ap (λ (u : SlotRecord). splice l at (slot_bytes 8 u)) fields_now)

    -- and with the fields one entry of the read log, the whole read log or the whole write log
    module _ (j k : List ℕ) (first : j ≡ splice l at (field_bytes 8 v)) where
      pub read-stored : (last : ℕ) → last ≡ v.readcount - 1 → 1 ≤ v.readcount → v.readcount ≤ read_capacity → Canonical (with_last (record_at l i) v)
          → k ≡ splice j (at + (reads_at 8 + read_size * last)) (read_bytes (get_or v.reads last no_read)) → k ≡ stored_read l i v
      read-stored last place_of_last some few same second =
          put-stored (with_last (record_at l i) v) k same
          (second ∙ ap (λ (x : List ℕ). splice x (at + (reads_at 8 + read_size * last)) (read_bytes (get_or v.reads last no_read))) (fields-put v j first)
          ∙ put-entry 8 l at (with_fields (record_at l i) v) fits last (get_or v.reads last no_read) (omega arith) (logged-of l good i below (record_at l i) refl).whole
          ∙ ap (λ (n : ℕ). splice l at (slot_bytes 8 (with_reads (with_fields (record_at l i) v) v.readcount (set (record_at l i).reads n (get_or v.reads n no_read))))) place_of_last)

      pub reads-stored : Canonical (with_writes_of (record_at l i) v) → k ≡ splice j (at + reads_at 8) (read_log_bytes v.reads)
          → k ≡ stored l i (clock_now l) (state_in l).cells (with_writes_of (record_at l i) v)
      reads-stored same second =
          put-stored (with_writes_of (record_at l i) v) k same
          (second ∙ ap (λ (x : List ℕ). splice x (at + reads_at 8) (read_log_bytes v.reads)) (fields-put v j first)
          ∙ put_reads 8 l at (with_fields (record_at l i) v) fits v.reads)

      pub writes-stored : Canonical (with_reads_of (record_at l i) v) → k ≡ splice j (at + writes_at 8) (write_log_bytes v.writes) → k ≡ stored_writes l i v
      writes-stored same second =
          put-stored (with_reads_of (record_at l i) v) k same
          (second ∙ ap (λ (x : List ℕ). splice x (at + writes_at 8) (write_log_bytes v.writes)) (fields-put v j first)
          ∙ put-writes 8 l at (with_fields (record_at l i) v) fits v.writes)

-- the byte of cell c's holder cleared where it is slot i's
pub cell-freed : (S : State) (i c : ℕ) → c < cell_count S
    → holder_freed (pack controller S) (cell_offset controller c + 1) (suc i)
    ≡ pack controller (record { clock = S.clock; cells = set S.cells c (freed_from i (cell_at S c)); slots = S.slots })
unfolding holder_freed
cell-freed S i c h = rw (holder-packed controller S c h) (by (eqb (cell_at S c).holder (suc i)))
  where
    by : (b : Bool)
        → cond b (set (pack controller S) (cell_offset controller c + 1) 0) (pack controller S)
        ≡ pack controller (record { clock = S.clock; cells = set S.cells c (cond b (freed (cell_at S c)) (cell_at S c)); slots = S.slots })
    by true = pack-holder controller S c h 0
    by false = ap (λ (cells : List Cell). pack controller (record { clock = S.clock; cells = cells; slots = S.slots })) (sym (set-get_or S.cells c no_cell))

-- the state in which the first c cells are freed
abbrev pub freed_to : State → ℕ → ℕ → State
freed_to S i c = record { clock = S.clock; cells = sweep (freed_from i) no_cell S.cells c; slots = S.slots }
