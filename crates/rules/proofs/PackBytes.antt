-- A well-formed state packs to bytes: whatever has one byte is below 256.
use mathlib.Core.Bool.{Bool, true, false}
use mathlib.Core.List.{List, [], ◌∷◌, ◌++◌}
use mathlib.Core.Path.{◌≡◌}
use Prim.Native.Nat.{ℕ, ◌<◌, ◌≤◌}
use native.Mathlib.Omega.{arith}
use lib.Dec.{lit<}
use lib.ListN.{length, get_or}
use borrow.Author.Tests.{leb-true, ltb-true}
use Rattle.value.proofs.RoundTrip.{legal-kind}
use Rattle.wire.specs.Field.{Bytes, to_be}
use Rattle.wire.specs.Table.{cat}
use Rattle.wire.proofs.Laws.Field.{bytes-cons, bytes-append, to_be-bytes}
use Rattle.wire.proofs.Laws.Table.{bytes-cat}
use Rattle.slot.specs.declared.ReadEntry.{ReadEntry}
use Rattle.slot.specs.declared.WriteEntry.{WriteEntry}
use Rattle.slot.specs.Logs.{busy_record}
use Rattle.slot.specs.Layout.{read_capacity, write_capacity, no_read, no_write, slot_bytes}
use Rattle.slot.specs.Fit.{Bytewise}
use Rattle.slot.proofs.RoundTrip.{slot-bytes}
use Rattle.rules.specs.Model.{Model, area_length, FitsBytes}
use Rattle.rules.specs.State.{State, Slot, idle, opened, locking, twilight, publishing, cell_count, cell_at, slot_at, no_cell}
use Rattle.rules.specs.LogsRight.{cell_right, logged_right, reads_right, writes_right, cell_count_right}
use Rattle.rules.specs.StateRight.{slot_right, holds, shape_right, state_right_but_holders, state_holders_right}
use Rattle.rules.specs.Layout.{cell_bytes, lay, header, pack}
use Rattle.rules.specs.declared.Cell.{Cell}
use Rattle.slot.proofs.Logic.{and_left, and_right, all-at}
use Rattle.rules.proofs.Holders.{holder-within}
use Rattle.rules.proofs.StateSized.{padded-each, LogsHold, logs-hold, state-sized}

cell-is-bytes : (M : Model) → FitsBytes M → (clock : ℕ) (x : Cell) → cell_right clock x ≡ true → x.holder ≤ M.slots → Bytes (cell_bytes M.stamp_bytes x)
unfolding cell_right cell_bytes
cell-is-bytes M fits clock x p holder =
    let kind = legal-kind x.kind x.word (and_left _ _ p) in
    let slots = fits.slots_fit in
    bytes-append (x.kind ∷ x.holder ∷ to_be 4 x.word) (to_be M.stamp_bytes x.stamp)
    (bytes-cons x.kind (x.holder ∷ to_be 4 x.word) (omega arith) (bytes-cons x.holder (to_be 4 x.word) (omega arith) (to_be-bytes 4 x.word)))
    (to_be-bytes M.stamp_bytes x.stamp)

module _ (cells : List Cell) (clock : ℕ) (few : length cells < 256) where
  busy-is-bytewise : (phase : ℕ) (ignoring : Bool) (taken start commit : ℕ) (reads : List ReadEntry) (writes : List WriteEntry)
      → LogsHold cells clock start reads writes → phase < 256 → taken ≤ length writes → Bytewise (busy_record phase ignoring taken start commit reads writes)
  unfolding reads_right writes_right logged_right
  busy-is-bytewise phase ignoring taken start commit reads writes logs p t =
      let reading = logs.reads_few in
      let writing = logs.writes_few in
      record {
        phase_byte = p;
        taken_byte = omega arith;
        readcount_byte = omega arith;
        writecount_byte = omega arith;
        read_cells =
            padded-each (λ (e : ReadEntry). e.cell < 256) no_read reads read_capacity (omega arith)
            (λ i h.
            let below : (get_or reads i no_read).cell < length cells =
            ltb-true _ _ (and_left _ _ (all-at (λ (e : ReadEntry). logged_right cells e.cell e.word) reads no_read (and_left _ _ logs.reads_hold) i h)) in
            omega arith);
        write_cells =
            padded-each (λ (e : WriteEntry). e.cell < 256) no_write writes write_capacity (omega arith)
            (λ i h.
            let below : (get_or writes i no_write).cell < length cells =
            ltb-true _ _ (and_left _ _ (all-at (λ (e : WriteEntry). logged_right cells e.cell e.word) writes no_write (and_left _ _ logs.writes_hold) i h)) in
            omega arith);
      }

  slot-is-bytewise : (x : Slot) → slot_right cells clock x ≡ true → Bytewise (lay x)
  unfolding slot_right
  slot-is-bytewise idle p =
      record {
        phase_byte = lit< tt;
        taken_byte = lit< tt;
        readcount_byte = lit< tt;
        writecount_byte = lit< tt;
        read_cells = padded-each (λ (e : ReadEntry). e.cell < 256) no_read [] read_capacity (omega arith) (λ i h. absurd (omega arith));
        write_cells = padded-each (λ (e : WriteEntry). e.cell < 256) no_write [] write_capacity (omega arith) (λ i h. absurd (omega arith));
      }
  slot-is-bytewise (opened start reads writes) p =
      busy-is-bytewise 1 false 0 start 0 reads writes (logs-hold cells clock start reads writes (and_left _ _ p)) (lit< tt) (omega arith)
  slot-is-bytewise (locking taken start reads writes) p =
      busy-is-bytewise 2 false taken start 0 reads writes (logs-hold cells clock start reads writes (and_left _ _ p)) (lit< tt)
      (leb-true _ _ (and_left _ _ (and_right _ _ p)))
  slot-is-bytewise (twilight ignoring start commit reads writes) p =
      busy-is-bytewise 3 ignoring 0 start commit reads writes (logs-hold cells clock start reads writes (and_left _ _ p)) (lit< tt) (omega arith)
  slot-is-bytewise (publishing ignoring taken start commit reads writes) p =
      let below : taken < length writes = ltb-true _ _ (and_left _ _ (and_right _ _ p)) in
      busy-is-bytewise 4 ignoring taken start commit reads writes (logs-hold cells clock start reads writes (and_left _ _ p)) (lit< tt) (omega arith)

pub pack-bytes : (M : Model) → FitsBytes M → (S : State) → state_right_but_holders M S ≡ true → state_holders_right S ≡ true → Bytes (pack M S)
unfolding pack header state_right_but_holders state_holders_right cell_count_right shape_right
pack-bytes M fits S right holders =
    let few : cell_count S ≤ M.cells = leb-true _ _ (and_right _ _ (and_left _ _ (and_right _ _ right))) in
    let fit = fits.cells_fit in
    let rest = and_right _ _ (and_right _ _ right) in
    let count = (state-sized M fits S right).slot_count in
    bytes-append (header M S ++ cat (cell_count S) (λ c. cell_bytes M.stamp_bytes (cell_at S c))) (cat M.slots (λ s. slot_bytes M.stamp_bytes (lay (slot_at S s))))
    (bytes-append (header M S) (cat (cell_count S) (λ c. cell_bytes M.stamp_bytes (cell_at S c)))
    (bytes-append (M.version ∷ to_be 4 (area_length M (cell_count S))) (cell_count S ∷ to_be M.stamp_bytes S.clock)
    (bytes-cons M.version (to_be 4 (area_length M (cell_count S))) fits.version_fits (to_be-bytes 4 (area_length M (cell_count S))))
    (bytes-cons (cell_count S) (to_be M.stamp_bytes S.clock) (omega arith) (to_be-bytes M.stamp_bytes S.clock)))
    (bytes-cat (cell_count S) (λ c. cell_bytes M.stamp_bytes (cell_at S c))
    (λ c h. cell-is-bytes M fits S.clock (cell_at S c) (all-at (cell_right S.clock) S.cells no_cell (and_left _ _ rest) c h) (rw (← count) (holder-within S.cells (length S.slots) (λ s d. holds (slot_at S s) d) holders c)))))
    (bytes-cat M.slots (λ s. slot_bytes M.stamp_bytes (lay (slot_at S s)))
    (λ s h.
    slot-bytes M.stamp_bytes (lay (slot_at S s))
    (slot-is-bytewise S.cells S.clock (omega arith) (slot_at S s)
    (all-at (slot_right S.cells S.clock) S.slots idle (and_left _ _ (and_right _ _ rest)) s (rw count h)))))
