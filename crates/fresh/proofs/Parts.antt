-- The lay-out in parts: header, cells and slots, put one after the other over the whole area, are what `pack` gives of a fresh state.
use mathlib.Core.Bool.{true, false}
use mathlib.Core.List.{List, ◌++◌}
use mathlib.Core.Path.{◌≡◌, sym, ap, ◌∙◌}
use Prim.Native.Nat.{ℕ, ◌+◌, ◌*◌, ◌≤◌}
use native.Mathlib.Omega.{arith}
use borrow.Author.Tests.{eqb-true, leb-true}
use lib.ListN.{length, get_or, drop, replicate, length-append, get_or-replicate}
use Rattle.wire.specs.Part.{splice}
use Rattle.wire.specs.Table.{cat}
use Rattle.wire.proofs.Laws.Field.{length-to_be}
use Rattle.wire.proofs.Laws.Table.{cat-ext, length-cat}
use Rattle.wire.proofs.Laws.Part.{splice-next, splice-whole}
use Rattle.slot.specs.Layout.{empty, slot_bytes}
use Rattle.slot.proofs.Logic.{and_left, and_right}
use Rattle.slot.proofs.RoundTrip.{length-slot_bytes}
use Rattle.rules.specs.Model.{controller, area_length}
use Rattle.rules.specs.State.{idle, no_cell}
use Rattle.rules.specs.LogsRight.{cell_count_right}
use Rattle.rules.specs.Layout.{cell_bytes, lay, header, pack}
use Rattle.rules.specs.Area.{described_count, described_cell, described_cells, fresh, lengths_fit, lay_out}
use Rattle.rules.proofs.CellBytes.{length-cell_bytes}
use Rattle.rules.proofs.LaidOut.{described-length, described-at}
use Rattle.fresh.specs.LaidOut.{LaidOut}
use Rattle.fresh.specs.Parts.{described_legal, fresh_header, fresh_cells, fresh_slots}

-- what the test of the lengths shows
pub record Lengths (a ds : List ℕ) : Type 0 where
  pub many : described_count ds ≤ 64
  pub long : length a ≡ 1590 + 14 * described_count ds

pub lengths-of : (a ds : List ℕ) → lengths_fit controller a ds ≡ true → Lengths a ds
unfolding lengths_fit cell_count_right
lengths-of a ds p =
    let count = and_left _ _ (and_right _ _ p) in
    let long : length a ≡ area_length controller (described_count ds) = eqb-true _ _ (and_right _ _ (and_right _ _ p)) in
    record { many = leb-true _ _ (and_right _ _ count); long = omega arith }

module _ (ds : List ℕ) where
  -- the three parts are a fresh state's
  parts : fresh_header (described_count ds) ++ fresh_cells (described_count ds) ds ++ fresh_slots ≡ pack controller (fresh controller (described_cells ds))
  unfolding pack header
  parts =
      let cells : fresh_cells (described_count ds) ds ≡ cat (described_count ds) (λ c. cell_bytes 8 (get_or (described_cells ds) c no_cell)) =
      cat-ext (described_count ds) (λ c. cell_bytes 8 (described_cell (drop (5 * c) ds))) (λ c. cell_bytes 8 (get_or (described_cells ds) c no_cell))
      (λ c h. ap (cell_bytes 8) (sym (described-at ds c h))) in
      let slots : fresh_slots ≡ cat 8 (λ i. slot_bytes 8 (lay (get_or (replicate 8 idle) i idle))) =
      cat-ext 8 (λ i. slot_bytes 8 empty) (λ i. slot_bytes 8 (lay (get_or (replicate 8 idle) i idle)))
      (λ i h. ap (λ x. slot_bytes 8 (lay x)) (sym (get_or-replicate 8 i idle idle h))) in
      rw (described-length ds) (λ i. fresh_header (described_count ds) ++ cells i ++ slots i)

  -- put one after the other over a whole area they leave it packed
  pub laid_out : (a x y z : List ℕ) → length a ≡ 1590 + 14 * described_count ds
      → x ≡ splice a 0 (fresh_header (described_count ds)) → y ≡ splice x 14 (fresh_cells (described_count ds) ds) → z ≡ splice y (14 + 14 * described_count ds) fresh_slots
      → z ≡ pack controller (fresh controller (described_cells ds))
  laid_out a x y z long first second third =
      let n = described_count ds in
      let head : length (fresh_header n) ≡ 14 = simp (length-append, length-to_be) in
      let cells : length (fresh_cells n ds) ≡ 14 * n =
      length-cat 14 n (λ c. cell_bytes 8 (described_cell (drop (5 * c) ds))) (λ c h. length-cell_bytes 8 (described_cell (drop (5 * c) ds))) in
      let slots : length fresh_slots ≡ 197 * 8 = length-cat 197 8 (λ i. slot_bytes 8 empty) (λ i h. length-slot_bytes 8 empty) in
      let two = splice-next a 0 (fresh_header n) (fresh_cells n ds) x y 14 (omega arith) (rw head) first second in
      let three =
      splice-next a 0 (fresh_header n ++ fresh_cells n ds) fresh_slots y z (14 + 14 * n) (omega arith) (rw (length-append, head, cells) (omega arith)) two third in
      three
      ∙ splice-whole a (fresh_header n ++ fresh_cells n ds ++ fresh_slots) (rw (length-append, length-append, head, cells, slots) (omega arith))
      ∙ parts

-- the three ways out
module _ (a ds : List ℕ) where
  pub wrong-lengths : lengths_fit controller a ds ≡ false → LaidOut a ds 1 a
  unfolding lay_out
  wrong-lengths p = record { answer = rw p; bytes = rw p }

  pub wrong-value : lengths_fit controller a ds ≡ true → described_legal ds ≡ false → LaidOut a ds 6 a
  unfolding lay_out
  wrong-value p q = record { answer = rw (p, q); bytes = rw (p, q) }

  pub all_right : (b : List ℕ) → lengths_fit controller a ds ≡ true → described_legal ds ≡ true → b ≡ pack controller (fresh controller (described_cells ds))
      → LaidOut a ds 0 b
  unfolding lay_out
  all_right b p q e = record { answer = rw (p, q); bytes = rw (p, q) e }
