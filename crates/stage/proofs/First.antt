-- The area of a good sheet: it is laid out whatever the lent bytes were, and is well formed after any number of steps.
use mathlib.Core.Bool.{Bool, true, false}
use mathlib.Core.List.{List}
use mathlib.Core.Path.{◌≡◌, refl, sym, ap, ◌∙◌}
use Prim.Native.Nat.{ℕ, zero, suc, ◌+◌, ◌*◌}
use native.Mathlib.Omega.{arith}
use borrow.Author.Tests.{eq-eqb, le-leb}
use lib.ListN.{length, drop, length-drop, length-replicate}
use lib.Seq.{length-take-le}
use Rattle.wire.specs.Field.{Bytes}
use Rattle.wire.proofs.Laws.Table.{length-tab}
use Rattle.slot.proofs.Logic.{and_intro, and_right}
use Rattle.rules.specs.Model.{controller, area_length}
use Rattle.rules.specs.StateRight.{state_right}
use Rattle.rules.specs.LogsRight.{cell_count_right}
use Rattle.rules.specs.Layout.{pack}
use Rattle.rules.specs.AreaRight.{well_formed}
use Rattle.rules.specs.Area.{at_rest, described_count, described_cell, described_cells, fresh, lengths_fit, lay_out}
use Rattle.rules.proofs.Controller.{controller-fits}
use Rattle.rules.proofs.LaidOut.{laid-right, lays-out}
use Rattle.rules.proofs.Places.{length-pack}
use Rattle.rules.proofs.RoundTrip.{pack-right, round_trip}
use Rattle.history.proofs.Keeps.{keeps}
use Rattle.fresh.specs.Parts.{described_legal}
use Rattle.apart.specs.Apart.{described_length, descriptions, good_sheet}
use Rattle.apart.proofs.Apart.{GoodParts, good-parts}
use Rattle.stage.specs.Calls.{call_at, area_after}
use Rattle.stage.specs.First.{blank, first_area, LongIsBad}

-- an area as a step leaves it
pub record Kept (a : List ℕ) : Type 0 where
  pub right : well_formed controller a ≡ true
  pub bytes : Bytes a

pub kept-after : (a l : List ℕ) → Kept a → (k : ℕ) → Kept (area_after a l k)
unfolding area_after
kept-after a l h zero = h
kept-after a l h (suc k) =
    let before = kept-after a l h k in
    record {
      right = (keeps controller controller-fits).area_kept (area_after a l k) (call_at l k) before.bytes before.right;
      bytes = (keeps controller controller-fits).bytes_kept (area_after a l k) (call_at l k) before.bytes before.right;
    }

-- a good sheet has at most 33,093 bytes, so a longer one is bad
pub long-is-bad : LongIsBad
long-is-bad s h = by (good_sheet s) refl
  where
    by : (b : Bool) → good_sheet s ≡ b → good_sheet s ≡ false
    by true p = let good = good-parts s p in absurd (omega arith)
    by false p = p

module _ {s : List ℕ} {cells first steps : ℕ} (good : GoodParts s cells first steps) where
  described-long : length (descriptions s) ≡ 5 * cells
  described-long = length-take-le (described_length s) (drop 3 s) (rw length-drop (omega (arith, good.long))) ∙ sym good.size

  fit : (a : List ℕ) → length a ≡ 1590 + 14 * cells → lengths_fit controller a (descriptions s) ≡ true
  unfolding lengths_fit cell_count_right
  fit a long =
      let n : described_count (descriptions s) ≡ cells = omega (arith, described-long) in
      let five : 5 * described_count (descriptions s) ≡ length (descriptions s) = omega (arith, described-long) in
      let size : length a ≡ area_length controller cells = omega arith in
      and_intro _ _ (eq-eqb _ _ five)
      (and_intro _ _ (rw n (and_intro _ _ (le-leb 1 cells good.few) (le-leb cells 64 good.many))) (rw n (eq-eqb _ _ size)))

  legal : described_legal (descriptions s) ≡ true
  unfolding good_sheet
  legal = and_right _ _ (and_right _ _ (and_right _ _ (and_right _ _ good.right)))

  accepted : (a : List ℕ) → length a ≡ 1590 + 14 * cells → (lay_out controller a (descriptions s)).code ≡ 0
  unfolding lay_out
  accepted a long = rw (fit a long, legal)

  zeros : length (blank s) ≡ 1590 + 14 * cells
  zeros = rw (length-replicate, ← good.count) (omega arith)

  pub first-packed : first_area s ≡ pack controller (fresh controller (described_cells (descriptions s)))
  first-packed = (lays-out controller controller-fits).packed (blank s) (descriptions s) (accepted (blank s) zeros)

  pub first-long : length (first_area s) ≡ 1590 + 14 * cells
  unfolding described_cells
  first-long =
      let ds = descriptions s in
      let n : described_count ds ≡ cells = omega (arith, described-long) in
      let m : length (described_cells ds) ≡ described_count ds = length-tab (described_count ds) (λ i. described_cell (drop (5 * i) ds)) in
      ap length first-packed ∙ length-pack controller (fresh controller (described_cells ds)) ∙ omega (arith, m, n)

  -- what was in the area does not matter
  pub same_first : (a : List ℕ) → length a ≡ 1590 + 14 * cells → (lay_out controller a (descriptions s)).bytes ≡ first_area s
  same_first a long =
      (lays-out controller controller-fits).packed a (descriptions s) (accepted a long)
      ∙ sym first-packed

  pub first-right : state_right controller (fresh controller (described_cells (descriptions s))) ≡ true
  first-right = laid-right controller controller-fits (blank s) (descriptions s) (accepted (blank s) zeros)

  pub first-kept : Kept (first_area s)
  first-kept =
      let S = fresh controller (described_cells (descriptions s)) in
      rw first-packed
      (record { right = pack-right controller controller-fits S first-right; bytes = (round_trip controller controller-fits).pack_bytes S first-right })

  pub first-rests : at_rest controller (first_area s) ≡ true
  first-rests = (lays-out controller controller-fits).rests (blank s) (descriptions s) (accepted (blank s) zeros)
