-- A laid-out area is at rest, and is what `pack` gives of a fresh state: in a fresh state nothing is held and every slot is idle.
use mathlib.Core.Bool.{Bool, true, false, cond}
use mathlib.Core.List.{List}
use mathlib.Core.Path.{◌≡◌, refl, ap}
use Prim.Native.Nat.{ℕ, zero, suc, ◌*◌, ◌^◌, ◌<◌}
use native.Mathlib.Nat.{one-le-pow}
use native.Mathlib.Omega.{arith}
use lib.Dec.{eqb, leb}
use lib.ListN.{length, get_or, drop, replicate, length-replicate, get_or-replicate}
use borrow.Author.Tests.{eq-eqb, le-leb, ne_eqb}
use Rattle.value.specs.Legal.{legal_word}
use Rattle.wire.proofs.Laws.Table.{length-tab, get_or-tab}
use Rattle.slot.specs.Logic.{◌and◌, ◌or◌, same, every, all, pairwise}
use Rattle.rules.specs.Model.{Model, last_stamp, FitsBytes}
use Rattle.rules.specs.State.{Slot, idle, commit_of, no_cell}
use Rattle.rules.specs.LogsRight.{cell_right, stamps_apart, holders_right, cell_count_right}
use Rattle.rules.specs.StateRight.{slot_right, holds, shape_right, state_right_but_holders, state_holders_right, state_right, is_idle}
use Rattle.rules.specs.Layout.{pack}
use Rattle.rules.specs.Area.{at_rest, description_size, described_count, described_cell, described_cells, fresh, lengths_fit, Laying, lay_out}
use Rattle.rules.specs.RoundTrip.{LaysOut}
use Rattle.rules.specs.declared.Cell.{Cell}
use Rattle.slot.proofs.Logic.{and_intro, and_left, and_right, every_of, all-at, all_of}
use Rattle.rules.proofs.RoundTrip.{pack-right, state-back}

-- a list of one element, over and over
module _ {A : Type 0} where
  all_same : (f : A → Bool) (x : A) (n : ℕ) → f x ≡ true → all f (replicate n x) ≡ true
  unfolding all
  all_same f x zero e = refl
  all_same f x (suc n) e = and_intro (f x) (all f (replicate n x)) e (all_same f x n e)

  pairwise-same : (R : A → A → Bool) (x : A) (n : ℕ) → R x x ≡ true → pairwise R (replicate n x) ≡ true
  unfolding pairwise
  pairwise-same R x zero e = refl
  pairwise-same R x (suc n) e = and_intro (all (R x) (replicate n x)) (pairwise R (replicate n x)) (all_same (R x) x n e) (pairwise-same R x n e)

-- a cell as it is described: free, stamp 0
pub record Described (x : Cell) : Type 0 where
  pub free : x.holder ≡ 0
  pub unstamped : x.stamp ≡ 0
  pub legal : legal_word x.kind x.word ≡ true

module _ (M : Model) (cells : List Cell) (count : cell_count_right M (length cells) ≡ true)
    (each : (c : ℕ) → c < length cells → Described (get_or cells c no_cell)) where
  fresh_cells : all (cell_right 0) cells ≡ true
  unfolding cell_right
  fresh_cells =
      all_of (cell_right 0) cells no_cell
      (λ c h.
      let x = each c h in
      and_intro _ _ x.legal (rw x.unstamped refl))

  fresh-holders : state_holders_right (fresh M cells) ≡ true
  unfolding state_holders_right holders_right holds same
  fresh-holders =
      let test : ℕ → ℕ → Bool = λ c s. same (eqb (get_or cells c no_cell).holder (suc s)) (holds (get_or (replicate M.slots idle) s idle) c) in
      every_of (length cells)
      (λ c. leb (get_or cells c no_cell).holder (length (replicate M.slots idle)) and every (length (replicate M.slots idle)) (test c))
      (λ c h.
      and_intro _ _ (rw (each c h).free (le-leb 0 (length (replicate M.slots idle)) (omega arith)))
      (every_of (length (replicate M.slots idle)) (test c)
      (λ s b.
      rw (get_or-replicate M.slots s idle idle (rw (← length-replicate M.slots idle) b), (each c h).free, ne_eqb 0 (suc s) (λ e. omega arith))
      refl)))

  pub fresh-right : state_right M (fresh M cells) ≡ true
  unfolding state_right state_right_but_holders shape_right slot_right stamps_apart ◌or◌
  fresh-right =
      let last : 0 < 256 ^ M.stamp_bytes = one-le-pow M.stamp_bytes 256 (omega arith) in
      and_intro _ _
      (and_intro _ _ (and_intro _ _ (le-leb 0 (last_stamp M) (omega arith)) (eq-eqb _ _ (length-replicate M.slots idle)))
      (and_intro _ _ count
      (and_intro _ _ fresh_cells
      (and_intro _ _ (all_same (slot_right cells 0) idle M.slots refl) (pairwise-same (λ (x y : Slot). stamps_apart (commit_of x) (commit_of y)) idle M.slots refl)))))
      fresh-holders

-- there are as many cells as descriptions, each the one that its description gives
module _ (ds : List ℕ) where
  pub described-length : length (described_cells ds) ≡ described_count ds
  unfolding described_cells
  described-length = length-tab (described_count ds) (λ k. described_cell (drop (description_size * k) ds))

  pub described-at : (k : ℕ) → k < described_count ds → get_or (described_cells ds) k no_cell ≡ described_cell (drop (description_size * k) ds)
  unfolding described_cells
  described-at k h = get_or-tab (described_count ds) (λ j. described_cell (drop (description_size * j) ds)) no_cell k h

-- what an accepted lay-out has tested
accepted : (fit legal : Bool) (x y z : Laying) → y.code ≡ 6 → z.code ≡ 1 → (cond fit (cond legal x y) z).code ≡ 0
    → (fit ≡ true) × (legal ≡ true)
accepted true true x y z six one e = (refl, refl)
accepted true false x y z six one e = absurd (omega arith)
accepted false legal x y z six one e = absurd (omega arith)

module _ (M : Model) (fits : FitsBytes M) (a ds : List ℕ) (e : (lay_out M a ds).code ≡ 0) where
  tested : (lengths_fit M a ds ≡ true) × (all (λ (x : Cell). legal_word x.kind x.word) (described_cells ds) ≡ true)
  unfolding lay_out
  tested = accepted (lengths_fit M a ds) (all (λ (x : Cell). legal_word x.kind x.word) (described_cells ds)) _ _ _ refl refl e

  laid-packed : (lay_out M a ds).bytes ≡ pack M (fresh M (described_cells ds))
  unfolding lay_out
  laid-packed = rw (tested.0, tested.1)

  laid_cells : (c : ℕ) → c < length (described_cells ds) → Described (get_or (described_cells ds) c no_cell)
  unfolding described_cell
  laid_cells c h =
      let cell = described-at ds c (rw (described-length ds) at h) in
      record {
        free = ap (λ (x : Cell). x.holder) cell;
        unstamped = ap (λ (x : Cell). x.stamp) cell;
        legal = all-at (λ (x : Cell). legal_word x.kind x.word) (described_cells ds) no_cell tested.1 c h;
      }

  pub laid-right : state_right M (fresh M (described_cells ds)) ≡ true
  unfolding lengths_fit
  laid-right = fresh-right M (described_cells ds) (rw (described-length ds) (and_left _ _ (and_right _ _ tested.0))) laid_cells

  laid-rests : at_rest M (lay_out M a ds).bytes ≡ true
  unfolding at_rest
  laid-rests =
      rw (laid-packed, pack-right M fits (fresh M (described_cells ds)) laid-right, state-back M fits (fresh M (described_cells ds)) laid-right)
      (and_intro _ _ refl (all_same is_idle idle M.slots refl))

pub lays-out : (M : Model) → FitsBytes M → LaysOut M
lays-out M fits = record { packed = laid-packed M fits; rests = laid-rests M fits }
