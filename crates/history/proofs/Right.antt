-- "Well formed" of a state as facts about each cell and slot, with no index to bound: a slot or a cell that is not there is idle and free.
use mathlib.Core.Bool.{Bool, true, false}
use mathlib.Core.List.{List, [], ◌∷◌}
use mathlib.Core.Path.{◌≡◌, refl, sym, ◌∙◌, ap}
use Prim.Native.Nat.{ℕ, zero, suc, ◌<◌, ◌≤◌}
use native.Mathlib.Nat.{not-suc-le-zero, le_of_suc-le-suc}
use native.Mathlib.Omega.{arith}
use lib.Dec.{eqb, ltb, leb}
use lib.ListN.{length, get_or, get_or-eq_default}
use borrow.Author.Tests.{leb-true, eqb-true, eqb-false, ltb-true, ltb-false, not-true}
use Rattle.slot.specs.Logic.{◌and◌, ◌or◌, same, every, pairwise}
use Rattle.rules.specs.Model.{Model, last_stamp}
use Rattle.rules.specs.State.{State, Slot, idle, cell_count, cell_at, slot_at, commit_of, no_cell}
use Rattle.rules.specs.LogsRight.{cell_right, cell_count_right, stamps_apart, holders_right}
use Rattle.rules.specs.StateRight.{slot_right, holds, shape_right, state_right_but_holders, state_holders_right, state_right}
use Rattle.slot.proofs.Logic.{and_left, and_right, or_right, every-at, all-at}
use Rattle.rules.proofs.Holders.{holder-within}

pub record Right (M : Model) (S : State) : Type 0 where
  pub clock_last : S.clock ≤ last_stamp M
  pub slot_count : length S.slots ≡ M.slots
  pub cell_count_fits : cell_count_right M (cell_count S) ≡ true
  pub cell : (c : ℕ) → c < cell_count S → cell_right S.clock (cell_at S c) ≡ true
  pub holder_slot : (c : ℕ) → (cell_at S c).holder ≤ M.slots
  pub slot : (s : ℕ) → slot_right S.cells S.clock (slot_at S s) ≡ true
  -- no two slots have the same commit stamp
  pub apart : (s t : ℕ) → (s ≡ t → ⊥) → commit_of (slot_at S s) ≡ commit_of (slot_at S t) → commit_of (slot_at S s) ≡ 0
  -- a cell's holder is a slot exactly if that slot has to hold it
  pub held : (c s : ℕ) → c < cell_count S → s < M.slots → eqb (cell_at S c).holder (suc s) ≡ holds (slot_at S s) c

same-eq : (a b : Bool) → same a b ≡ true → a ≡ b
unfolding same
same-eq true b p = sym p
same-eq false true p = p
same-eq false false p = refl

module _ {A : Type 0} where
  -- of two places, the relation between the earlier and the later
  pub pairwise-at : (R : A → A → Bool) (l : List A) (d : A) → pairwise R l ≡ true → (i j : ℕ) → i < j → j < length l → R (get_or l i d) (get_or l j d) ≡ true
  unfolding pairwise
  pairwise-at R [] d p i j h b = absurd (not-suc-le-zero b)
  pairwise-at R (x ∷ l) d p i zero h b = absurd (not-suc-le-zero h)
  pairwise-at R (x ∷ l) d p zero (suc j) h b = all-at (R x) l d (and_left _ _ p) j (le_of_suc-le-suc b)
  pairwise-at R (x ∷ l) d p (suc i) (suc j) h b = pairwise-at R l d (and_right _ _ p) i j (le_of_suc-le-suc h) (le_of_suc-le-suc b)

-- stamps that are apart are equal only where there is none
apart-zero : (k l : ℕ) → stamps_apart k l ≡ true → k ≡ l → k ≡ 0
unfolding stamps_apart ◌or◌
apart-zero k l p e = by (eqb k 0) refl
  where
    by : (b : Bool) → eqb k 0 ≡ b → k ≡ 0
    by true z = eqb-true k 0 z
    by false z = absurd (eqb-false k l (not-true _ (or_right _ _ z p)) e)

module _ (M : Model) (S : State) (right : state_right M S ≡ true) where
  but-holders : state_right_but_holders M S ≡ true
  unfolding state_right
  but-holders = and_left _ _ right

  slots-of : (s : ℕ) → slot_right S.cells S.clock (slot_at S s) ≡ true
  unfolding state_right_but_holders slot_right
  slots-of s = by (ltb s (length S.slots)) refl
    where
      by : (b : Bool) → ltb s (length S.slots) ≡ b → slot_right S.cells S.clock (slot_at S s) ≡ true
      by true e =
          all-at (slot_right S.cells S.clock) S.slots idle
          (and_left _ _ (and_right _ _ (and_right _ _ (and_right _ _ but-holders)))) s (ltb-true _ _ e)
      by false e = rw (get_or-eq_default S.slots idle {n = s} (ltb-false _ _ e))

  apart_of : (s t : ℕ) → s < t → commit_of (slot_at S s) ≡ commit_of (slot_at S t) → commit_of (slot_at S s) ≡ 0
  unfolding state_right_but_holders
  apart_of s t h e = by (ltb t (length S.slots)) refl
    where
      by : (b : Bool) → ltb t (length S.slots) ≡ b → commit_of (slot_at S s) ≡ 0
      by true p =
          apart-zero _ _
          (pairwise-at (λ (x y : Slot). stamps_apart (commit_of x) (commit_of y)) S.slots idle
          (and_right _ _ (and_right _ _ (and_right _ _ (and_right _ _ but-holders)))) s t h (ltb-true _ _ p)) e
      by false p = e ∙ ap commit_of (get_or-eq_default S.slots idle {n = t} (ltb-false _ _ p))

  count_of : length S.slots ≡ M.slots
  unfolding state_right_but_holders shape_right
  count_of = eqb-true _ _ (and_right _ _ (and_left _ _ but-holders))

  holder-test : (c : ℕ) → c < cell_count S
      → (leb (cell_at S c).holder (length S.slots) and every (length S.slots) (λ s. same (eqb (cell_at S c).holder (suc s)) (holds (slot_at S s) c))) ≡ true
  unfolding state_right state_holders_right holders_right
  holder-test =
      every-at (length S.cells)
      (λ c. leb (cell_at S c).holder (length S.slots) and every (length S.slots) (λ s. same (eqb (cell_at S c).holder (suc s)) (holds (slot_at S s) c)))
      (and_right _ _ right)

  held_of : (c s : ℕ) → c < cell_count S → s < M.slots → eqb (cell_at S c).holder (suc s) ≡ holds (slot_at S s) c
  held_of c s h b =
      same-eq _ _
      (every-at (length S.slots) (λ t. same (eqb (cell_at S c).holder (suc t)) (holds (slot_at S t) c)) (and_right _ _ (holder-test c h)) s (rw count_of b))

  pub right_of : Right M S
  unfolding state_right_but_holders shape_right state_right state_holders_right
  right_of =
      record {
        clock_last = leb-true _ _ (and_left _ _ (and_left _ _ but-holders));
        slot_count = count_of;
        cell_count_fits = and_left _ _ (and_right _ _ but-holders);
        cell = all-at (cell_right S.clock) S.cells no_cell (and_left _ _ (and_right _ _ (and_right _ _ but-holders)));
        holder_slot = λ c. rw (← count_of) (holder-within S.cells (length S.slots) (λ s d. holds (slot_at S s) d) (and_right _ _ right) c);
        slot = slots-of;
        apart = λ s t d e. by_order s t d e (ltb s t) refl;
        held = held_of;
      }
    where
      by_order : (s t : ℕ) → (s ≡ t → ⊥) → commit_of (slot_at S s) ≡ commit_of (slot_at S t) → (b : Bool) → ltb s t ≡ b → commit_of (slot_at S s) ≡ 0
      by_order s t d e true p = apart_of s t (ltb-true _ _ p) e
      by_order s t d e false p = e ∙ apart_of t s (omega (arith, ltb-false s t p, d)) (sym e)
