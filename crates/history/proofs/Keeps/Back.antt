-- The way back from the facts about each cell and slot to "well formed" of the state: each list is right if each of its places is.
use mathlib.Core.Bool.{true, not}
use mathlib.Core.Path.{◌≡◌, ap}
use Prim.Native.Nat.{ℕ}
use native.Mathlib.Omega.{arith}
use lib.ListN.{length}
use borrow.Author.Tests.{le-leb, eq-eqb, ne_eqb, eqb-false}
use Rattle.rules.specs.Model.{Model}
use Rattle.rules.specs.State.{State, Slot, idle, cell_at, commit_of, no_cell}
use Rattle.rules.specs.LogsRight.{cell_right, stamps_apart, holders_right}
use Rattle.rules.specs.StateRight.{slot_right, shape_right, state_right_but_holders, state_holders_right, state_right}
use Rattle.slot.proofs.Logic.{and_intro, or-when, every_of, all_of}
use Rattle.history.proofs.Right.{Right}
use Rattle.history.proofs.Keeps.Lists.{eq-same, pairwise-of}

apart-back : (k l : ℕ) → (k ≡ l → k ≡ 0) → stamps_apart k l ≡ true
unfolding stamps_apart
apart-back k l f = or-when _ _ (λ nonzero. ap not (ne_eqb k l (λ e. eqb-false k 0 nonzero (f e))))

module _ (M : Model) (S : State) (right : Right M S) where
  holders-back : state_holders_right S ≡ true
  unfolding state_holders_right holders_right
  holders-back =
      every_of (length S.cells) _
      (λ c h.
      and_intro _ _ (le-leb (cell_at S c).holder (length S.slots) (rw right.slot_count (right.holder_slot c)))
      (every_of (length S.slots) _ (λ s b. eq-same _ _ (right.held c s h (rw right.slot_count at b)))))

  pub right-back : state_right M S ≡ true
  unfolding state_right state_right_but_holders shape_right
  right-back =
      and_intro _ _
      (and_intro _ _ (and_intro _ _ (le-leb _ _ right.clock_last) (eq-eqb _ _ right.slot_count))
      (and_intro _ _ right.cell_count_fits
      (and_intro _ _ (all_of (cell_right S.clock) S.cells no_cell right.cell)
      (and_intro _ _ (all_of (slot_right S.cells S.clock) S.slots idle (λ s h. right.slot s))
      (pairwise-of (λ (x y : Slot). stamps_apart (commit_of x) (commit_of y)) S.slots idle
      (λ s t h b. apart-back _ _ (right.apart s t (omega arith))))))))
      holders-back
