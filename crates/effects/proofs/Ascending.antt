-- The cells of a `co` line ascend: a right state's write logs do, and every step keeps a state right.
use mathlib.Core.Bool.{Bool, true}
use mathlib.Core.List.{List, [], ◌∷◌, ◌++◌, map}
use mathlib.Core.Path.{◌≡◌, refl, ◌∙◌}
use Prim.Native.Nat.{ℕ, pred}
use lib.Dec.{ltb}
use Rattle.slot.specs.Logic.{pairwise, All}
use Rattle.slot.specs.declared.WriteEntry.{WriteEntry}
use Rattle.slot.proofs.Logic.{and_right, pairwise_map}
use Rattle.rules.specs.declared.Cell.{Cell}
use Rattle.rules.specs.Model.{Model, FitsBytes}
use Rattle.rules.specs.State.{State, Slot, idle, opened, locking, twilight, publishing, slot_at, writes_of}
use Rattle.rules.specs.LogsRight.{writes_right}
use Rattle.rules.specs.StateRight.{state_right}
use Rattle.rules.specs.Outcome.{reply_of, after}
use Rattle.rules.specs.Step.{Call, step}
use Rattle.rules.specs.Layout.{state_of}
use Rattle.history.specs.History.{Event, Commit, history, own_slot, accepts, committed_by, commits}
use Rattle.rules.proofs.RoundTrip.{state-right}
use Rattle.history.proofs.Histories.{same-history}
use Rattle.history.proofs.Keeps.Lists.{cond-elim}
use Rattle.history.proofs.Keeps.Moves.{step_keeps}
use Rattle.history.proofs.Keeps.Slots.{SlotHolds, slot-holds}
use Rattle.history.proofs.Right.{right_of}
use Rattle.effects.specs.Effects.{written_cells}
use Rattle.effects.specs.Agree.{ShownCommit, shown_of}
use Rattle.effects.specs.Ascending.{Ascends, Ascending}
use Rattle.effects.proofs.Agree.{agrees}

-- cells that ascend
abbrev ascends : List ℕ → Bool
ascends cells = pairwise ltb cells

-- the write log of a slot that is right
log-ascends : (cells : List Cell) (writes : List WriteEntry) → writes_right cells writes ≡ true → ascends (written_cells writes) ≡ true
unfolding writes_right
log-ascends cells writes p =
    pairwise_map ltb (λ (e f : WriteEntry). ltb e.cell f.cell) (λ (e : WriteEntry). e.cell) writes (λ e f. refl) ∙ and_right _ _ p

slot-ascends : (cells : List Cell) (clock : ℕ) (x : Slot) → SlotHolds cells clock x → ascends (written_cells (writes_of x)) ≡ true
unfolding pairwise
slot-ascends cells clock idle h = refl
slot-ascends cells clock (opened start reads writes) h = log-ascends cells writes h.0.writes_hold
slot-ascends cells clock (locking taken start reads writes) h = log-ascends cells writes h.0.writes_hold
slot-ascends cells clock (twilight ignoring start commit reads writes) h = log-ascends cells writes h.0.writes_hold
slot-ascends cells clock (publishing ignoring taken start commit reads writes) h = log-ascends cells writes h.0.writes_hold

module _ (M : Model) where
  state-ascends : (S : State) → state_right M S ≡ true → (i : ℕ) → ascends (written_cells (writes_of (slot_at S i))) ≡ true
  state-ascends S right i = slot-ascends S.cells S.clock (slot_at S i) (slot-holds S.cells S.clock (slot_at S i) ((right_of M S right).slot i))

  history-ascends : (calls : List Call) (S : State) → state_right M S ≡ true
      → All (λ (x : ShownCommit). ascends x.cells ≡ true) (map shown_of (commits (history (step M) S calls)))
  unfolding history commits
  history-ascends [] S right = tt
  history-ascends (a ∷ calls) S right =
      let e : Event = record { before = S; call = a; reply = reply_of (step M S a) } in
      let rest = history-ascends calls (after S (step M S a)) (step_keeps M S a right) in
      cond-elim
      (λ (l : List Commit). All (λ (x : ShownCommit). ascends x.cells ≡ true) (map shown_of (l ++ commits (history (step M) (after S (step M S a)) calls))))
      (accepts 12 e) (committed_by (own_slot e) ∷ []) []
      (λ h. (state-ascends S right (pred a.slot), rest)) (λ h. rest)

  states-ascend : (S : State) → state_right M S ≡ true → (calls : List Call) → Ascends (history (step M) S calls)
  states-ascend S right calls = rw (agrees.commits_agree (history (step M) S calls)) (history-ascends calls S right)

  pub ascending : FitsBytes M → Ascending M
  ascending fits =
      record {
        of_states = states-ascend;
        of_areas = λ a bytes right calls. rw (same-history M fits calls a bytes right) (states-ascend (state_of M a) (state-right M a bytes right) calls);
      }
