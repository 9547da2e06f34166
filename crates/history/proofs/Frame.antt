-- A step leaves alone what its effect does not name, and goes by what two states that it can't tell apart have in common. A cell that it changes is an
-- entry's in its write log, or one that it holds; and a well-formed slot holds only cells of its write log.
use Rattle.std.specs.Prelude.{Ok, Err}
use mathlib.Core.Bool.{Bool, true, false, false≢true}
use mathlib.Core.List.{List}
use mathlib.Core.Path.{◌≡◌, refl, sym, ◌∙◌, ap}
use Prim.Native.Nat.{ℕ, suc, pred}
use native.Mathlib.Omega.{arith}
use lib.Dec.{eqb, eqb-zero-suc}
use lib.ListN.{get_or, get_or-eq_default}
use lib.Seq.{get_or-set_other}
use borrow.Author.Tests.{eqb-true}
use Rattle.call.specs.declared.Step.{Step}
use Rattle.call.specs.declared.Answer.{Answer}
use Rattle.call.specs.declared.Refusal.{Refusal}
use Rattle.call.specs.Decode.{step_number}
use Rattle.call.proofs.Numbers.{number-back}
use Rattle.rules.specs.declared.Cell.{Cell}
use Rattle.rules.specs.Model.{Model}
use Rattle.rules.specs.State.{State, Slot, idle, opened, locking, twilight, publishing, cell_count, cell_at, slot_at, writes_of, no_cell}
use Rattle.slot.specs.Logs.{writes_cell}
use Rattle.rules.specs.StateRight.{holds}
use Rattle.rules.specs.Outcome.{Outcome, refused, accepted, reply_of, after}
use Rattle.rules.specs.Step.{row, step}
use Rattle.history.specs.Frame.{names_cell, call_names, Alike, StepFrame, Frame}
use Rattle.history.proofs.Move.{Move}
use Rattle.history.proofs.Right.{Right, right_of}
use Rattle.history.proofs.Keeps.Lists.{below_or_not}
use Rattle.history.proofs.Keeps.Logs.{logged-there, taken-within}
use Rattle.history.proofs.Keeps.Kinds.{free-elim}
use Rattle.history.proofs.Keeps.Turn.{slot-now}
use Rattle.history.proofs.Keeps.Effect.{Change, none-changed, one-changed, own-freed, effect}
use Rattle.history.proofs.StepCase.{row-case, step_case}
use Rattle.history.proofs.Frame.Both.{Matches, both-refused, both-accepted, SameAfter}
use Rattle.history.proofs.Frame.Rows.{matches}
use Rattle.history.proofs.Frame.Calls.{calls-match}
pub mod Both
pub mod Rows
pub mod Calls

holds-logged : (x : Slot) (c : ℕ) → writes_cell (writes_of x) c ≡ false → holds x c ≡ false
unfolding holds
holds-logged idle c p = refl
holds-logged (opened start reads writes) c p = refl
holds-logged (locking taken start reads writes) c p = (taken-within writes taken c p).0
holds-logged (twilight ignoring start commit reads writes) c p = p
holds-logged (publishing ignoring taken start commit reads writes) c p = (taken-within writes taken c p).1

module _ (M : Model) (S : State) (right : Right M S) (i c : ℕ) (out : writes_cell (writes_of (slot_at S i)) c ≡ false) where
  -- a cell outside the write log is not held
  not-held : eqb (cell_at S c).holder (suc i) ≡ true → ⊥
  not-held h =
      below_or_not ⊥ c (cell_count S)
      (λ there.
      let few = right.holder_slot c in
      let mine : (cell_at S c).holder ≡ suc i = eqb-true _ _ h in
      false≢true (sym (holds-logged (slot_at S i) c out) ∙ sym (right.held c i there (omega arith)) ∙ h))
      (λ beyond.
      let none : cell_at S c ≡ no_cell = get_or-eq_default S.cells no_cell beyond in
      false≢true (sym (eqb-zero-suc i) ∙ rw none at h))

  change-outside : (cells : List Cell) → Change S i cells → get_or cells c no_cell ≡ cell_at S c
  change-outside cells none-changed = refl
  change-outside cells (one-changed d k y e kind there) =
      get_or-set_other S.cells d c y no_cell
      (λ q.
      let more = there (slot-now M S right i) in
      false≢true (sym out ∙ logged-there (writes_of (slot_at S i)) k c more (q ∙ e)))
  change-outside cells own-freed = free-elim i S.cells c (λ y. y ≡ cell_at S c) (λ h. absurd (not-held h)) (λ h. refl)

module _ {S S' : State} {i : ℕ} where
  match-reply : {o o' : Outcome} → Matches S S' i o o' → reply_of o ≡ reply_of o'
  match-reply (both-refused e c) = ap Err e
  match-reply (both-accepted e c t) = ap Ok e

  match-after : {o o' : Outcome} {names : ℕ → Bool} → Alike S S' i names → Matches S S' i o o' → SameAfter S S' i (after S o) (after S' o')
  match-after a (both-refused e c) = record { clock = a.clock; slot = λ n. a.slot; cells = λ c q. q }
  match-after a (both-accepted e c t) = t

-- what the effect of a step, or of none, leaves alone
module _ (M : Model) (i : ℕ) (names : ℕ → Bool) (does : State → Outcome) where
  framed : ((S : State) (P : Outcome → Type 0) → ((r : Refusal) → P (refused r)) → ((s : Step) (r : Answer) (T : State) → Move M S i s r T → P (accepted r T)) → P (does S))
      → ((S S' : State) → Alike S S' i names → Matches S S' i (does S) (does S')) → StepFrame M i names does
  framed moves match =
      record {
        other_slots = λ S j n. moves S (λ o. slot_at (after S o) j ≡ slot_at S j) (λ r. refl) (λ s r T m. (effect M S i m).others j n);
        other_cells = λ S c right out.
            moves S (λ o. cell_at (after S o) c ≡ cell_at S c) (λ r. refl)
            (λ s r T m. change-outside M S (right_of M S right) i c out T.cells (effect M S i m).change);
        same_reply = λ S S' a. match-reply (match S S' a);
        same_clock = λ S S' a. (match-after a (match S S' a)).clock;
        same_slot = λ S S' a. (match-after a (match S S' a)).slot;
        same_cell = λ S S' c a. (match-after a (match S S' a)).cells c;
      }

pub frame : (M : Model) → Frame M
frame M =
    record {
      steps = λ i s. framed M i (names_cell s) (λ S. row M S i s) (λ S P no f. row-case M S P (λ r k. no r) i s (f s)) (λ S S'. matches M S S' i s);
      calls = λ a.
          framed M (pred a.slot) (call_names a) (λ S. step M S a) (λ S P no f. step_case M S P (λ r k. no r) a (λ s d h. f s))
          (λ S S'. calls-match M S S' a);
      step_clock = λ S i s n m. row-case M S (λ o. (after S o).clock ≡ S.clock) (λ r k. refl) i s (λ r T move. (effect M S i move).clock_kept n m);
      call_clock = λ S a n m.
          step_case M S (λ o. (after S o).clock ≡ S.clock) (λ r k. refl) a
          (λ s d h r T move.
          let told = number-back a.step a.cell a.kind a.word s d in
          (effect M S (pred a.slot) move).clock_kept (λ e. n (told ∙ ap step_number e)) (λ e. m (told ∙ ap step_number e)));
    }
