-- Who is in the way: a hold by another slot is a hold of the one that the cell names, since holders are right, and the three refusals that say so have shown it.
use Rattle.std.specs.Prelude.{Ok, Err}
use mathlib.Core.Bool.{true, false, not}
use mathlib.Core.List.{List}
use mathlib.Core.Logic.{inl, inr}
use mathlib.Core.Option.{some}
use mathlib.Core.Path.{◌≡◌, refl, sym, ◌∙◌, ap}
use Prim.Native.Nat.{ℕ, zero, suc, pred, ◌/◌, ◌%◌, ◌<◌, ◌≤◌}
use native.Mathlib.Omega.{arith}
use lib.Dec.{T, eqb}
use lib.ListN.{length, get_or, get_or-eq_default}
use borrow.Author.Tests.{eqb-false, eq-eqb, not-true}
use Rattle.call.specs.declared.Step.{Step}
use Rattle.call.specs.declared.Step.TheVariants.{Read, Lock, Reload}
use Rattle.call.specs.declared.Refusal.{Refusal}
use Rattle.call.specs.Answer.{held_word}
use Rattle.call.specs.Decode.{decoded}
use Rattle.call.proofs.Numbers.{number-back}
use Rattle.slot.specs.declared.ReadEntry.{ReadEntry}
use Rattle.slot.specs.Layout.{no_read}
use Rattle.slot.proofs.Logic.{and_left, and_right}
use Rattle.slot.proofs.Search.{found-passes}
use Rattle.rules.specs.Model.{Model, FitsBytes}
use Rattle.rules.specs.State.{State, cell_count, cell_at, slot_at, no_cell}
use Rattle.rules.specs.Cells.{held_by_other, obstacle}
use Rattle.rules.specs.StateRight.{holds}
use Rattle.rules.specs.Outcome.{Outcome, refused, accepted, reply_of}
use Rattle.rules.specs.Step.{Call, step}
use Rattle.history.specs.InTheWay.{InTheWay, SaysHeld, Says, TellsWho}
use Rattle.history.proofs.Cases.{Bare}
use Rattle.history.proofs.Right.{Right, right_of}
use Rattle.history.proofs.Move.{Declined, bare-refusal, read_held, lock-held, reload-held, Lawful}
use Rattle.history.proofs.StepCase.{lawful-case}
use Rattle.history.proofs.Record.{read_names}
use Rattle.history.proofs.Keeps.Lists.{below_or_not, first-place}
use Rattle.history.proofs.Keeps.Codes.{Coded, acceptance, step-coded}

-- a cell that another slot holds has a holder, which is not the slot itself, and is there
module _ (S : State) (i c : ℕ) (held : held_by_other i (cell_at S c) ≡ true) where
  some-holder : (cell_at S c).holder ≡ 0 → ⊥
  unfolding held_by_other
  some-holder = eqb-false _ _ (not-true _ (and_left _ _ held))

  other-holder : (cell_at S c).holder ≡ suc i → ⊥
  unfolding held_by_other
  other-holder = eqb-false _ _ (not-true _ (and_right (not (eqb (cell_at S c).holder 0)) _ held))

  pub held-inside : c < cell_count S
  held-inside =
      below_or_not (c < cell_count S) c (cell_count S) (λ there. there)
      (λ beyond. absurd (some-holder (rw (get_or-eq_default S.cells no_cell beyond))))

  module _ (M : Model) (right : Right M S) where
    holding : (h : ℕ) → (cell_at S c).holder ≡ h → h ≤ M.slots → (h ≡ 0 → ⊥) → holds (slot_at S (pred h)) c ≡ true
    holding zero e most busy = absurd (busy refl)
    holding (suc s) e most busy = sym (right.held c s held-inside (omega arith)) ∙ eq-eqb _ _ e

    another : (slot : ℕ) → pred slot ≡ i → (cell_at S c).holder ≡ slot → ⊥
    another zero e same = some-holder same
    another (suc j) e same = other-holder (same ∙ ap suc e)

    pub in-the-way : (slot : ℕ) → pred slot ≡ i → InTheWay M S slot c (cell_at S c).holder
    in-the-way slot own =
        let most = right.holder_slot c in
        record {
          from_one = omega (arith, some-holder);
          to_last = most;
          another = another slot own;
          inside = held-inside;
          named = refl;
          holding = holding (cell_at S c).holder refl most some-holder;
        }

-- a reload's obstacle is held by another slot
pub obstacle-held : (S : State) (i : ℕ) (reads : List ReadEntry) (y : ReadEntry) → obstacle S i reads ≡ some y → held_by_other i (cell_at S y.cell) ≡ true
unfolding obstacle
obstacle-held S i reads y o = found-passes (λ (e : ReadEntry). held_by_other i (cell_at S e.cell)) reads y o

-- a code that is neither of the two says nothing of a holder
pub silent : {M : Model} {S : State} {a : Call} {code kind word : ℕ} → (code ≡ 11 → ⊥) → (code ≡ 14 → ⊥) → SaysHeld M S a code kind word
silent not-11 not-14 =
    record {
      read_held = λ e. absurd (not-14 e);
      cell_held = λ e. absurd (not-11 e);
      lock_next = λ e s. absurd (not-11 e);
      reload_first = λ e s. absurd (not-11 e);
    }

bare-silent : {M : Model} {S : State} {a : Call} (r : Refusal) → Bare r → Says M S a (Err r)
bare-silent r k = silent (λ e. rw e at k.1) (λ e. rw e at k.2)

module _ (M : Model) (fits : FitsBytes M) (S : State) (right : Right M S) (a : Call) where
  abbrev i : ℕ
  i = pred a.slot

  -- .. and none before it in the log is
  obstacle-first : (reads : List ReadEntry) (y : ReadEntry) → obstacle S i reads ≡ some y → {c : ℕ} → c ≡ y.cell
      → (place : ℕ)
      × (place < length reads)
      × ((get_or reads place no_read).cell ≡ c)
      × ((earlier : ℕ) → earlier < place → held_by_other i (cell_at S (get_or reads earlier no_read).cell) ≡ false)
  unfolding obstacle
  obstacle-first reads y o same =
      let there = first-place (λ (e : ReadEntry). held_by_other i (cell_at S e.cell)) reads no_read y o in
      (there.0, there.1, ap (λ (e : ReadEntry). e.cell) there.2 ∙ sym same, there.3)

  -- a word that is put together comes apart again
  apart : (c : ℕ) → let holder = (cell_at S c).holder in (held_word c holder / 256 ≡ c) × (held_word c holder % 256 ≡ holder)
  apart c = let few = right.holder_slot c in let wide = fits.slots_fit in (omega arith, omega arith)

  at-cell : (c : ℕ) → held_by_other i (cell_at S c) ≡ true
      → let word = held_word c (cell_at S c).holder in InTheWay M S a.slot (word / 256) (word % 256)
  at-cell c held = rw ((apart c).0, (apart c).1) (in-the-way S i c held M right a.slot refl)

  said : (s : Step) (r : Refusal) → decoded a.step a.cell a.kind a.word ≡ Ok s → Declined S i s r → Says M S a (Err r)
  said s r made (bare-refusal k) = bare-silent r k
  said s r made (read_held {c = c} held) =
      let number : a.step ≡ 2 = number-back a.step a.cell a.kind a.word (Read c) made in
      let named : a.cell ≡ c = read_names a.step a.cell a.kind a.word c number made in
      record {
        read_held = λ e. (number, refl, rw named (in-the-way S i c held M right a.slot refl));
        cell_held = λ e. absurd (omega arith);
        lock_next = λ e s. absurd (omega arith);
        reload_first = λ e s. absurd (omega arith);
      }
  said s r made (lock-held {c = c} x more same held) =
      let number : a.step ≡ 5 = number-back a.step a.cell a.kind a.word Lock made in
      record {
        read_held = λ e. absurd (omega arith);
        cell_held = λ e. (inl number, refl, at-cell c held);
        lock_next = λ e s. rw x (more, sym same ∙ sym (apart c).0);
        reload_first = λ e s. absurd (omega arith);
      }
  said s r made (reload-held {e = y} {reads = reads} x o) =
      let number : a.step ≡ 10 = number-back a.step a.cell a.kind a.word Reload made in
      let held : held_by_other i (cell_at S y.cell) ≡ true = obstacle-held S i reads y o in
      record {
        read_held = λ e. absurd (omega arith);
        cell_held = λ e. (inr number, refl, at-cell y.cell held);
        lock_next = λ e s. absurd (omega arith);
        reload_first = λ e s. rw x (obstacle-first reads y o (apart y.cell).0);
      }

  goes : (s : Step) → decoded a.step a.cell a.kind a.word ≡ Ok s → (o : Outcome) → Lawful M S i s o → Coded o → Says M S a (reply_of o)
  goes s made (refused r) k coded = said s r made k
  goes s made (accepted r T) m coded =
      silent (λ e. acceptance r coded (λ z. omega arith, λ z. omega arith)) (λ e. acceptance r coded (λ z. omega arith, λ z. omega arith))

  says-held : Says M S a (reply_of (step M S a))
  says-held = lawful-case M S (λ o. Coded o → Says M S a (reply_of o)) (λ r k coded. bare-silent r k) a (λ s made h. goes s made) (step-coded M S a)

pub tells-who : (M : Model) → FitsBytes M → TellsWho M
tells-who M fits = record { tells = λ S a right. says-held M fits S (right_of M S right) a }
