-- The numbers of a trace's lines, event by event.
use mathlib.Core.Bool.{true, false, cond}
use mathlib.Core.List.{List, [], ◌∷◌, ◌++◌}
use mathlib.Core.Path.{◌≡◌, refl, sym, ap, ◌∙◌}
use Prim.Native.Nat.{ℕ, suc}
use lib.Dec.{eqb}
use borrow.Author.Tests.{eq-eqb}
use Rattle.slot.specs.Logic.{◌and◌}
use Rattle.logcheck.proofs.Chains.{either}
use Rattle.history.specs.History.{Event, accepts, own_slot, from_shared}
use Rattle.history.proofs.Keeps.Lists.{cond-elim}
use Rattle.rules.specs.State.{writes_of, commit_of}
use Rattle.effects.specs.Effects.{Effect, read_shared, reloaded, committed, aborted, written_cells, aborts, begins, number_of, effect_of, effects_after}
use Rattle.effects.specs.Numbered.{given, Numbered, NumbersRight}

-- one event, after a past
module _ (e : Event) (past : List Event) where
  -- an accepted begin: the next number, and the slot's own
  begins-one : accepts 1 e ≡ true → begins (e ∷ past) ≡ suc (begins past)
  unfolding begins
  begins-one p = rw p

  begins-number : accepts 1 e ≡ true → (slot : ℕ) → number_of (e ∷ past) slot ≡ cond (eqb e.call.slot slot) (suc (begins past)) (number_of past slot)
  unfolding number_of begins ◌and◌
  begins-number p slot = rw p

  -- any other
  begins-none : accepts 1 e ≡ false → begins (e ∷ past) ≡ begins past
  unfolding begins
  begins-none p = rw p

  same_number : accepts 1 e ≡ false → (slot : ℕ) → number_of (e ∷ past) slot ≡ number_of past slot
  unfolding number_of ◌and◌
  same_number p slot = rw p

  module _ (count : ℕ) (last : ℕ → ℕ) (rest : List Effect) (number : ℕ) where
    -- its line, and the lines behind it
    begin-first : accepts 1 e ≡ true → number ≡ suc count → Numbered (suc count) (given last e.call.slot number) rest → Numbered count last (effect_of number e ++ rest)
    unfolding effect_of
    begin-first p one behind = rw p (one, behind)

    other-line : accepts 1 e ≡ false → number ≡ last e.call.slot → Numbered count last rest → Numbered count last (effect_of number e ++ rest)
    unfolding effect_of
    other-line p same behind =
        let slot = e.call.slot in
        let P : List Effect → Type 0 = λ l. Numbered count last (l ++ rest) in
        rw p
        (cond-elim P (from_shared e) (read_shared slot number e.call.cell ∷ []) _ (λ h. (same, behind)) (λ h.
        cond-elim P (accepts 10 e) (reloaded slot number ∷ []) _ (λ h. (same, behind)) (λ h.
        cond-elim P (accepts 12 e) (committed slot number (commit_of (own_slot e)) (written_cells (writes_of (own_slot e))) ∷ []) _ (λ h. (same, behind)) (λ h.
        cond-elim P (aborts e) (aborted slot number ∷ []) [] (λ h. (same, behind)) (λ h. behind)))))

numbered-after : (events past : List Event) (count : ℕ) (last : ℕ → ℕ) → count ≡ begins past → ((slot : ℕ) → last slot ≡ number_of past slot)
    → Numbered count last (effects_after past events)
unfolding effects_after
numbered-after [] past count last so_far known = tt
numbered-after (e ∷ events) past count last so_far known =
    let slot = e.call.slot in
    let number = number_of (e ∷ past) slot in
    either (accepts 1 e)
    (λ p.
    let one : number ≡ suc count = begins-number e past p slot ∙ rw (eq-eqb slot slot refl, so_far) in
    begin-first e past count last _ number p one
    (numbered-after events (e ∷ past) (suc count) (given last slot number) (ap suc so_far ∙ sym (begins-one e past p))
    (λ other. rw (begins-number e past p other, one, so_far, known other))))
    (λ p.
    other-line e past count last _ number p (same_number e past p slot ∙ sym (known slot))
    (numbered-after events (e ∷ past) count last (so_far ∙ sym (begins-none e past p)) (λ other. known other ∙ sym (same_number e past p other))))

pub numbers-right : NumbersRight
unfolding begins number_of
numbers-right events = numbered-after events [] 0 (λ slot. 0) refl (λ slot. refl)
