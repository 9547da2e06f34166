-- What holds of every refusal and of every move holds of the step that any call makes.
use Rattle.std.specs.Prelude.{Ok, Err}
use mathlib.Core.Bool.{true, not}
use mathlib.Core.Path.{◌≡◌, refl}
use Prim.Native.Nat.{ℕ, pred, ◌<◌}
use native.Mathlib.Omega.{arith}
use lib.Dec.{leb}
use borrow.Author.Tests.{leb-true, not-false}
use Rattle.call.specs.declared.Step.{Step}
use Rattle.call.specs.Decode.{Decoded, decoded}
use Rattle.call.specs.declared.Undecoded.TheVariants.{IllegalWrite, IllegalUpdate, Unknown}
use Rattle.call.specs.declared.Answer.{Answer}
use Rattle.call.specs.declared.Refusal.{Refusal}
use Rattle.call.specs.declared.Refusal.TheVariants.{NoSuchStep, NoSuchSlot, NoSuchCell, IllegalValue}
use Rattle.slot.specs.Logic.{◌and◌}
use Rattle.rules.specs.Model.{Model, last_step}
use Rattle.rules.specs.State.{State, cell_count, slot_at}
use Rattle.rules.specs.Outcome.{Outcome, refused, accepted, inside_cells}
use Rattle.rules.specs.Steps.{illegal_write, illegal_update}
use Rattle.rules.specs.Step.{Call, row, inside_slots, step_of, step}
use Rattle.slot.proofs.Logic.{and_left, and_right}
use Rattle.history.proofs.Cases.{OfStep, Bare, bare, refuse-case, open-case, twilight-case}
use Rattle.history.proofs.Move.{Move, Declined, bare-refusal, read_held, lock-held, reload-held, Lawful, lawful}

module _ (M : Model) (S : State) (P : Outcome → Type 0) (refusal : (r : Refusal) → Bare r → P (refused r)) where
  pub slots-case : (slot : ℕ) (o : Outcome) → (pred slot < M.slots → P o) → P (inside_slots M slot o)
  slots-case slot o f =
      refuse-case P refusal (not (leb 1 slot and leb slot M.slots)) NoSuchSlot bare o
      (λ e.
      let both : (leb 1 slot and leb slot M.slots) ≡ true = not-false _ e in
      f (omega (arith, leb-true 1 slot (and_left _ _ both), leb-true slot M.slots (and_right _ _ both))))

  -- a value is missing: refused, whatever the slot and the cell
  cell-case : (c : ℕ) → P (inside_cells S c (refused IllegalValue))
  cell-case c = refuse-case P refusal (leb (cell_count S) c) NoSuchCell bare (refused IllegalValue) (λ e. refusal IllegalValue bare)

  module _ (a : Call)
      (goes : (s : Step) → decoded a.step a.cell a.kind a.word ≡ Ok s → pred a.slot < M.slots
      → (o : Outcome) → Lawful M S (pred a.slot) s o → P o) where
    of-case : (d : Decoded) → decoded a.step a.cell a.kind a.word ≡ d → P (step_of M S a.slot d)
    unfolding step_of illegal_write illegal_update
    of-case (Ok s) e = slots-case a.slot _ (λ h. goes s e h (row M S (pred a.slot) s) (lawful M S (pred a.slot) s))
    of-case (Err (IllegalWrite c)) e = slots-case a.slot _ (λ h. open-case P refusal (slot_at S (pred a.slot)) _ λ start reads writes x. cell-case c)
    of-case (Err (IllegalUpdate c)) e =
        slots-case a.slot _ (λ h. twilight-case P refusal (slot_at S (pred a.slot)) _ λ ignoring start commit reads writes x. cell-case c)
    of-case (Err Unknown) e = refusal NoSuchStep bare

    -- what holds of every bare refusal and of every lawful row holds of the step
    pub lawful-case : P (step M S a)
    unfolding step
    lawful-case =
        refuse-case P refusal (not (leb 1 a.step and leb a.step (last_step M))) NoSuchStep bare _
        (λ inside. of-case (decoded a.step a.cell a.kind a.word) refl)

-- every refusal has its code
declined-code : {S : State} {i : ℕ} {s : Step} {r : Refusal} → Declined S i s r → OfStep r
declined-code (bare-refusal k) = k.0
declined-code (read_held held) = (tt, tt)
declined-code (lock-held x more same held) = (tt, tt)
declined-code (reload-held x o) = (tt, tt)

module _ (M : Model) (S : State) (P : Outcome → Type 0) (refusal : (r : Refusal) → OfStep r → P (refused r)) where
  by-law : (i : ℕ) (s : Step) → ((r : Answer) (T : State) → Move M S i s r T → P (accepted r T)) → (o : Outcome) → Lawful M S i s o → P o
  by-law i s f (refused r) k = refusal r (declined-code k)
  by-law i s f (accepted r T) m = f r T m

  pub row-case : (i : ℕ) (s : Step) → ((r : Answer) (T : State) → Move M S i s r T → P (accepted r T)) → P (row M S i s)
  row-case i s f = by-law i s f (row M S i s) (lawful M S i s)

  pub step_case : (a : Call)
      → ((s : Step) → decoded a.step a.cell a.kind a.word ≡ Ok s → pred a.slot < M.slots
      → (r : Answer) (T : State) → Move M S (pred a.slot) s r T → P (accepted r T))
      → P (step M S a)
  step_case a moved = lawful-case M S P (λ r k. refusal r k.0) a (λ s made h. by-law (pred a.slot) s (moved s made h))
