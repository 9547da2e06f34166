-- One step on a well-formed area: the effect that is made of it is that of its event.
use mathlib.Core.Bool.{Bool, true, false, not, cond}
use mathlib.Core.List.{List, [], ◌∷◌}
use mathlib.Core.Path.{◌≡◌, refl, ap, ◌∙◌}
use Prim.Native.Nat.{ℕ, pred, ◌+◌, ◌<◌}
use native.Mathlib.Omega.{arith}
use borrow.Author.Tests.{eqb-true, le-leb}
use lib.Dec.{eqb}
use lib.ListN.{length, get_or}
use Rattle.call.specs.Answer.{refusal_code, reply_code, Refuses}
use Rattle.call.specs.declared.Refusal.{Refusal}
use Rattle.slot.specs.Logic.{◌and◌, ◌or◌}
use Rattle.slot.specs.Fields.{without_reads}
use Rattle.slot.specs.Logs.{reads_cell, writes_cell, read_log, write_log}
use Rattle.slot.proofs.Logic.{and-false}
use Rattle.slot.specs.declared.SlotRecord.{SlotRecord}
use Rattle.rules.specs.Model.{controller}
use Rattle.rules.specs.State.{Slot, idle, opened, locking, twilight, publishing, slot_at, commit_of}
use Rattle.rules.specs.Outcome.{Outcome, reply_of}
use Rattle.rules.specs.Step.{Call, step}
use Rattle.rules.specs.Layout.{lay, state_of}
use Rattle.rules.specs.Area.{Answered, step_on_bytes}
use Rattle.rules.proofs.LayView.{read-log, write-log}
use Rattle.history.specs.History.{Event}
use Rattle.history.proofs.Cases.{OfStep}
use Rattle.history.proofs.StepCase.{step_case}
use Rattle.history.proofs.Keeps.OnBytes.{stepped, answered-reply}
use Rattle.area.proofs.Good.{good_of}
use Rattle.area.proofs.SlotRead.{slot-of}
use Rattle.stage.proofs.First.{Kept}
use Rattle.tally.specs.declared.Numbers.{Numbers}
use Rattle.effects.specs.Effects.{Effect, begun, read_shared, reloaded, committed, aborted, written_cells, effect_of}
use Rattle.telling.specs.Looking.{slot_start, before_of, looked_at}
use Rattle.tally.specs.Showing.{read_shown, shown_by}
use Rattle.effects.specs.Steps.{effect_by, code_on, effect_on}

-- the event of a call on an area
abbrev pub event_on : List ℕ → Call → Event
event_on a call = record { before = state_of controller a; call = call; reply = (step_on_bytes controller a call).reply }

-- the commit stamp stands in the record
commit-laid : (x : Slot) → (lay x).commit ≡ commit_of x
commit-laid idle = refl
commit-laid (opened start reads writes) = refl
commit-laid (locking taken start reads writes) = refl
commit-laid (twilight ignoring start commit reads writes) = refl
commit-laid (publishing ignoring taken start commit reads writes) = refl

-- a code of a refusal, by the tests that the moves go by
refuses : (r : Refusal) → OfStep r → Refuses (refusal_code r)
refuses r k = (λ e. rw e at k.0, λ e. rw e at k.1)

-- what a step shows, by its number, its code and what the logs had, is what the definition says
module _ (step code slot cell number : ℕ) (v : SlotRecord) (written read : Bool) where
  abbrev made : List Effect
  made = effect_by (shown_by step code (written or read)) slot number cell v

  abbrev said : List Effect
  said =
      cond (eqb step 1 and eqb code 0) (begun slot number ∷ [])
      (cond ((eqb step 2 and eqb code 0) and not written and not read) (read_shared slot number cell ∷ [])
      (cond (eqb step 10 and eqb code 0) (reloaded slot number ∷ [])
      (cond (eqb step 12 and eqb code 0) (committed slot number v.commit (written_cells (write_log v)) ∷ [])
      (cond ((eqb step 14 and eqb code 0) or eqb code 13) (aborted slot number ∷ [])
      []))))

  outcome : code ≡ 13 → made ≡ said
  unfolding shown_by ◌and◌ ◌or◌
  outcome c = rw c (simp and-false)

  refused-step : eqb code 13 ≡ false → eqb code 0 ≡ false → made ≡ said
  unfolding shown_by ◌and◌ ◌or◌
  refused-step p q = rw (p, q) (simp and-false)

  -- a read, by what the logs had
  read_done : (w r : Bool) → effect_by (read_shown (w or r)) slot number cell v ≡ cond (not w and not r) (read_shared slot number cell ∷ []) []
  unfolding ◌and◌ ◌or◌
  read_done true r = refl
  read_done false true = refl
  read_done false false = refl

  -- an accepted step, by its number
  module _ (c : code ≡ 0) where
    by-step : (a b d e f : Bool) → eqb step 1 ≡ a → eqb step 2 ≡ b → eqb step 10 ≡ d → eqb step 12 ≡ e → eqb step 14 ≡ f → made ≡ said
    unfolding shown_by ◌and◌ ◌or◌
    by-step true b d e f p q r s t = let is = eqb-true step 1 p in rw (c, is)
    by-step false true d e f p q r s t = let is = eqb-true step 2 q in rw (c, is) (read_done written read)
    by-step false false true e f p q r s t = let is = eqb-true step 10 r in rw (c, is)
    by-step false false false true f p q r s t = let is = eqb-true step 12 s in rw (c, is)
    by-step false false false false true p q r s t = let is = eqb-true step 14 t in rw (c, is)
    by-step false false false false false p q r s t = rw (c, p, q, r, s, t)

  by_code : (t z : Bool) → eqb code 13 ≡ t → eqb code 0 ≡ z → made ≡ said
  by_code true z p q = outcome (eqb-true code 13 p)
  by_code false true p q = by-step (eqb-true code 0 q) (eqb step 1) (eqb step 2) (eqb step 10) (eqb step 12) (eqb step 14) refl refl refl refl refl
  by_code false false p q = refused-step p q

module _ (a : List ℕ) (kept : Kept a) (call : Call) where
  -- what is not refused names a slot
  pub inside : (Refuses (code_on a call) → ⊥) → pred call.slot < 8
  inside n =
      let S = state_of controller a in
      let o = step controller S call in
      let reply : (step_on_bytes controller a call).reply ≡ reply_of o = ap (λ (x : Answered). x.reply) (stepped controller a call kept.right) ∙ answered-reply controller a o in
      let goes : Refuses (reply_code (reply_of o)) → ⊥ = rw reply at n in
      step_case controller S (λ (o : Outcome). (Refuses (reply_code (reply_of o)) → ⊥) → pred call.slot < 8)
      (λ r k m. absurd (m (refuses r k))) call (λ s made h r T move m. h)
      goes

  -- what is looked at is what the slot has
  looked-right : pred call.slot < 8 → looked_at a call.slot call.cell ≡ before_of (lay (slot_at (state_of controller a) (pred call.slot))) call.cell
  unfolding looked_at
  looked-right h =
      let good = good_of a kept.bytes kept.right in
      let long = le-leb (slot_start a call.slot + 197) (length a) (omega (arith, good.long)) in
      rw long (ap (λ (v : SlotRecord). before_of v call.cell) (slot-of good h refl))

  -- the effect that is made of a step is that of its event, if the number is: of one that is not refused ..
  done-right : (v : Numbers) (number : ℕ) → (Refuses (code_on a call) → ⊥) → get_or v.last call.slot 0 ≡ number → effect_on a call v ≡ effect_of number (event_on a call)
  unfolding effect_on effect_of
  done-right v number n same =
      let x = slot_at (state_of controller a) (pred call.slot) in
      let code = code_on a call in
      rw (looked-right (inside n), same)
      (by_code call.step code call.slot call.cell number (without_reads (lay x)) (writes_cell (write_log (lay x)) call.cell) (reads_cell (read_log (lay x)) call.cell) (eqb code 13) (eqb code 0) refl refl
      ∙ rw (write-log x, read-log x, commit-laid x))

  -- .. and of one that is: both are silent
  refused-right : (v : Numbers) (number : ℕ) → eqb (code_on a call) 13 ≡ false → eqb (code_on a call) 0 ≡ false → effect_on a call v ≡ effect_of number (event_on a call)
  unfolding effect_on effect_of shown_by ◌and◌ ◌or◌
  refused-right v number p q = rw (p, q) (simp and-false)

  pub effect-right : (v : Numbers) (number : ℕ) → ((Refuses (code_on a call) → ⊥) → get_or v.last call.slot 0 ≡ number)
      → effect_on a call v ≡ effect_of number (event_on a call)
  effect-right v number same = by (eqb (code_on a call) 13) (eqb (code_on a call) 0) refl refl
    where
      by : (t z : Bool) → eqb (code_on a call) 13 ≡ t → eqb (code_on a call) 0 ≡ z → effect_on a call v ≡ effect_of number (event_on a call)
      by true z p q =
          let n : Refuses (code_on a call) → ⊥ = λ k. k.1 (eqb-true _ 13 p) in
          done-right v number n (same n)
      by false true p q =
          let n : Refuses (code_on a call) → ⊥ = λ k. k.0 (eqb-true _ 0 q) in
          done-right v number n (same n)
      by false false p q = refused-right v number p q
