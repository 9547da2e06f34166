-- From what the check, the dispatch and the lay-out ensure to what C is promised.
use Rattle.std.specs.Prelude.{Err}
use mathlib.Core.Bool.{Bool, true, false, not, cond, false≢true}
use mathlib.Core.List.{List}
use mathlib.Core.Path.{◌≡◌, refl, sym, ◌∙◌, ap}
use Prim.Native.Nat.{ℕ, ◌≤◌}
use lib.Dec.{leb}
use borrow.Author.Tests.{le-leb}
use Rattle.call.specs.Answer.{Reply, reply_number}
use Rattle.call.specs.declared.Refusal.TheVariants.{NotWellFormed, NoSuchStep}
use Rattle.call.specs.Decode.{Decoded, decoded}
use Rattle.call.specs.declared.Undecoded.TheVariants.{Unknown}
use Rattle.call.proofs.Unknown.{unknown-outside}
use Rattle.slot.specs.Logic.{◌and◌}
use Rattle.slot.proofs.Logic.{and_intro}
use Rattle.rules.specs.Model.{controller}
use Rattle.rules.specs.State.{State}
use Rattle.rules.specs.Outcome.{Outcome, refused, reply_of}
use Rattle.rules.specs.Step.{Call, step_of, step}
use Rattle.rules.specs.Layout.{state_of}
use Rattle.rules.specs.AreaRight.{well_formed}
use Rattle.rules.specs.Area.{answered, step_on_bytes}
use Rattle.history.proofs.Keeps.OnBytes.{answered-reply}
use Rattle.ways.specs.Did.{Did}
use Rattle.crocktendril.specs.Contract.{Stepped}

-- a step number outside 1 to 14 decodes to no step, so the test of the number and the decoding say the same
no_step : (S : State) (slot : ℕ) (d : Decoded) → d ≡ (Err Unknown) → refused NoSuchStep ≡ step_of controller S slot d
unfolding step_of
no_step S slot d e = rw e

pub by_number : (S : State) (a : Call) → step controller S a ≡ step_of controller S a.slot (decoded a.step a.cell a.kind a.word)
unfolding step
by_number S a = by (leb 1 a.step and leb a.step 14) refl
  where
    outside : (leb 1 a.step and leb a.step 14) ≡ false → 1 ≤ a.step → a.step ≤ 14 → ⊥
    outside e low high = false≢true (sym e ∙ and_intro (leb 1 a.step) (leb a.step 14) (le-leb 1 a.step low) (le-leb a.step 14 high))

    by : (b : Bool) → (leb 1 a.step and leb a.step 14) ≡ b
        → cond (not (leb 1 a.step and leb a.step 14)) (refused NoSuchStep) (step_of controller S a.slot (decoded a.step a.cell a.kind a.word))
        ≡ step_of controller S a.slot (decoded a.step a.cell a.kind a.word)
    by true e = rw e
    by false e =
        rw e
        (no_step S a.slot (decoded a.step a.cell a.kind a.word) (unknown-outside a.step a.cell a.kind a.word (outside e)))

module _ (l : List ℕ) (a : Call) where
  -- an area that is not well formed gets code 1 and stays
  pub refuses : (r : ℕ) → well_formed controller l ≡ false → r ≡ reply_number (Err NotWellFormed) → Stepped l a r l
  unfolding step_on_bytes
  refuses r p e = record { answer = rw p e; bytes = rw p }

  -- any other is stepped
  pub steps : (reply : Reply) (r : ℕ) (l' : List ℕ) → well_formed controller l ≡ true
      → Did (step_of controller (state_of controller l) a.slot (decoded a.step a.cell a.kind a.word)) l reply l' → r ≡ reply_number reply → Stepped l a r l'
  unfolding step_on_bytes
  steps reply r l' p did e =
      let o = step controller (state_of controller l) a in
      let same = by_number (state_of controller l) a in
      record {
        answer = rw p (e ∙ ap reply_number (did.reply ∙ ap reply_of (sym same) ∙ sym (answered-reply controller l o)));
        bytes = rw p (did.bytes ∙ ap (λ (q : Outcome). (answered controller l q).bytes) (sym same));
      }
