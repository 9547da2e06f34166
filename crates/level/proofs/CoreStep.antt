-- A step of the core on a good area: what it replies, and that the area is good after it, with the state that the step leaves.
use mathlib.Core.List.{List, [], ◌∷◌}
use mathlib.Core.Path.{◌≡◌, sym, ◌∙◌, ap}
use Prim.Native.Nat.{ℕ}
use Rattle.call.specs.Answer.{Reply}
use Rattle.call.specs.Decode.{decoded}
use Rattle.rules.specs.Model.{controller}
use Rattle.rules.specs.Outcome.{Outcome, reply_of, after}
use Rattle.rules.specs.Step.{Call, step_of, step}
use Rattle.rules.specs.Area.{Answered, answered}
use Rattle.rules.proofs.Controller.{controller-fits}
use Rattle.history.specs.History.{final}
use Rattle.history.specs.Keeps.{bytes_after}
use Rattle.history.proofs.Keeps.{keeps}
use Rattle.history.proofs.Keeps.OnBytes.{stepped}
use Rattle.history.proofs.Histories.{same-final}
use Rattle.area.specs.Good.{Good, state_in}
use Rattle.area.proofs.Good.{good_of}
use Rattle.ways.specs.Did.{Did}
use Rattle.crocktendril.proofs.Boundary.{by_number}

-- a call on a good area `l` has this reply and leaves `l'`
pub record Stepping (l : List ℕ) (a : Call) (reply : Reply) (l' : List ℕ) : Type 0 where
  pub reply_is : reply ≡ reply_of (step controller (state_in l) a)
  pub good : Good l'
  pub state : state_in l' ≡ after (state_in l) (step controller (state_in l) a)

module _ (l : List ℕ) (good : Good l) (a : Call) where
  pub stepping : {reply : Reply} {l' : List ℕ}
      → Did (step_of controller (state_in l) a.slot (decoded a.step a.cell a.kind a.word)) l reply l' → Stepping l a reply l'
  unfolding bytes_after final
  stepping did =
      let same = by_number (state_in l) a in
      let bytes = did.bytes ∙ ap (λ (o : Outcome). (answered controller l o).bytes) (sym same) ∙ sym (ap (λ (x : Answered). x.bytes) (stepped controller l a good.right)) in
      let keep = keeps controller controller-fits in
      record {
        reply_is = did.reply ∙ ap reply_of (sym same);
        good = rw bytes (good_of _ (keep.bytes_kept l a good.bytes good.right) (keep.area_kept l a good.bytes good.right));
        state = rw bytes (same-final controller controller-fits (a ∷ []) l good.bytes good.right);
      }
