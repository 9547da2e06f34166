-- The steps on bytes are the steps on states: a step on the area of a state is the step on the state.
use mathlib.Core.Bool.{true}
use mathlib.Core.List.{List}
use mathlib.Core.Path.{◌≡◌, refl, ap, ◌∙◌}
use Prim.Native.Nat.{ℕ, zero, suc}
use Rattle.rules.specs.Model.{controller}
use Rattle.rules.specs.State.{State}
use Rattle.rules.specs.StateRight.{state_right}
use Rattle.rules.specs.Outcome.{reply_of, after}
use Rattle.rules.specs.Step.{Call, step}
use Rattle.rules.specs.Layout.{pack, state_of}
use Rattle.rules.specs.Area.{Answered, step_on_bytes}
use Rattle.rules.proofs.Controller.{controller-fits}
use Rattle.rules.proofs.RoundTrip.{state-back}
use Rattle.history.proofs.Keeps.{keeps}
use Rattle.history.proofs.Keeps.OnBytes.{stepped-packed}
use Rattle.stage.specs.Calls.{call_at, area_after}
use Rattle.stage.specs.States.{state_after}

-- one step
module _ (S : State) (right : state_right controller S ≡ true) (call : Call) where
  pub step-bytes : (step_on_bytes controller (pack controller S) call).bytes ≡ pack controller (after S (step controller S call))
  step-bytes = ap (λ (x : Answered). x.bytes) (stepped-packed controller controller-fits S call right)

  pub step-reply : (step_on_bytes controller (pack controller S) call).reply ≡ reply_of (step controller S call)
  step-reply = ap (λ (x : Answered). x.reply) (stepped-packed controller controller-fits S call right)

-- the state is read back from its area
pub back : (T : State) → state_right controller T ≡ true → state_of controller (pack controller T) ≡ T
back T right = state-back controller controller-fits T right

module _ (S : State) (right : state_right controller S ≡ true) (l : List ℕ) where
  pub state-right : (k : ℕ) → state_right controller (state_after S l k) ≡ true
  unfolding state_after
  state-right zero = right
  state-right (suc k) = (keeps controller controller-fits).state_kept (state_after S l k) (call_at l k) (state-right k)

  pub area_of : (k : ℕ) → area_after (pack controller S) l k ≡ pack controller (state_after S l k)
  unfolding area_after state_after
  area_of zero = refl
  area_of (suc k) =
      ap (λ (x : List ℕ). (step_on_bytes controller x (call_at l k)).bytes) (area_of k) ∙ step-bytes (state_after S l k) (state-right k) (call_at l k)
