-- Demand 3 for areas: on a well-formed area the step on bytes does what the step does on the state in it, so both have the same history.
use mathlib.Core.Bool.{true}
use mathlib.Core.List.{List, [], ◌∷◌, ◌++◌}
use mathlib.Core.Path.{◌≡◌, refl, ◌∙◌, ap, ap₂}
use Prim.Native.Nat.{ℕ}
use Rattle.wire.specs.Field.{Bytes}
use Rattle.slot.proofs.Logic.{and_intro, and_left, and_right}
use Rattle.rules.specs.Model.{Model, FitsBytes}
use Rattle.rules.specs.State.{State}
use Rattle.rules.specs.StateRight.{state_right, state_at_rest}
use Rattle.rules.specs.Outcome.{Outcome, refused, accepted, reply_of, after}
use Rattle.rules.specs.Step.{Call, step}
use Rattle.rules.specs.Layout.{state_of}
use Rattle.rules.specs.AreaRight.{well_formed}
use Rattle.rules.specs.Area.{Answered, answered, step_on_bytes, at_rest}
use Rattle.rules.proofs.RoundTrip.{state-right, state-back}
use Rattle.history.specs.History.{history, final}
use Rattle.history.specs.AreaHistory.{area_history, Histories}
use Rattle.history.specs.Keeps.{bytes_after}
use Rattle.history.proofs.Keeps.{keeps}
use Rattle.history.proofs.Keeps.OnBytes.{stepped, answered-reply}
use Rattle.history.proofs.Demand3.{demand3}

-- calls in two parts
pub bytes-append : (M : Model) (a : List ℕ) (calls more : List Call) → bytes_after M a (calls ++ more) ≡ bytes_after M (bytes_after M a calls) more
unfolding bytes_after
bytes-append M a [] more = refl
bytes-append M a (call ∷ calls) more = bytes-append M (step_on_bytes M a call).bytes calls more

module _ (M : Model) (fits : FitsBytes M) where
  -- the state in the bytes after a step
  same-state : (a : List ℕ) (o : Outcome) → state_right M (after (state_of M a) o) ≡ true → state_of M (answered M a o).bytes ≡ after (state_of M a) o
  same-state a (refused r) right = refl
  same-state a (accepted r T) right = state-back M fits T right

  -- both have the same history, and end in the same state
  pub same-history : (calls : List Call) (a : List ℕ) → Bytes a → well_formed M a ≡ true → area_history M a calls ≡ history (step M) (state_of M a) calls
  unfolding area_history history
  same-history [] a bytes p = refl
  same-history (call ∷ calls) a bytes p =
      let S = state_of M a in
      let o = step M S call in
      let here = stepped M a call p in
      let next : state_of M (step_on_bytes M a call).bytes ≡ after S o =
      ap (λ (x : Answered). state_of M x.bytes) here ∙ same-state a o ((keeps M fits).state_kept S call (state-right M a bytes p)) in
      let reply : (step_on_bytes M a call).reply ≡ reply_of o = ap (λ (x : Answered). x.reply) here ∙ answered-reply M a o in
      ap₂ ◌∷◌ (λ i. record { before = S; call = call; reply = reply i })
      (same-history calls (step_on_bytes M a call).bytes ((keeps M fits).bytes_kept a call bytes p) ((keeps M fits).area_kept a call bytes p)
      ∙ ap (λ (T : State). history (step M) T calls) next)

  pub same-final : (calls : List Call) (a : List ℕ) → Bytes a → well_formed M a ≡ true → state_of M (bytes_after M a calls) ≡ final (step M) (state_of M a) calls
  unfolding bytes_after final
  same-final [] a bytes p = refl
  same-final (call ∷ calls) a bytes p =
      let S = state_of M a in
      let o = step M S call in
      let next : state_of M (step_on_bytes M a call).bytes ≡ after S o =
      ap (λ (x : Answered). state_of M x.bytes) (stepped M a call p) ∙ same-state a o ((keeps M fits).state_kept S call (state-right M a bytes p)) in
      same-final calls (step_on_bytes M a call).bytes ((keeps M fits).bytes_kept a call bytes p) ((keeps M fits).area_kept a call bytes p)
      ∙ ap (λ (T : State). final (step M) T calls) next

  pub rest-state : (a : List ℕ) → Bytes a → at_rest M a ≡ true → state_at_rest M (state_of M a) ≡ true
  unfolding at_rest state_at_rest
  rest-state a bytes p = and_intro _ _ (state-right M a bytes (and_left _ _ p)) (and_right _ _ p)

  pub rest-right : (a : List ℕ) → at_rest M a ≡ true → well_formed M a ≡ true
  unfolding at_rest
  rest-right a p = and_left _ _ p

  -- "Start from an area at rest and take any list of calls from any slots."
  pub histories : Histories M
  histories =
      record {
        of_states = demand3 M;
        of_areas = λ a bytes rest calls.
            rw (same-history calls a bytes (rest-right a rest), same-final calls a bytes (rest-right a rest))
            (demand3 M (state_of M a) (rest-state a bytes rest) calls);
      }
