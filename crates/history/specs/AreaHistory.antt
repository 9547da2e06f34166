-- The history of an area: the state that stands in it before each call, the call, and what was replied.
use Rattle.std.specs.Prelude.{true, List, [], ◌∷◌, ◌≡◌, ℕ}
use Rattle.wire.specs.Field.{Bytes}
use Rattle.rules.specs.Model.{Model}
use Rattle.rules.specs.State.{State}
use Rattle.rules.specs.StateRight.{state_at_rest}
use Rattle.rules.specs.Step.{Call, step}
use Rattle.rules.specs.Layout.{state_of}
use Rattle.rules.specs.Area.{step_on_bytes, at_rest}
use Rattle.history.specs.History.{Event, history, final, Demand3}
use Rattle.history.specs.Keeps.{bytes_after}

unfoldable pub area_history : Model → List ℕ → List Call → List Event
area_history M a [] = []
area_history M a (call ∷ calls) =
    record { before = state_of M a; call = call; reply = (step_on_bytes M a call).reply } ∷ area_history M (step_on_bytes M a call).bytes calls

-- "Start from an area at rest and take any list of calls from any slots." Of states, and of areas of any bytes.
pub record Histories (M : Model) : Type 0 where
  pub of_states : (S : State) → state_at_rest M S ≡ true → (calls : List Call) → Demand3 S (history (step M) S calls) (final (step M) S calls)
  pub of_areas : (a : List ℕ) → Bytes a → at_rest M a ≡ true → (calls : List Call)
      → Demand3 (state_of M a) (area_history M a calls) (state_of M (bytes_after M a calls))
