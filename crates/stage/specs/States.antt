-- The steps of a sheet in the words of the rules: the state after them.
use Rattle.std.specs.Prelude.{List, ℕ, zero, suc}
use Rattle.rules.specs.Model.{controller}
use Rattle.rules.specs.State.{State}
use Rattle.rules.specs.Outcome.{after}
use Rattle.rules.specs.Step.{step}
use Rattle.stage.specs.Calls.{call_at}

-- the state after the first k steps
unfoldable pub state_after : State → List ℕ → ℕ → State
state_after S l zero = S
state_after S l (suc k) = after (state_after S l k) (step controller (state_after S l k) (call_at l k))
