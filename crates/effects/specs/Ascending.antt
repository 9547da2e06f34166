-- "the written cells in ascending order": of every `co` line, in the history of any calls from a well-formed state or area, and so from one at rest.
use Rattle.std.specs.Prelude.{true, List, ◌≡◌, ℕ, ltb}
use Rattle.wire.specs.Field.{Bytes}
use Rattle.slot.specs.Logic.{pairwise, All}
use Rattle.rules.specs.Model.{Model}
use Rattle.rules.specs.State.{State}
use Rattle.rules.specs.StateRight.{state_right}
use Rattle.rules.specs.Step.{Call, step}
use Rattle.rules.specs.AreaRight.{well_formed}
use Rattle.history.specs.History.{Event, history}
use Rattle.history.specs.AreaHistory.{area_history}
use Rattle.effects.specs.Effects.{effects}
use Rattle.effects.specs.Agree.{ShownCommit, commits_shown}

-- each cell is below every later one, so that none stands twice
abbrev pub Ascends : List Event → Type 0
Ascends events = All (λ (x : ShownCommit). pairwise ltb x.cells ≡ true) (commits_shown (effects events))

pub record Ascending (M : Model) : Type 0 where
  pub of_states : (S : State) → state_right M S ≡ true → (calls : List Call) → Ascends (history (step M) S calls)
  pub of_areas : (a : List ℕ) → Bytes a → well_formed M a ≡ true → (calls : List Call) → Ascends (area_history M a calls)
