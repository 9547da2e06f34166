-- The trace in the words of the rules and of demand 3.
use Rattle.std.specs.Prelude.{true, List, ◌≡◌, ℕ}
use Rattle.rules.specs.Model.{controller}
use Rattle.rules.specs.Step.{step}
use Rattle.rules.specs.Layout.{state_of}
use Rattle.rules.specs.Area.{described_cells, fresh}
use Rattle.history.specs.History.{history, Demand3}
use Rattle.history.specs.Keeps.{bytes_after}
use Rattle.apart.specs.Apart.{descriptions, steps, good_sheet}
use Rattle.stage.specs.First.{first_area}
use Rattle.effects.specs.Effects.{effects}
use Rattle.effects.specs.Trace.{trace}
use Rattle.effects.specs.Traced.{calls_of, sheet_history, traced}

-- A good sheet's trace is that of the rules' own steps, on a fresh state with its cells.
abbrev pub OnStates : Type 0
OnStates = (s : List ℕ) → good_sheet s ≡ true → traced s ≡ trace (effects (history (step controller) (fresh controller (described_cells (descriptions s))) (calls_of (steps s))))

-- A good sheet's history is one of demand 3: it starts from an area at rest.
abbrev pub OfDemand3 : Type 0
OfDemand3 = (s : List ℕ) → good_sheet s ≡ true
    → Demand3 (state_of controller (first_area s)) (sheet_history s) (state_of controller (bytes_after controller (first_area s) (calls_of (steps s))))
