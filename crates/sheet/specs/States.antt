-- The output of a run in the words of the rules: the same lines, of states and no longer of bytes.
use Rattle.std.specs.Prelude.{true, List, ◌++◌, ◌≡◌, ℕ, ◌+◌}
use Rattle.wire.specs.Table.{cat}
use Rattle.rules.specs.Model.{controller}
use Rattle.rules.specs.State.{State, cell_count, cell_at}
use Rattle.rules.specs.Outcome.{reply_of}
use Rattle.rules.specs.Step.{step}
use Rattle.rules.specs.Area.{described_cells, fresh}
use Rattle.line.specs.Line.{clock_line}
use Rattle.apart.specs.Apart.{descriptions, steps, good_sheet}
use Rattle.stage.specs.Calls.{call_at, step_count}
use Rattle.stage.specs.States.{state_after}
use Rattle.sheet.specs.Output.{line_of, line_of_cell, output}

unfoldable pub state_line : State → List ℕ → ℕ → List ℕ
state_line S l k = line_of (k + 1) (reply_of (step controller (state_after S l k) (call_at l k)))

-- the lines of a state's cells and clock
unfoldable pub end_lines : State → List ℕ
end_lines S = cat (cell_count S) (λ c. line_of_cell c (cell_at S c)) ++ clock_line S.clock

abbrev pub state_lines : State → List ℕ → List ℕ
state_lines S l = cat (step_count l) (state_line S l) ++ end_lines (state_after S l (step_count l))

-- A good sheet prints the replies of the rules' own steps on a fresh state with its cells, and then the state where they end.
abbrev pub OnStates : Type 0
OnStates = (s : List ℕ) → good_sheet s ≡ true → output s ≡ state_lines (fresh controller (described_cells (descriptions s))) (steps s)
