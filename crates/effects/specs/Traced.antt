-- What a sheet's trace is, for any bytes: the effects of the history of its run, a line each. A bad sheet prints the same as where it is run.
use Rattle.std.specs.Prelude.{cond, List, ℕ, ◌*◌, Result}
use Rattle.wire.specs.Table.{tab}
use Rattle.rules.specs.Model.{controller}
use Rattle.rules.specs.Step.{Call}
use Rattle.history.specs.History.{Event}
use Rattle.history.specs.AreaHistory.{area_history}
use Rattle.apart.specs.Apart.{most_steps, steps, good_sheet}
use Rattle.stage.specs.declared.TooShort.{TooShort}
use Rattle.stage.specs.Calls.{call_at, step_count}
use Rattle.stage.specs.First.{first_area, bad_sheet}
use Rattle.stage.specs.Printed.{Printed}
use Rattle.effects.specs.Effects.{effects}
use Rattle.effects.specs.Trace.{trace}

-- the calls of a sheet's steps, in order
abbrev pub calls_of : List ℕ → List Call
calls_of l = tab (step_count l) (call_at l)

-- the history of a sheet's run, from a fresh area with its cells
abbrev pub sheet_history : List ℕ → List Event
sheet_history s = area_history controller (first_area s) (calls_of (steps s))

unfoldable pub traced : List ℕ → List ℕ
traced s = cond (good_sheet s) (trace (effects (sheet_history s))) bad_sheet

-- Room for the longest trace: each step pays for 12 bytes, the longest `r`; `at`, `rl` and `ab` have at most 10. `co` has at most 15, and 3 for each cell: its own 12, 3 of its
-- enter's and 3 of each write's, which are silent.
abbrev pub most_trace : ℕ
most_trace = 12 * most_steps

-- with too little room nothing is done; else the trace stands at the front of the buffer
abbrev pub SheetTraced : (s a out : List ℕ) (r : Result ℕ TooShort) (b t : List ℕ) → Type 0
SheetTraced s a out r b t = Printed most_trace (traced s) s a out r b t
