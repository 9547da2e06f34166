-- What the parts of a run leave in a lent area and in a lent buffer, for any bytes: a line that does not fit is left out.
use Rattle.std.specs.Prelude.{cond, List, ◌≡◌, ℕ, leb, length}
use Rattle.line.specs.declared.Out.{Out}
use Rattle.line.specs.Gather.{Gathered, gathered, added, added_all, Leaves, written, Writes}
use Rattle.line.specs.Line.{clock_line}
use Rattle.rules.specs.Model.{controller, cell_offset}
use Rattle.rules.specs.Layout.{count_in, clock_in}
use Rattle.stage.specs.Calls.{step_count, end_area}
use Rattle.sheet.specs.Output.{step_line, line_in_area}

-- the lines of the steps `l` on an area `a`
abbrev pub steps_added : List ℕ → List ℕ → Gathered → Gathered
steps_added a l g = added_all (step_count l) (step_line a l) g

-- the lines of the cells and of the clock, if the area is as long as its cells need
unfoldable pub state_added : List ℕ → Gathered → Gathered
state_added a g =
    cond (leb (cell_offset controller (count_in a)) (length a))
    (added (added_all (count_in a) (line_in_area a) g) (clock_line (clock_in controller a)))
    g

-- the steps `l` made on an area `a`, their lines written behind what was written before
pub record StepsMade (l a : List ℕ) (before : Out) (b : List ℕ) (after : Out) : Type 0 where
  pub area : b ≡ end_area a l
  pub lines : Writes before (steps_added a l (written before)) after

-- the steps `l` made on an area `a`, and all lines put into `out`
pub record StepsRun (l a out : List ℕ) (r : ℕ) (b t : List ℕ) : Type 0 where
  pub area : b ≡ end_area a l
  pub lines : Leaves (state_added b (steps_added a l (gathered 0 out))) r t
