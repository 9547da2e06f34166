-- `reloaded_entry` meets its contract: the cell read is the entry's.
use mathlib.Core.Bool.{false}
use Rattle.rules.specs.Cells.{reloaded}
use Rattle.readlog.proofs.reloaded_entry.Goals as goal

pub returns : goal.returns
unfolding reloaded
returns c =
    λ j. record { cell = c.args.e.cell; mark = false; word = (c.cell_at-x.ensures j).word }
