-- Only a slot in twilight rereads, a cell that its read log has: the answer is the value of its entry.
use Rattle.rules.specs.Steps.{reread}
use Rattle.ways.proofs.Done.{handed, keeps}
use Rattle.twilight.proofs.reread.Goals as goal

pub returns-in_err-e : goal.returns-in_err-e
unfolding reread
returns-in_err-e c = handed _ c.from_residual.ensures.1 (c.in_err-e.ensures.row _)

pub returns : goal.returns
unfolding reread
returns c = keeps _ c.requires.0 (rw (c.value_of.ensures, c.cell_at-x.ensures) (c.in_ok-e.ensures.row _))
