-- Only a slot in twilight is asked, of a cell that its read log has: the answer is the mark of its entry.
use Rattle.rules.specs.Steps.{ask}
use Rattle.ways.proofs.Done.{handed, keeps}
use Rattle.twilight.proofs.ask.Goals as goal

pub returns-in_err-e : goal.returns-in_err-e
unfolding ask
returns-in_err-e c = handed _ c.from_residual.ensures.1 (c.in_err-e.ensures.row _)

pub returns : goal.returns
unfolding ask
returns c = keeps _ c.requires.0 (c.in_ok-e.ensures.row _)
