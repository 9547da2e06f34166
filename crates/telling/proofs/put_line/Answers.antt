-- `put_line` meets its contract: a step that shows nothing has no line.
use Rattle.line.proofs.Gather.{writes_none}
use Rattle.telling.proofs.put_line.Goals as goal

pub returns-in_default : goal.returns-in_default
returns-in_default c = rw (← c.shown_by.ensures, c.in_default.is) (writes_none c.args.out.now)
