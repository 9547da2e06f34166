-- Both logs, in the order of the clause.
use mathlib.Core.Path.{sym, ◌∙◌}
use Rattle.logcheck.specs.Logged.{logs_right_in}
use Rattle.logcheck.proofs.Chains.{pass, stop}
use Rattle.logcheck.proofs.logs_right.Goals as goal

pub returns-then-reads_right : goal.returns-then-reads_right
unfolding logs_right_in
returns-then-reads_right c =
    pass _ _ _ (sym c.reads_right.ensures ∙ c.if-reads_right.true) c.writes_right.ensures

pub returns-else-reads_right : goal.returns-else-reads_right
unfolding logs_right_in
returns-else-reads_right c = stop _ _ _ (sym c.reads_right.ensures ∙ c.if-reads_right.false) c.if-reads_right.false
