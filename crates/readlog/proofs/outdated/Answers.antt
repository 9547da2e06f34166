-- `outdated` meets its contract: the tests are the definition's.
use mathlib.Core.Path.{sym, ◌∙◌}
use Rattle.slot.specs.Logic.{◌or◌}
use Rattle.rules.specs.Cells.{newer}
use Rattle.readlog.proofs.outdated.Goals as goal

pub returns-then-held_by_other : goal.returns-then-held_by_other
unfolding ◌or◌
returns-then-held_by_other c = c.if-held_by_other.true ∙ rw (sym c.held_by_other.ensures ∙ c.if-held_by_other.true)

pub returns-else-held_by_other : goal.returns-else-held_by_other
unfolding ◌or◌ newer
returns-else-held_by_other c = rw (sym c.held_by_other.ensures ∙ c.if-held_by_other.false)
