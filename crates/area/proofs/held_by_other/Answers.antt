-- `held_by_other` meets its contract: the tests are the definition's.
use native.Mathlib.Numerals.{add-one}
use borrow.Author.Tests.{eq-eqb, ne_eqb}
use Rattle.slot.specs.Logic.{◌and◌}
use Rattle.rules.specs.Cells.{held_by_other}
use Rattle.area.proofs.held_by_other.Goals as goal

pub returns-then-x-ne0 : goal.returns-then-x-ne0
unfolding held_by_other ◌and◌
returns-then-x-ne0 c = simp (ne_eqb _ _ c.if-x-ne0.true, add-one)

pub returns-else-x-ne0 : goal.returns-else-x-ne0
unfolding held_by_other ◌and◌
returns-else-x-ne0 c = simp (eq-eqb _ _ c.if-x-ne0.false)
