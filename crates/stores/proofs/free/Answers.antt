-- `free` meets its contract: the test is the definition's.
use borrow.Author.Tests.{eq-eqb, ne_eqb}
use Rattle.stores.specs.Stores.{holder_freed}
use Rattle.stores.proofs.free.Goals as goal

pub returns-then-s-at : goal.returns-then-s-at
unfolding holder_freed
returns-then-s-at c = simp (eq-eqb _ _ c.if-s-at.true)

pub returns-else-s-at : goal.returns-else-s-at
unfolding holder_freed
returns-else-s-at c = simp (ne_eqb _ _ c.if-s-at.false)
