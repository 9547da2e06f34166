-- `lengths_fit` meets its contract: the tests are the definition's, in its order.
use borrow.Author.Tests.{eq-eqb, ne_eqb, le-leb, lt-leb}
use Rattle.slot.specs.Logic.{◌and◌}
use Rattle.rules.specs.LogsRight.{cell_count_right}
use Rattle.rules.specs.Area.{lengths_fit}
use Rattle.fresh.proofs.lengths_fit.Goals as goal

pub returns-then-n-ds : goal.returns-then-n-ds
unfolding lengths_fit cell_count_right ◌and◌
returns-then-n-ds c = simp (ne_eqb _ _ c.if-n-ds.true)

pub returns-then-n-lt1 : goal.returns-then-n-lt1
unfolding lengths_fit cell_count_right ◌and◌
returns-then-n-lt1 c = simp (eq-eqb _ _ c.if-n-ds.false, lt-leb _ _ c.if-n-lt1.true)

pub returns-then-n-gt-MOST_CELLS : goal.returns-then-n-gt-MOST_CELLS
unfolding lengths_fit cell_count_right ◌and◌
returns-then-n-gt-MOST_CELLS c =
    simp (eq-eqb _ _ (c.if-n-ds.false), le-leb _ _ (c.if-n-lt1.false), lt-leb _ _ c.if-n-gt-MOST_CELLS.true)

pub returns : goal.returns
unfolding lengths_fit cell_count_right ◌and◌
returns c =
    simp (eq-eqb _ _ (c.if-n-ds.false), le-leb _ _ (c.if-n-lt1.false), le-leb _ _ c.if-n-gt-MOST_CELLS.false)
