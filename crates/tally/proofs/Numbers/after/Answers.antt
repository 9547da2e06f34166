-- `after` meets its contract: one more transaction, or one of the tests fails.
use Rattle.std.proofs.Common.{arith}
use Rattle.std.proofs.lemmas.Grind.{common_steps}
use Rattle.slot.specs.Logic.{◌and◌}
use Rattle.tally.specs.Numbering.{numbers_after}
use Rattle.tally.proofs.Numbers.after.Goals as goal

pub returns-then-self-lt-LAST : goal.returns-then-self-lt-LAST
unfolding numbers_after ◌and◌
returns-then-self-lt-LAST c = grind (arith, common_steps)

pub returns-else-step-eq-BEGIN : goal.returns-else-step-eq-BEGIN
unfolding numbers_after ◌and◌
returns-else-step-eq-BEGIN c = grind (arith, common_steps)
