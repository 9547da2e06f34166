-- Even, then both bounds, in the order of the clause.
use borrow.Author.Rules.{rules}
use borrow.Author.Tests.{eq-eqb, ne_eqb}
use Rattle.slot.specs.Logic.{◌and◌}
use Rattle.logcheck.proofs.Chains.{pass, stop}
use Rattle.wearset.specs.WearSet.{set_length_right}
use Rattle.wearset.proofs.length_right.Goals as goal

pub returns-then-n-eq0 : goal.returns-then-n-eq0
unfolding set_length_right ◌and◌
returns-then-n-eq0 c = pass _ _ _ (eq-eqb _ _ c.if-n-eq0.true) (search rules)

pub returns-else-n-eq0 : goal.returns-else-n-eq0
unfolding set_length_right
returns-else-n-eq0 c = let odd = ne_eqb _ _ c.if-n-eq0.false in stop _ _ _ odd odd
