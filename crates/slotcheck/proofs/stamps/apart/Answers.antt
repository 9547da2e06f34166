-- Either test, in the order of the clause.
use borrow.Author.Tests.{eq-eqb, ne_eqb}
use Rattle.rules.specs.LogsRight.{stamps_apart}
use Rattle.logcheck.proofs.Chains.{or_yes, or_no}
use Rattle.slotcheck.proofs.stamps.apart.Goals as goal

pub returns-then-k-eq0 : goal.returns-then-k-eq0
unfolding stamps_apart
returns-then-k-eq0 c = or_yes _ _ (eq-eqb _ _ c.if-k-eq0.true)

pub returns-else-k-eq0 : goal.returns-else-k-eq0
unfolding stamps_apart
returns-else-k-eq0 c = or_no _ _ (ne_eqb _ _ c.if-k-eq0.false)
