-- The two clauses, in their order.
use mathlib.Core.Path.{sym, ◌∙◌}
use Rattle.logcheck.proofs.Chains.{pass, stop}
use Rattle.wellformed.specs.AreaParts.{parts_right}
use Rattle.wellformed.proofs.parts_right.Goals as goal

pub returns-then-slots_right : goal.returns-then-slots_right
unfolding parts_right
returns-then-slots_right c =
    pass _ _ _ (sym c.slots_right.ensures ∙ c.if-slots_right.true) c.stamps_apart.ensures

pub returns-else-slots_right : goal.returns-else-slots_right
unfolding parts_right
returns-else-slots_right c = stop _ _ _ (sym c.slots_right.ensures ∙ c.if-slots_right.false) c.if-slots_right.false
