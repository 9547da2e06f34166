-- Each return is the definition's case of the phase.
use mathlib.Core.Path.{refl}
use native.Mathlib.Omega.{arith}
use Rattle.std.proofs.lemmas.Grind.{common_steps}
use borrow.Author.Tests.{eq-eqb}
use Rattle.slot.specs.Layout.{slot_of}
use Rattle.rules.specs.AreaRight.{taken_right}
use Rattle.logcheck.proofs.Chains.{pick_yes}
use Rattle.slotcheck.proofs.numbers.taken_right.Goals as goal

pub returns-in-2 : goal.returns-in-2
unfolding taken_right slot_of
returns-in-2 c = pick_yes _ _ _ _ (eq-eqb _ _ c.in-2.is) refl

pub returns-in-4 : goal.returns-in-4
unfolding taken_right slot_of
returns-in-4 c = grind (arith, common_steps)

pub returns-in_default : goal.returns-in_default
unfolding taken_right slot_of
returns-in_default c = grind (arith, common_steps)
