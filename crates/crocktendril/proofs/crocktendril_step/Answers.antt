use mathlib.Core.Path.{sym, ◌∙◌}
use borrow.Author.Rules.{rules}
use Rattle.area.proofs.Good.{good_of}
use Rattle.crocktendril.proofs.Boundary.{refuses, steps}
use Rattle.crocktendril.proofs.crocktendril_step.Goals as goal

pub returns-then-not-well_formed : goal.returns-then-not-well_formed
returns-then-not-well_formed c =
    refuses _ _ _ (sym c.well_formed-2.ensures ∙ c.if-not-well_formed.true) c.number.ensures

pub step-requires : goal.step-requires
step-requires c =
    good_of _ (λ i. search rules) (sym c.well_formed-2.ensures ∙ c.if-not-well_formed.false)

pub returns : goal.returns
returns c =
    let right = sym c.well_formed-2.ensures ∙ c.if-not-well_formed.false in
    steps _ _ _ _ _ right (rw c.decode-decoded.ensures at c.step.ensures) c.number-2.ensures
