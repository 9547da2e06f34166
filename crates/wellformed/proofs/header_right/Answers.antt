-- The tests are those of the clause, in its order; an area shorter than a header has not the length of the formula.
use mathlib.Core.Path.{◌∙◌, ap}
use native.Mathlib.Omega.{arith}
use borrow.Author.Tests.{eq-eqb, ne_eqb}
use Rattle.rules.specs.Model.{controller}
use Rattle.rules.specs.LogsRight.{cell_count_right}
use Rattle.logcheck.proofs.Chains.{pass, stop}
use Rattle.wellformed.proofs.Places.{other_length, other-field, header-rest}
use Rattle.wellformed.proofs.header_right.Goals as goal

pub returns-then-s-lt-HEADER : goal.returns-then-s-lt-HEADER
returns-then-s-lt-HEADER c =
    other_length c.args.s.now (λ e. omega arith)

pub returns-then-s-n : goal.returns-then-s-n
returns-then-s-n c =
    other_length c.args.s.now (λ e. omega arith)

pub returns-then-get-s : goal.returns-then-get-s
returns-then-get-s c =
    other-field c.args.s.now (omega arith) (λ e. omega arith)

pub returns-then-s-eq1 : goal.returns-then-s-eq1
returns-then-s-eq1 c =
    pass _ _ _ (eq-eqb _ _ c.if-s-eq1.true) (c.count_right.ensures ∙ ap (cell_count_right controller) c.from-n.ensures)
    ∙ header-rest c.args.s.now (omega arith) (omega arith)

pub returns-else-s-eq1 : goal.returns-else-s-eq1
returns-else-s-eq1 c =
    stop _ _ _ (ne_eqb _ _ c.if-s-eq1.false) (ne_eqb _ _ c.if-s-eq1.false) ∙ header-rest c.args.s.now (omega arith) (omega arith)
