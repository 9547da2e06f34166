-- `take_apart` meets its contract: the tests are the definition's, in its order.
use mathlib.Core.Path.{sym, ◌∙◌}
use borrow.Author.Tests.{eq-eqb, ne_eqb}
use Rattle.apart.proofs.Apart.{found, not-found, cell-pieces, step-pieces, by-tests}
use Rattle.apart.proofs.take_apart.Goals as goal

pub returns-then-byte-ne-VERSION : goal.returns-then-byte-ne-VERSION
returns-then-byte-ne-VERSION c =
    let tests = by-tests c.args.s.now _ _ (c.from-described.ensures ∙ c.pair.ensures) (c.from-stepped.ensures ∙ c.pair-2.ensures) in
    rw (ne_eqb _ 1 (λ e. c.if-byte-ne-VERSION.true (c.byte.ensures ∙ e))) at tests

pub returns-then-s-described : goal.returns-then-s-described
returns-then-s-described c =
    let tests = by-tests c.args.s.now _ _ (c.from-described.ensures ∙ c.pair.ensures) (c.from-stepped.ensures ∙ c.pair-2.ensures) in
    let version = eq-eqb _ 1 (sym c.byte.ensures ∙ c.if-byte-ne-VERSION.false) in
    rw (version, ne_eqb _ _ c.if-s-described.true) at tests

pub returns-in_err-cells : goal.returns-in_err-cells
returns-in_err-cells c =
    let tests = by-tests c.args.s.now _ _ (c.from-described.ensures ∙ c.pair.ensures) (c.from-stepped.ensures ∙ c.pair-2.ensures) in
    let version = eq-eqb _ 1 (sym c.byte.ensures ∙ c.if-byte-ne-VERSION.false) in
    let whole = eq-eqb _ _ c.if-s-described.false in
    let wrong = not-found _ _ (c.in_err-cells.ensures ∙ cell-pieces _) in
    rw c.from_residual.ensures (rw (version, whole, wrong) at tests)

pub returns-in_err-steps : goal.returns-in_err-steps
returns-in_err-steps c =
    let tests = by-tests c.args.s.now _ _ (c.from-described.ensures ∙ c.pair.ensures) (c.from-stepped.ensures ∙ c.pair-2.ensures) in
    let version = eq-eqb _ 1 (sym c.byte.ensures ∙ c.if-byte-ne-VERSION.false) in
    let whole = eq-eqb _ _ c.if-s-described.false in
    let cells = found _ (c.in_ok-cells.ensures ∙ cell-pieces _) in
    let wrong = not-found _ _ (c.in_err-steps.ensures ∙ step-pieces _) in
    rw c.from_residual-in_err-steps.ensures (rw (version, whole, cells.0, wrong) at tests)

pub returns-then-not-all_legal : goal.returns-then-not-all_legal
returns-then-not-all_legal c =
    let tests = by-tests c.args.s.now _ _ (c.from-described.ensures ∙ c.pair.ensures) (c.from-stepped.ensures ∙ c.pair-2.ensures) in
    let version = eq-eqb _ 1 (sym c.byte.ensures ∙ c.if-byte-ne-VERSION.false) in
    let whole = eq-eqb _ _ c.if-s-described.false in
    let cells = found _ (c.in_ok-cells.ensures ∙ cell-pieces _) in
    let steps = found _ (c.in_ok-steps.ensures ∙ step-pieces _) in
    rw (version, whole, cells.0, steps.0, sym c.all_legal.ensures ∙ c.if-not-all_legal.true) at tests

pub returns : goal.returns
returns c =
    let tests = by-tests c.args.s.now _ _ (c.from-described.ensures ∙ c.pair.ensures) (c.from-stepped.ensures ∙ c.pair-2.ensures) in
    let version = eq-eqb _ 1 (sym c.byte.ensures ∙ c.if-byte-ne-VERSION.false) in
    let whole = eq-eqb _ _ c.if-s-described.false in
    let cells = found _ (c.in_ok-cells.ensures ∙ cell-pieces _) in
    let steps = found _ (c.in_ok-steps.ensures ∙ step-pieces _) in
    rw (cells.1, steps.1) (rw (version, whole, cells.0, steps.0, sym c.all_legal.ensures ∙ c.if-not-all_legal.false) at tests)
