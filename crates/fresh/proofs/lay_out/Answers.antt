-- `lay_out` meets its contract: the tests are the definition's, in its order, and each way out is one of its three.
use mathlib.Core.Path.{sym, ◌∙◌}
use Rattle.fresh.proofs.Parts.{lengths-of, wrong-lengths, wrong-value, all_right}
use Rattle.fresh.proofs.lay_out.Goals as goal

pub returns-then-not-lengths_fit : goal.returns-then-not-lengths_fit
returns-then-not-lengths_fit c = wrong-lengths _ _ (sym c.lengths_fit.ensures ∙ c.if-not-lengths_fit.true)

pub returns-then-not-all_legal : goal.returns-then-not-all_legal
returns-then-not-all_legal c =
    wrong-value _ _ (sym c.lengths_fit.ensures ∙ c.if-not-lengths_fit.false) (sym c.all_legal.ensures ∙ c.if-not-all_legal.true)

pub put_fresh-requires : goal.put_fresh-requires
put_fresh-requires c =
    let lengths = lengths-of _ _ (sym c.lengths_fit.ensures ∙ c.if-not-lengths_fit.false) in
    (lengths.many, lengths.long)

pub returns : goal.returns
returns c =
    all_right _ _ _ (sym c.lengths_fit.ensures ∙ c.if-not-lengths_fit.false) (sym c.all_legal.ensures ∙ c.if-not-all_legal.false) c.put_fresh.ensures
