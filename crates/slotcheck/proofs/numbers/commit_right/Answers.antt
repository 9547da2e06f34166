-- Each return is the definition's case of the tests that led there.
use mathlib.Core.Path.{refl, ◌∙◌}
use borrow.Author.Tests.{lt-ltb, le-ltb}
use Rattle.logcheck.proofs.Chains.{pass, stop}
use Rattle.slotcheck.proofs.NumberLaws.{commit-early, commit-late}
use Rattle.slotcheck.proofs.numbers.commit_right.Goals as goal

pub returns-then-phase-le2 : goal.returns-then-phase-le2
returns-then-phase-le2 c =
    commit-early c.args.t.bytes.now c.args.clock c.get-commit.result c.get-commit.ensures c.if-phase-le2.true

pub returns-then-start-commit : goal.returns-then-start-commit
returns-then-start-commit c =
    pass _ _ _ (lt-ltb _ _ c.if-start-commit.true) refl
    ∙ commit-late c.args.t.bytes.now c.args.clock c.args.start c.get-commit.result c.requires c.get-commit.ensures c.if-phase-le2.false

pub returns-else-start-commit : goal.returns-else-start-commit
returns-else-start-commit c =
    stop _ _ _ (le-ltb _ _ c.if-start-commit.false) (le-ltb _ _ c.if-start-commit.false)
    ∙ commit-late c.args.t.bytes.now c.args.clock c.args.start c.get-commit.result c.requires c.get-commit.ensures c.if-phase-le2.false
