-- The marks are gathered, and each return is what the clauses say of them.
use mathlib.Core.Bool.{not}
use mathlib.Core.Path.{refl, ◌∙◌, ap}
use borrow.Author.Tests.{eq-eqb, ne_eqb, le-leb, lt-leb}
use Rattle.logcheck.proofs.Chains.{pass, stop, or_yes, or_no}
use Rattle.logcheck.proofs.MarkLaws.{marks-over, flag-over, no-mark, some-mark}
use Rattle.logcheck.proofs.marks.marked_right.Goals as goal
use Rattle.logcheck.proofs.marks.marked_right.Goals.{then-marks-gt1-via-then-marks-gt1, then-marks-gt1-via-else-marks-gt1+then-flag-gt1}

pub returns-then-marks-gt1 : goal.returns-then-marks-gt1
returns-then-marks-gt1 c =
    elim c.then-marks-gt1.branch [
      | then-marks-gt1-via-then-marks-gt1 w ↦ marks-over c.args.t.counted c.requires c.marks_of-marks.ensures w.if-marks-gt1.true
      | then-marks-gt1-via-else-marks-gt1+then-flag-gt1 w ↦ flag-over c.args.t.counted c.requires c.marks_of-marks.ensures w.if-flag-gt1.true
    ]

pub returns-then-marks-eq0 : goal.returns-then-marks-eq0
returns-then-marks-eq0 c =
    no-mark c.args.t.counted c.requires c.marks_of-marks.ensures c.if-marks-gt1.false c.if-flag-gt1.false c.if-marks-eq0.true

pub returns-then-phase-lt3 : goal.returns-then-phase-lt3
returns-then-phase-lt3 c =
    stop _ _ _ (lt-leb _ _ c.if-phase-lt3.true) refl
    ∙ some-mark c.args.t.counted c.requires c.marks_of-marks.ensures c.if-marks-gt1.false c.if-flag-gt1.false c.if-marks-eq0.false

pub returns-then-phase-ne4 : goal.returns-then-phase-ne4
returns-then-phase-ne4 c =
    pass _ _ _ (le-leb _ _ c.if-phase-lt3.false) (or_yes _ _ (ap not (ne_eqb _ _ c.if-phase-ne4.true)))
    ∙ some-mark c.args.t.counted c.requires c.marks_of-marks.ensures c.if-marks-gt1.false c.if-flag-gt1.false c.if-marks-eq0.false

pub returns-else-phase-ne4 : goal.returns-else-phase-ne4
returns-else-phase-ne4 c =
    pass _ _ _ (le-leb _ _ c.if-phase-lt3.false) (or_no _ _ (ap not (eq-eqb _ _ c.if-phase-ne4.false)))
    ∙ some-mark c.args.t.counted c.requires c.marks_of-marks.ensures c.if-marks-gt1.false c.if-flag-gt1.false c.if-marks-eq0.false
