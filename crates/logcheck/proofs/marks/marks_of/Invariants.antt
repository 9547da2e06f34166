use Rattle.logcheck.specs.Marked.{MarksGathered}
use Rattle.logcheck.proofs.marks.marks_of.Given as goal

abbrev pub invariant-loop-i : goal.invariant-loop-i
invariant-loop-i l = MarksGathered l.any l.i l.t.bytes.now
