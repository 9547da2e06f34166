-- Before each turn the first `i` marks are gathered.
use Rattle.logcheck.proofs.MarkLaws.{gathered-start, gathered_next}
use Rattle.logcheck.proofs.marks.marks_of.Goals as goal

pub loop-i-init : goal.loop-i-init
loop-i-init c = gathered-start c.args.t.bytes.now

pub loop-i-preserved : goal.loop-i-preserved
loop-i-preserved c = gathered_next c.args.t.bytes.now c.loop-i.any c.loop-i.i c.loop-i.invariant
