-- Each log's unused entries are one run of bytes.
use mathlib.Core.Path.{◌∙◌}
use Rattle.logcheck.proofs.Chains.{pass, stop, passes, fails}
use Rattle.logcheck.proofs.Zero.{unused-places}
use Rattle.logcheck.proofs.marks.unused_zero.Goals as goal

pub returns-then-all_zero : goal.returns-then-all_zero
returns-then-all_zero c =
    pass _ _ _ (passes c.all_zero.ensures c.if-all_zero.true) c.all_zero-then-all_zero.ensures
    ∙ unused-places c.args.t.bytes.now c.from-reads.result c.from-writes.result c.args.t.counted c.from-reads.ensures c.from-writes.ensures

pub returns-else-all_zero : goal.returns-else-all_zero
returns-else-all_zero c =
    stop _ _ _ (fails c.all_zero.ensures c.if-all_zero.false) c.if-all_zero.false
    ∙ unused-places c.args.t.bytes.now c.from-reads.result c.from-writes.result c.args.t.counted c.from-reads.ensures c.from-writes.ensures
