-- Before each turn `any` is 0 exactly if the bytes passed are: a bitwise or is 0 exactly if both sides are.
use Rattle.logcheck.proofs.Zero.{zero-start, zero-next}
use Rattle.logcheck.proofs.all_zero.Goals as goal

pub loop-x-init : goal.loop-x-init
loop-x-init c = zero-start _

pub loop-x-preserved : goal.loop-x-preserved
loop-x-preserved c = zero-next c.args.s.now c.loop-x.x-index c.loop-x.any c.loop-x.invariant
