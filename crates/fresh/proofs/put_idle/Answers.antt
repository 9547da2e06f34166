-- `put_idle` meets its contract: before each turn the first `i` slots are put, one after the other.
use mathlib.Core.Path.{sym}
use native.Mathlib.Omega.{arith}
use Rattle.wire.specs.Table.{cat}
use Rattle.wire.proofs.Laws.Part.{splice-nil, splice-part}
use Rattle.slot.specs.Layout.{empty, slot_bytes}
use Rattle.slot.proofs.RoundTrip.{length-slot_bytes}
use Rattle.fresh.proofs.put_idle.Goals as goal

pub loop-i-init : goal.loop-i-init
unfolding cat
loop-i-init c = sym (splice-nil c.args.s.now c.args.at)

pub loop-i-preserved : goal.loop-i-preserved
loop-i-preserved c =
    splice-part 197 (λ j. slot_bytes 8 empty) (λ j. length-slot_bytes 8 empty) c.args.s.now c.args.at c.loop-i.i c.loop-i.s c.clear.new.s (omega arith) c.loop-i.invariant c.clear.ensures
