-- `trace_step` meets its contract: the slot is looked at before the step, and its line put after it.
use Rattle.effects.proofs.Steps.{step-traced}
use Rattle.effects.proofs.trace_step.Goals as goal

pub returns : goal.returns
returns c =
    step-traced c.args.area.now c.args.bytes.now c.args.numbers c.args.out.now c.byte-step.ensures c.byte-slot.ensures c.byte-cell.ensures c.look-before.ensures c.make_step-code.ensures c.after-after.ensures c.of.ensures c.put_line.ensures
