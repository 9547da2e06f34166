-- `trace_steps` meets its contract: before each turn the steps before those that are left are made, and the lines of their effects gathered.
use mathlib.Core.List.{flat_map}
use mathlib.Core.Path.{refl}
use lib.ListN.{length, length-append}
use Rattle.line.specs.Gather.{written}
use Rattle.line.proofs.Gather.{writes_none}
use Rattle.stage.specs.Calls.{area_after}
use Rattle.stage.proofs.Steps.{all_left, none-left, step-left, next-left, next-area}
use Rattle.effects.specs.Steps.{numbers_at, effects_up_to}
use Rattle.effects.proofs.Steps.{numbers-next, lines_next}
use Rattle.effects.proofs.trace_steps.Goals as goal

pub loop-step-init : goal.loop-step-init
unfolding area_after numbers_at effects_up_to flat_map
loop-step-init c =
    rw c.into_iter-step-iterator.ensures.into_iter_gives
    (record {
      left = all_left _ c.chunks_exact-step-items.ensures.size c.chunks_exact-step-items.ensures.rest refl;
      made = refl;
      counted = c.none-numbers.ensures;
      lines = writes_none c.args.out.now;
    })

pub loop-step-preserved : goal.loop-step-preserved
loop-step-preserved c =
    let inv = c.loop-step.invariant in
    let a = c.args.area.now in
    let l = c.args.steps.now in
    let k = length c.loop-step.yielded in
    let chunk = c.in-Some.ensures.steps in
    let made = rw (step-left inv.left _ _ chunk.1.0 chunk.1.1) at c.trace_step-numbers.ensures in
    rw length-append (record {
      left = next-left inv.left _ _ chunk.1.0 chunk.1.1 chunk.0 refl;
      made = next-area a l k inv.made made.area;
      counted = numbers-next a l (written c.args.out.now) k inv.made inv.counted made;
      lines = lines_next a l (written c.args.out.now) k inv.made inv.counted made inv.lines;
    })

pub returns : goal.returns
returns c =
    let inv = c.loop-step.invariant in
    let all = none-left inv.left c.in-None.ensures.steps.1.0 in
    record { area = rw all at inv.made; lines = rw all at inv.lines }
