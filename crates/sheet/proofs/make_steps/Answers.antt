-- `make_steps` meets its contract: before each turn the steps before those that are left are made, and their lines gathered.
use mathlib.Core.Path.{refl}
use Rattle.line.specs.Gather.{added_all, written}
use Rattle.line.proofs.Gather.{writes-next}
use Rattle.stage.specs.Calls.{area_after}
use Rattle.stage.proofs.Steps.{all_left, none-left, step-left, next-left, next-area}
use Rattle.sheet.specs.Output.{step_line}
use Rattle.sheet.proofs.Steps.{next-line}
use Rattle.sheet.proofs.make_steps.Goals as goal

pub loop-k-init : goal.loop-k-init
unfolding area_after added_all
loop-k-init c =
    rw (c.into_iter-k-iterator.ensures.into_iter_gives, c.enumerate-k-items.ensures.source, c.enumerate-k-items.ensures.count)
    (record {
      left = all_left _ c.chunks_exact.ensures.size c.chunks_exact.ensures.rest refl;
      made = refl;
      lines = record { same = refl; leaves = record { end = refl; bytes = refl } };
    })

pub loop-k-preserved : goal.loop-k-preserved
loop-k-preserved c =
    let inv = c.loop-k.invariant in
    let a = c.args.area.now in
    let l = c.args.steps.now in
    let k = c.loop-k.k-iterator.count in
    let (chunk, number, count, fits) = c.in-Some.ensures.steps in
    let made = rw (step-left inv.left _ _ chunk.1.0 chunk.1.1) at c.make_step-answer.ensures in
    let line = next-line a l k _ c.loop-k.area _ inv.made made in
    rw count (record {
      left = next-left inv.left _ _ chunk.1.0 chunk.1.1 chunk.0 refl;
      made = next-area a l k inv.made made.bytes;
      lines = writes-next (step_line a l) (written c.args.out.now) k inv.lines line (rw number at c.reply.ensures);
    })

pub returns : goal.returns
returns c =
    let inv = c.loop-k.invariant in
    let all = none-left inv.left c.in-None.ensures.steps.0.1.0 in
    record { area = rw all at inv.made; lines = rw all at inv.lines }
