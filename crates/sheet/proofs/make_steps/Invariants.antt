use mathlib.Core.Path.{◌≡◌}
use Rattle.line.specs.Gather.{added_all, written, Writes}
use Rattle.stage.specs.Calls.{area_after}
use Rattle.stage.proofs.Steps.{Left}
use Rattle.sheet.specs.Output.{step_line}
use Rattle.sheet.proofs.make_steps.Given as goal

abbrev pub invariant-loop-k : goal.invariant-loop-k
invariant-loop-k l = record {
  left : Left l.steps l.k-iterator.iter.size l.k-iterator.iter.rest.now l.k-iterator.count;
  made : l.area ≡ area_after l.initial.area l.steps l.k-iterator.count;
  lines : Writes l.initial.out (added_all l.k-iterator.count (step_line l.initial.area l.steps) (written l.initial.out)) l.out;
}
