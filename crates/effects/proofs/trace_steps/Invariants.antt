use mathlib.Core.Path.{◌≡◌}
use lib.ListN.{length}
use Rattle.line.specs.Gather.{added_parts, written, Writes}
use Rattle.stage.specs.Calls.{area_after}
use Rattle.stage.proofs.Steps.{Left}
use Rattle.effects.specs.Steps.{parts_of, numbers_at, effects_up_to}
use Rattle.effects.proofs.trace_steps.Given as goal

abbrev pub invariant-loop-step : goal.invariant-loop-step
invariant-loop-step l = record {
  left : Left l.steps l.step-iterator.size l.step-iterator.rest.now (length l.yielded);
  made : l.area ≡ area_after l.initial.area l.steps (length l.yielded);
  counted : l.numbers ≡ numbers_at l.initial.area l.steps (length l.yielded);
  lines : Writes l.initial.out (added_parts (parts_of (effects_up_to l.initial.area l.steps (length l.yielded))) (written l.initial.out)) l.out;
}
