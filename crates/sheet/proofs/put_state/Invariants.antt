use Rattle.line.specs.Gather.{added_all, written, Writes}
use Rattle.sheet.specs.Output.{line_in_area}
use Rattle.sheet.proofs.put_state.Given as goal

abbrev pub invariant-loop-c : goal.invariant-loop-c
invariant-loop-c l = Writes l.initial.out (added_all l.c (line_in_area l.area) (written l.initial.out)) l.out
