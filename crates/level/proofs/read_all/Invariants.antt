use Rattle.level.proofs.Reading.{AtPlace}
use Rattle.level.proofs.read_all.Given as goal

abbrev pub invariant-loop-place : goal.invariant-loop-place
invariant-loop-place l = AtPlace l.initial.s l.of.slot l.of.set.now l.place l.s l.words
