use lib.ListN.{take}
use Rattle.slot.proofs.Carry.{Carried}
use Rattle.slot.proofs.operations.carry.Given as goal

abbrev pub invariant-loop-here : goal.invariant-loop-here
invariant-loop-here l = Carried l.fn.e (take l.count l.fn.log) l.here-items l.carried l.here-index
