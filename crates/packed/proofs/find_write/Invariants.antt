use lib.Dec.{eqb}
use Rattle.slot.specs.declared.WriteEntry.{WriteEntry}
use Rattle.slot.specs.Layout.{write_capacity}
use Rattle.packed.specs.Places.{slot_in}
use Rattle.packed.proofs.InLog.{Sought}
use Rattle.packed.proofs.find_write.Given as goal

abbrev pub invariant-loop-k : goal.invariant-loop-k
invariant-loop-k l =
    Sought (λ (e : WriteEntry). eqb e.cell l.cell) (slot_in l.width l.at l.s).writes write_capacity (slot_in l.width l.at l.s).writecount l.k
