use Rattle.wearset.proofs.Before.{set-length}
use Rattle.wear.proofs.Boundary.{levels}
use Rattle.wear.proofs.crocktendril_wear.Goals as goal

pub invariant_of-level : goal.invariant_of-level
invariant_of-level c = record { few = (set-length _ _ c.in-Ok.ensures.right).1 }

pub returns-in-Ok : goal.returns-in-Ok
returns-in-Ok c = levels _ _ _ c.in-Ok.ensures _ _ c.level.ensures

pub returns-in-Err : goal.returns-in-Err
returns-in-Err c = rw c.number.ensures c.in-Err.ensures
