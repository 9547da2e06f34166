use Rattle.dispatch.proofs.Slots.{way-out, way-made}
use Rattle.dispatch.proofs.step.Goals as goal

pub returns-then-slot-eq0 : goal.returns-then-slot-eq0
returns-then-slot-eq0 c = way-out _ _ _ _ c.without_slot.ensures c.then-slot-eq0.either

pub returns : goal.returns
returns c = way-made _ _ _ c.if-slot-eq0.false c.if-slot-gt-SLOTS.false c.in-Ok.is c.row.ensures
