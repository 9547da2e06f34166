-- Each slot's test is its clause.
use mathlib.Core.Path.{refl}
use Rattle.std.proofs.Common.{rules}
use Rattle.rules.specs.Model.{controller}
use Rattle.rules.specs.Layout.{slot_place}
use Rattle.logcheck.proofs.Alls.{range-all}
use Rattle.slotcheck.specs.SlotParts.{slot_right_in}
use Rattle.slotcheck.proofs.slots_right.Goals as goal

pub returns : goal.returns
returns c =
    range-all 8 (λ k. slot_right_in c.args.area.bytes.now c.args.clock (slot_place controller c.args.area.bytes.now k)) c.all.ensures.ran refl (λ x b q k. search rules)
