-- Each stamp's test is its clause.
use mathlib.Core.Path.{refl, ◌∙◌}
use Rattle.std.proofs.Common.{rules}
use lib.ListN.{get_or}
use Rattle.slot.specs.Logic.{every}
use Rattle.rules.specs.LogsRight.{stamps_apart}
use Rattle.logcheck.proofs.Alls.{range-all}
use Rattle.slotcheck.proofs.SlotPlaces.{stamps-all}
use Rattle.slotcheck.proofs.stamps.stamps_apart.Goals as goal

pub returns : goal.returns
returns c =
    range-all 8 (λ j. every j (λ i. stamps_apart (get_or c.stamps_of-stamps.result i 0) (get_or c.stamps_of-stamps.result j 0))) c.all.ensures.ran refl (λ x b q k. search rules)
    ∙ stamps-all c.args.area.cells c.args.area.bytes.now c.args.area.framed c.stamps_of-stamps.result c.stamps_of-stamps.ensures
