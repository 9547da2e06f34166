-- Before each turn the claims of the slots passed are right and due.
use mathlib.Core.Path.{◌≡◌, sym, ◌∙◌, ap}
use native.Mathlib.Omega.{arith}
use lib.ListN.{get_or-replicate}
use Rattle.wellformed.specs.Claims.{cells_due}
use Rattle.wellformed.proofs.Places.{own-frame}
use Rattle.wellformed.proofs.AreaLaws.{slot-right-at}
use Rattle.wellformed.proofs.Turn.{none_passed, turn-wrong, turn-right, all-passed}
use Rattle.wellformed.proofs.holders.cells_held.Goals as goal

pub loop-k-init : goal.loop-k-init
loop-k-init c = none_passed c.args.area.bytes.now _ (λ x h. get_or-replicate 64 x 0 0 (omega arith))

pub claim-requires : goal.claim-requires
claim-requires c =
    slot-right-at c.args.area.cells c.args.area.bytes.now c.args.area.framed c.requires c.loop-k.k (omega arith) c.slot_place.result.bytes.now c.slot_place.ensures

pub returns-then-not-claim : goal.returns-then-not-claim
returns-then-not-claim c =
    turn-wrong c.args.area.bytes.now (own-frame c.args.area.framed) c.loop-k.k c.slot_place.result.bytes.now c.slot_place.ensures _ _ _ c.claim.ensures (omega arith) c.if-not-claim.true _

pub loop-k-preserved : goal.loop-k-preserved
loop-k-preserved c =
    turn-right c.args.area.bytes.now (own-frame c.args.area.framed) c.loop-k.k c.slot_place.result.bytes.now c.slot_place.ensures _ _ _ c.claim.ensures c.if-not-claim.false c.loop-k.invariant

pub returns : goal.returns
returns c =
    let whole : c.loop-k.k ≡ 8 = omega arith in
    c.cells_right.ensures
    ∙ ap (cells_due c.args.clock c.loop-k.due c.args.area.bytes.now) (sym c.args.area.framed.count)
    ∙ all-passed c.args.area.bytes.now (own-frame c.args.area.framed) c.args.clock c.loop-k.due (rw whole at c.loop-k.invariant)
