-- In each phase the part of the log that the code claims is what the slot has to hold.
use native.Mathlib.Omega.{arith}
use Rattle.slot.specs.Layout.{slot_of}
use Rattle.rules.specs.AreaRight.{record_holds}
use Rattle.wellformed.proofs.Claims.{claimed-none, claimed-ext}
use Rattle.wellformed.proofs.Held.{holds-none, held_first, held_all, held-rest}
use Rattle.wellformed.proofs.holders.claim.Goals as goal

pub claim_part-requires : goal.claim_part-requires
claim_part-requires c =
    (held_first _ c.args.area.bytes.now c.args.area.framed c.args.t.bytes.now c.requires c.from-taken.result c.from-taken.ensures c.in-2.is).part

pub returns-in-2 : goal.returns-in-2
returns-in-2 c =
    claimed-ext _ _ _ _ _ _ _
    (held_first _ c.args.area.bytes.now c.args.area.framed c.args.t.bytes.now c.requires c.from-taken.result c.from-taken.ensures c.in-2.is).holds
    c.claim_part.ensures

pub claim_part-requires-in-3 : goal.claim_part-requires-in-3
claim_part-requires-in-3 c =
    (held_all _ c.args.area.bytes.now c.args.area.framed c.args.t.bytes.now c.requires c.from-count.result c.from-count.ensures c.in-3.is).part

pub returns-in-3 : goal.returns-in-3
returns-in-3 c =
    claimed-ext _ _ _ _ _ _ _
    (held_all _ c.args.area.bytes.now c.args.area.framed c.args.t.bytes.now c.requires c.from-count.result c.from-count.ensures c.in-3.is).holds
    c.claim_part-in-3.ensures

pub claim_part-requires-in-4 : goal.claim_part-requires-in-4
claim_part-requires-in-4 c =
    (held-rest _ c.args.area.bytes.now c.args.area.framed c.args.t.bytes.now c.requires c.from-taken.result c.from-count.result c.from-taken.ensures c.from-count.ensures c.in-4.is).part

pub returns-in-4 : goal.returns-in-4
returns-in-4 c =
    claimed-ext _ _ _ _ _ _ _
    (held-rest _ c.args.area.bytes.now c.args.area.framed c.args.t.bytes.now c.requires c.from-taken.result c.from-count.result c.from-taken.ensures c.from-count.ensures c.in-4.is).holds
    c.claim_part-in-4.ensures

pub returns-in_default : goal.returns-in_default
returns-in_default c =
    claimed-none c.args.area.bytes.now c.args.slot (record_holds (slot_of 8 c.args.t.bytes.now)) (holds-none c.args.t.bytes.now (λ e. omega arith) (λ e. omega arith) (λ e. omega arith)) c.args.due.now
