use mathlib.Core.Logic.{inl, inr}
use native.Mathlib.Omega.{arith}
use borrow.Author.Rules.{rules}
use Rattle.area.specs.Good.{Good}
use Rattle.area.proofs.Good.{good_of}
use Rattle.logcheck.proofs.Chains.{passes, fails}
use Rattle.wear.proofs.Boundary.{ill-formed, bad-set, slot-zero, slot-high, slot-busy, slot-free}
use Rattle.wear.proofs.asked.Goals as goal

pub returns-then-not-well_formed : goal.returns-then-not-well_formed
returns-then-not-well_formed c =
    ill-formed _ _ _ (fails c.well_formed-2.ensures c.if-not-well_formed.true)

pub set_right-requires : goal.set_right-requires
set_right-requires c =
    good_of _ (λ i. search rules) (passes c.well_formed-2.ensures c.if-not-well_formed.false)

pub returns-then-not-set_right : goal.returns-then-not-set_right
returns-then-not-set_right c =
    let good : Good c.args.s.now = good_of _ (λ i. search rules) (passes c.well_formed-2.ensures c.if-not-well_formed.false) in
    bad-set _ _ _ good (fails c.set_right.ensures c.if-not-set_right.true)

pub returns-then-slot-eq0 : goal.returns-then-slot-eq0
returns-then-slot-eq0 c =
    let good : Good c.args.s.now = good_of _ (λ i. search rules) (passes c.well_formed-2.ensures c.if-not-well_formed.false) in
    let right = passes c.set_right.ensures c.if-not-set_right.false in
    elim c.then-slot-eq0.either [
      | inl none-such ↦ slot-zero _ _ _ good right none-such
      | inr high ↦ slot-high _ _ _ good right high.1
    ]

pub open_and_empty-requires : goal.open_and_empty-requires
open_and_empty-requires c =
    let good : Good c.args.s.now = good_of _ (λ i. search rules) (passes c.well_formed-2.ensures c.if-not-well_formed.false) in
    (good, omega (arith, c.if-slot-gt-SLOTS.false))

pub returns-then-not-open_and_empty : goal.returns-then-not-open_and_empty
returns-then-not-open_and_empty c =
    let good : Good c.args.s.now = good_of _ (λ i. search rules) (passes c.well_formed-2.ensures c.if-not-well_formed.false) in
    let right = passes c.set_right.ensures c.if-not-set_right.false in
    slot-busy _ _ _ good right (omega arith) c.if-slot-gt-SLOTS.false (fails c.open_and_empty.ensures c.if-not-open_and_empty.true)

pub returns : goal.returns
returns c =
    let good : Good c.args.s.now = good_of _ (λ i. search rules) (passes c.well_formed-2.ensures c.if-not-well_formed.false) in
    let right = passes c.set_right.ensures c.if-not-set_right.false in
    slot-free _ _ _ good right (omega arith) c.if-slot-gt-SLOTS.false (passes c.open_and_empty.ensures c.if-not-open_and_empty.false)
