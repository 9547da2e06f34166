-- The header's clauses, those of the slots and the commit stamps, then those of the cells and the holders, at the count and the clock that the header has.
use mathlib.Core.Path.{refl, ◌∙◌, ap}
use Prim.Native.Nat.{ℕ}
use native.Mathlib.Omega.{arith}
use Rattle.slot.specs.Logic.{◌and◌}
use Rattle.slot.proofs.Logic.{and_left}
use Rattle.rules.specs.Model.{controller}
use Rattle.rules.specs.AreaRight.{area_holders_right}
use Rattle.logcheck.proofs.Chains.{pass, stop, passes, fails}
use Rattle.wellformed.specs.AreaParts.{cells_right, parts_right}
use Rattle.wellformed.proofs.Places.{framed}
use Rattle.wellformed.proofs.AreaLaws.{in_order}
use Rattle.wellformed.proofs.well_formed.Goals as goal

pub returns-then-not-header_right : goal.returns-then-not-header_right
returns-then-not-header_right c =
    stop _ _ _ (fails c.header_right.ensures c.if-not-header_right.true) refl ∙ in_order c.args.s.now

pub bounds-s-5 : goal.bounds-s-5
bounds-s-5 c =
    let f = framed _ c.args.s.now refl (passes c.header_right.ensures c.if-not-header_right.false) in omega arith

pub get-clock-requires : goal.get-clock-requires
get-clock-requires c =
    let f = framed _ c.args.s.now refl (passes c.header_right.ensures c.if-not-header_right.false) in omega arith

pub invariant_of-area : goal.invariant_of-area
invariant_of-area c =
    let header = passes c.header_right.ensures c.if-not-header_right.false in
    record { framed = framed _ c.args.s.now c.from.ensures header }

pub returns-then-not-parts_right : goal.returns-then-not-parts_right
returns-then-not-parts_right c =
    let l = c.args.s.now in
    let header = passes c.header_right.ensures c.if-not-header_right.false in
    pass _ _ _ header
    (stop _ _ _ (fails (c.parts_right.ensures ∙ ap (λ (k : ℕ). parts_right k l) c.get-clock.ensures) c.if-not-parts_right.true) refl)
    ∙ in_order l

pub cells_held-requires : goal.cells_held-requires
unfolding parts_right
cells_held-requires c =
    let l = c.args.s.now in
    and_left _ _ (passes (c.parts_right.ensures ∙ ap (λ (k : ℕ). parts_right k l) c.get-clock.ensures) c.if-not-parts_right.false)

pub returns : goal.returns
returns c =
    let l = c.args.s.now in
    let header = passes c.header_right.ensures c.if-not-header_right.false in
    let parts = passes (c.parts_right.ensures ∙ ap (λ (k : ℕ). parts_right k l) c.get-clock.ensures) c.if-not-parts_right.false in
    pass _ _ _ header
    (pass _ _ _ parts
    (c.cells_held.ensures ∙ ap (λ (k : ℕ). cells_right k l and area_holders_right controller l) c.get-clock.ensures))
    ∙ in_order l
