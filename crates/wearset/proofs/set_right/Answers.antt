-- Before each turn the places passed are right, and `seen` has exactly the cells that they have.
use mathlib.Core.Bool.{not}
use mathlib.Core.Path.{refl, ap}
use native.Mathlib.Omega.{arith}
use lib.ListN.{get_or, length-set}
use Rattle.logcheck.proofs.Chains.{stop, fails, passes, every-start, every-next}
use Rattle.wearset.specs.WearSet.{place_right, set_right}
use Rattle.wearset.proofs.Before.{inside-64, set-wrong, set-whole, place-unfit, place_twice, place-fits, seen-none, seen-next}
use Rattle.wearset.proofs.set_right.Goals as goal

pub returns-then-not-length_right : goal.returns-then-not-length_right
unfolding set_right
returns-then-not-length_right c =
    stop _ _ _ (fails c.length_right.ensures c.if-not-length_right.true) refl

pub loop-place-init : goal.loop-place-init
loop-place-init c =
    record { size = refl; right = every-start _; seen = seen-none (λ k. get_or c.args.set.now k 0) }

pub returns-then-not-cell_fits : goal.returns-then-not-cell_fits
returns-then-not-cell_fits c =
    set-wrong _ _ (passes c.length_right.ensures c.if-not-length_right.false) c.loop-place.place (omega arith) (place-unfit _ _ _ _ refl (fails c.cell_fits.ensures c.if-not-cell_fits.true))

pub bounds-seen-at : goal.bounds-seen-at
bounds-seen-at c =
    let inside = inside-64 _ _ _ c.requires (passes c.cell_fits.ensures c.if-not-cell_fits.false) in
    omega arith

pub returns-then-seen-at : goal.returns-then-seen-at
returns-then-seen-at c =
    let inside = inside-64 _ _ _ c.requires (passes c.cell_fits.ensures c.if-not-cell_fits.false) in
    set-wrong _ _ (passes c.length_right.ensures c.if-not-length_right.false) c.loop-place.place (omega arith)
    (place_twice _ _ _ _ c.from-at.ensures _ (c.loop-place.invariant.seen c.from-at.result (omega arith)) (ap not c.if-seen-at.true))

pub bounds-seen-at-in-loop-place : goal.bounds-seen-at-in-loop-place
bounds-seen-at-in-loop-place c =
    let inside = inside-64 _ _ _ c.requires (passes c.cell_fits.ensures c.if-not-cell_fits.false) in
    omega arith

pub loop-place-preserved : goal.loop-place-preserved
loop-place-preserved c =
    let inside = inside-64 _ _ _ c.requires (passes c.cell_fits.ensures c.if-not-cell_fits.false) in
    let set = c.args.set.now in
    record {
      size = simp length-set c.loop-place.invariant.size;
      right =
          every-next (place_right _ set) c.loop-place.place c.loop-place.invariant.right
          (place-fits _ set c.loop-place.place c.from-at.result c.from-at.ensures _ (c.loop-place.invariant.seen c.from-at.result (omega arith)) (rw (← c.from-at.ensures) at (passes c.cell_fits.ensures c.if-not-cell_fits.false)) (ap not c.if-seen-at.false));
      seen = seen-next (λ k. get_or set k 0) c.loop-place.seen c.loop-place.place c.from-at.result c.loop-place.invariant.size (omega arith) c.from-at.ensures c.loop-place.invariant.seen;
    }

pub returns : goal.returns
returns c =
    set-whole _ _ (passes c.length_right.ensures c.if-not-length_right.false) c.loop-place.place (omega arith) c.loop-place.invariant.right
