-- Before each turn the cells of all places passed are read.
use native.Mathlib.Omega.{arith}
use Rattle.std.proofs.lemmas.Result.{err_from_is_err_and}
use Rattle.level.specs.Reached.{Reached}
use Rattle.level.proofs.Reading.{at_first, read_goes, read-stops}
use Rattle.level.proofs.read_all.Goals as goal

pub loop-place-init : goal.loop-place-init
loop-place-init c = at_first _ _ _ _ c.requires.1 c.requires.0

pub returns-in_err-word : goal.returns-in_err-word
returns-in_err-word c =
    let p = err_from_is_err_and c.from_residual.result c.from_residual.ensures.1 in
    let q : Reached _ _ _ _ = read-stops _ _ _ _ _ _ c.loop-place.invariant _ (omega arith) _ (rw c.in_err-word.was at c.read_place.ensures) _ in
    rw (p.1, p.2) q

pub loop-place-preserved : goal.loop-place-preserved
loop-place-preserved c =
    read_goes _ _ _ _ _ _ c.loop-place.invariant _ (omega arith) _ (rw c.in_ok-word.was at c.read_place.ensures)
