-- `run` meets its contract: the ways out are too little room, a bad sheet, and a good one, whose steps are made.
use mathlib.Core.Path.{refl, sym, ap, ◌∙◌}
use native.Mathlib.Omega.{arith}
use lib.Seq.{length-take-le}
use Rattle.std.specs.Prelude.{Err}
use Rattle.stage.proofs.SetUp.{when-ready, when-bad, when-short}
use Rattle.stage.proofs.RunBy.{short-out, short-area, bad-run, good-run}
use Rattle.stage.proofs.run.Goals as goal

pub returns-then-out-most : goal.returns-then-out-most
returns-then-out-most g c = short-out _ _ _ _ _ (omega arith)

pub slice_bounds-make-count : goal.slice_bounds-make-count
slice_bounds-make-count g c =
    let told = when-ready c.set_up.ensures c.in-Ok.is in
    omega arith

pub slice_bounds-make-start : goal.slice_bounds-make-start
slice_bounds-make-start g c =
    let told = when-ready c.set_up.ensures c.in-Ok.is in
    omega arith

pub slice_bounds-make-end : goal.slice_bounds-make-end
slice_bounds-make-end g c =
    let told = when-ready c.set_up.ensures c.in-Ok.is in
    omega arith

pub slice_bounds-make-end-in-Ok : goal.slice_bounds-make-end-in-Ok
slice_bounds-make-end-in-Ok g c =
    let told = when-ready c.set_up.ensures c.in-Ok.is in
    omega arith

pub slice_bounds-make-end-in-Ok-2 : goal.slice_bounds-make-end-in-Ok-2
slice_bounds-make-end-in-Ok-2 g c =
    let told = when-ready c.set_up.ensures c.in-Ok.is in
    sym (length-take-le _ _ told.fits)

pub returns-in-Ok : goal.returns-in-Ok
returns-in-Ok g c =
    let told = when-ready c.set_up.ensures c.in-Ok.is in
    good-run _ _ _ _ _ (omega arith) told c.make.ensures c.make.auto.area refl refl

pub returns-in-Err-Bad : goal.returns-in-Err-Bad
returns-in-Err-Bad g c =
    bad-run _ _ _ _ _ (omega arith) (when-bad c.set_up.ensures (c.in-Err-Bad.is ∙ ap Err c.in-Err-Bad.field-0-is)) c.bad_sheet.ensures

pub returns : goal.returns
returns g c =
    short-area _ _ _ _ _ (when-short c.set_up.ensures (c.in-Err-Short.is ∙ ap Err c.in-Err-Short.field-0-is))
