-- `set_up` meets its contract: the ways out are too little room, a bad sheet, and a good one, whose parts are where it says.
use mathlib.Core.Path.{sym, ◌∙◌}
use native.Mathlib.Omega.{arith}
use lib.Seq.{length-take-le}
use Rattle.apart.proofs.Apart.{apart-good, apart-bad}
use Rattle.stage.proofs.Ways.{handed_on, short-area, bad-sheet, good-sheet}
use Rattle.stage.proofs.set_up.Goals as goal

pub returns-then-area-lt-MOST_AREA : goal.returns-then-area-lt-MOST_AREA
returns-then-area-lt-MOST_AREA c = short-area _ _ (omega arith)

pub returns-in_err-parts : goal.returns-in_err-parts
returns-in_err-parts c =
    let same = handed_on _ c.from_residual.ensures.1 (rw c.in_err-parts.ensures.ok_part at c.in_err-parts.ensures.value) in
    rw same (bad-sheet c.args.sheet.now c.args.area.now (omega arith) (apart-bad _ (sym c.in_err-parts.ensures.ok_part ∙ c.take_apart.ensures)))

pub overflow_mul-described : goal.overflow_mul-described
overflow_mul-described c =
    let good = apart-good _ (sym c.in_ok-parts.ensures.ok_part ∙ c.take_apart.ensures) in
    omega arith

pub overflow_add-described : goal.overflow_add-described
overflow_add-described c =
    let good = apart-good _ (sym c.in_ok-parts.ensures.ok_part ∙ c.take_apart.ensures) in
    omega arith

pub overflow_mul-length : goal.overflow_mul-length
overflow_mul-length c =
    let good = apart-good _ (sym c.in_ok-parts.ensures.ok_part ∙ c.take_apart.ensures) in
    omega arith

pub overflow_add-length : goal.overflow_add-length
overflow_add-length c =
    let good = apart-good _ (sym c.in_ok-parts.ensures.ok_part ∙ c.take_apart.ensures) in
    omega arith

pub overflow_add-length-2 : goal.overflow_add-length-2
overflow_add-length-2 c =
    let good = apart-good _ (sym c.in_ok-parts.ensures.ok_part ∙ c.take_apart.ensures) in
    omega arith

pub overflow_mul-end : goal.overflow_mul-end
overflow_mul-end c =
    let good = apart-good _ (sym c.in_ok-parts.ensures.ok_part ∙ c.take_apart.ensures) in
    omega arith

pub overflow_add-end : goal.overflow_add-end
overflow_add-end c =
    let good = apart-good _ (sym c.in_ok-parts.ensures.ok_part ∙ c.take_apart.ensures) in
    omega arith

pub slice_bounds-crocktendril_lay_out-end : goal.slice_bounds-crocktendril_lay_out-end
slice_bounds-crocktendril_lay_out-end c =
    let good = apart-good _ (sym c.in_ok-parts.ensures.ok_part ∙ c.take_apart.ensures) in
    omega arith

pub slice_bounds-crocktendril_lay_out-end-2 : goal.slice_bounds-crocktendril_lay_out-end-2
slice_bounds-crocktendril_lay_out-end-2 c =
    let good = apart-good _ (sym c.in_ok-parts.ensures.ok_part ∙ c.take_apart.ensures) in
    sym (length-take-le _ _ (omega arith))

pub slice_bounds-crocktendril_lay_out-end-3 : goal.slice_bounds-crocktendril_lay_out-end-3
slice_bounds-crocktendril_lay_out-end-3 c =
    let good = apart-good _ (sym c.in_ok-parts.ensures.ok_part ∙ c.take_apart.ensures) in
    omega arith

pub returns : goal.returns
returns c =
    let good = apart-good _ (sym c.in_ok-parts.ensures.ok_part ∙ c.take_apart.ensures) in
    good-sheet _ _ (omega arith) good c.crocktendril_lay_out.auto.s c.crocktendril_lay_out.ensures
