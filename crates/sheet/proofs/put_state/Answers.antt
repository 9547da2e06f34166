-- `put_state` meets its contract: before each turn the lines of the first `c` cells are gathered.
use mathlib.Core.Path.{◌≡◌, refl}
use native.Mathlib.Omega.{arith}
use lib.ListN.{get_or}
use Rattle.line.specs.Gather.{added_all, written}
use Rattle.line.proofs.Gather.{writes-next}
use Rattle.sheet.specs.Output.{line_in_area}
use Rattle.sheet.proofs.Reading.{cell-at}
use Rattle.sheet.proofs.State.{too_short, state-left}
use Rattle.sheet.proofs.put_state.Goals as goal

pub returns-then-area-lt-HEADER : goal.returns-then-area-lt-HEADER
returns-then-area-lt-HEADER c =
    too_short c.args.area.now c.args.out.now (omega arith)

pub returns-then-area-from : goal.returns-then-area-from
returns-then-area-from c =
    too_short c.args.area.now c.args.out.now (omega arith)

pub loop-c-init : goal.loop-c-init
unfolding added_all
loop-c-init c = record { same = refl; leaves = record { end = refl; bytes = refl } }

pub loop-c-preserved : goal.loop-c-preserved
loop-c-preserved c =
    let line = rw c.from-in-loop-c.ensures at c.cell.ensures in
    let here = cell-at c.args.area.now c.loop-c.c _ _ (rw c.from-in-loop-c.ensures at c.word_at-word.ensures) (rw c.from-in-loop-c.ensures at c.get-stamp.ensures) in
    writes-next (line_in_area c.args.area.now) (written c.args.out.now) c.loop-c.c c.loop-c.invariant here line

pub returns : goal.returns
returns c =
    let all : c.loop-c.c ≡ get_or c.args.area.now 5 0 = omega arith in
    state-left c.args.area.now (written c.args.out.now) (omega arith) (rw all at c.loop-c.invariant) c.get.ensures c.clock.ensures
