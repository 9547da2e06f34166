-- Before each turn the entries passed are right, and `least` is at most exactly the cells that are above all of theirs.
use mathlib.Core.Path.{◌∙◌}
use native.Mathlib.Omega.{arith}
use borrow.Author.Tests.{le-leb, lt-leb}
use lib.ListN.{get_or}
use lib.Dec.{leb, ltb}
use Rattle.rules.specs.Model.{controller}
use Rattle.rules.specs.Layout.{cells_in}
use Rattle.logcheck.proofs.Chains.{passes, fails, every-start, every-next, every-no, every-yes}
use Rattle.logcheck.proofs.LogLaws.{cell_in, word_in, write_test, writes-places, entry-illegal, entry-taken, entry-right, least_start, least-next}
use Rattle.logcheck.proofs.writes_right.Goals as goal
use Rattle.logcheck.proofs.writes_right.Goals.{then-c-least-via-then-c-least, then-c-least-via-else-c-least+then-not-logged_right}

pub loop-i-init : goal.loop-i-init
loop-i-init c = record { right = every-start _; least = least_start (cell_in c.args.t.bytes.now 117 5) }

pub returns-then-c-least : goal.returns-then-c-least
returns-then-c-least c =
    let l = c.args.t.bytes.now in
    let cells = cells_in controller c.args.area.bytes.now in
    let i = c.loop-i.i in
    let at = c.from-c.result in
    every-no (get_or l 4 0) (write_test cells l) i (omega arith)
    (elim c.then-c-least.branch [
      | then-c-least-via-then-c-least w ↦
          entry-taken cells ltb (cell_in l 117 5) (word_in l 117 5 1) i at c.from-c.ensures
          (leb c.loop-i.least at) (c.loop-i.invariant.least at) (lt-leb _ _ w.if-c-least.true)
      | then-c-least-via-else-c-least+then-not-logged_right w ↦
          entry-illegal cells ltb (cell_in l 117 5) (word_in l 117 5 1) i at c.from-c.ensures (fails w.logged_right.ensures w.if-not-logged_right.true)
    ])
    ∙ writes-places cells l (omega arith)

pub loop-i-preserved : goal.loop-i-preserved
loop-i-preserved c =
    let l = c.args.t.bytes.now in
    let cells = cells_in controller c.args.area.bytes.now in
    let i = c.loop-i.i in
    let at = c.from-c.result in
    record {
      right =
          every-next (write_test cells l) i c.loop-i.invariant.right
          (entry-right cells ltb (cell_in l 117 5) (word_in l 117 5 1) i at c.from-c.ensures
          (leb c.loop-i.least at) (c.loop-i.invariant.least at) (passes c.logged_right.ensures c.if-not-logged_right.false) (le-leb _ _ c.if-c-least.false));
      least = least-next (cell_in l 117 5) c.loop-i.least i at c.if-c-least.false c.from-c.ensures c.loop-i.invariant.least;
    }

pub returns : goal.returns
returns c =
    let l = c.args.t.bytes.now in
    let cells = cells_in controller c.args.area.bytes.now in
    every-yes (get_or l 4 0) (write_test cells l) c.loop-i.i (omega arith) c.loop-i.invariant.right ∙ writes-places cells l (omega arith)
