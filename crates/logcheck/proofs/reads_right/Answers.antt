-- Before each turn the entries passed are right, and `seen` has exactly their cells.
use mathlib.Core.Bool.{not, false}
use mathlib.Core.Path.{refl, ◌∙◌, ap}
use native.Mathlib.Omega.{arith}
use lib.ListN.{get_or, length-set}
use Rattle.rules.specs.Model.{controller}
use Rattle.rules.specs.Layout.{cells_in}
use Rattle.logcheck.proofs.Chains.{passes, fails, every-start, every-next, every-no, every-yes}
use Rattle.logcheck.proofs.LogLaws.{apart, cell_in, word_in, read_test, reads-places, entry-illegal, entry-taken, entry-right, seen-none, seen-next}
use Rattle.logcheck.proofs.CellPlaces.{logged-below}
use Rattle.logcheck.proofs.reads_right.Goals as goal
use Rattle.logcheck.proofs.reads_right.Goals.{then-not-logged_right-via-then-not-logged_right, then-not-logged_right-via-else-not-logged_right+then-seen-c}

pub loop-i-init : goal.loop-i-init
loop-i-init c = record { size = refl; right = every-start _; seen = seen-none (cell_in c.args.t.bytes.now 21 6) }

pub bounds-seen-c : goal.bounds-seen-c
bounds-seen-c c =
    omega (arith, logged-below c.args.area.cells c.args.area.bytes.now c.args.area.framed c.from-c.result _ (passes c.logged_right.ensures c.if-not-logged_right.false))

pub returns-then-not-logged_right : goal.returns-then-not-logged_right
returns-then-not-logged_right c =
    let l = c.args.t.bytes.now in
    let cells = cells_in controller c.args.area.bytes.now in
    let i = c.loop-i.i in
    let at = c.from-c.result in
    every-no (get_or l 3 0) (read_test cells l) i (omega arith)
    (elim c.then-not-logged_right.branch [
      | then-not-logged_right-via-then-not-logged_right w ↦
          entry-illegal cells apart (cell_in l 21 6) (word_in l 21 6 2) i at c.from-c.ensures (fails c.logged_right.ensures w.if-not-logged_right.true)
      | then-not-logged_right-via-else-not-logged_right+then-seen-c w ↦
          let below = logged-below c.args.area.cells c.args.area.bytes.now c.args.area.framed at _ (passes c.logged_right.ensures w.if-not-logged_right.false) in
          entry-taken cells apart (cell_in l 21 6) (word_in l 21 6 2) i at c.from-c.ensures
          (not (get_or c.loop-i.seen at false)) (c.loop-i.invariant.seen at (omega arith)) (ap not w.if-seen-c.true)
    ])
    ∙ reads-places cells l (omega arith)

pub bounds-seen-c-in-loop-i : goal.bounds-seen-c-in-loop-i
bounds-seen-c-in-loop-i c =
    omega (arith, logged-below c.args.area.cells c.args.area.bytes.now c.args.area.framed c.from-c.result _ (passes c.logged_right.ensures c.if-not-logged_right.false))

pub loop-i-preserved : goal.loop-i-preserved
loop-i-preserved c =
    let l = c.args.t.bytes.now in
    let cells = cells_in controller c.args.area.bytes.now in
    let i = c.loop-i.i in
    let at = c.from-c.result in
    let right = passes c.logged_right.ensures c.if-not-logged_right.false in
    let below = logged-below c.args.area.cells c.args.area.bytes.now c.args.area.framed at _ right in
    record {
      size = simp length-set c.loop-i.invariant.size;
      right =
          every-next (read_test cells l) i c.loop-i.invariant.right
          (entry-right cells apart (cell_in l 21 6) (word_in l 21 6 2) i at c.from-c.ensures
          (not (get_or c.loop-i.seen at false)) (c.loop-i.invariant.seen at (omega arith)) right (ap not c.if-seen-c.false));
      seen = seen-next (cell_in l 21 6) c.loop-i.seen i at c.loop-i.invariant.size (omega arith) c.from-c.ensures c.loop-i.invariant.seen;
    }

pub returns : goal.returns
returns c =
    let l = c.args.t.bytes.now in
    let cells = cells_in controller c.args.area.bytes.now in
    every-yes (get_or l 3 0) (read_test cells l) c.loop-i.i (omega arith) c.loop-i.invariant.right ∙ reads-places cells l (omega arith)
