-- The three clauses, in their order.
use mathlib.Core.Bool.{true≢false}
use mathlib.Core.Path.{◌∙◌, sym}
use native.Mathlib.Omega.{arith}
use borrow.Author.Tests.{le-leb, lt-leb}
use lib.ListN.{drop}
use Rattle.wire.specs.Field.{be}
use Rattle.slot.specs.Layout.{slot_of}
use Rattle.logcheck.proofs.Chains.{pass, stop, passes, fails}
use Rattle.slotcheck.specs.SlotParts.{numbers_right}
use Rattle.slotcheck.proofs.numbers.numbers_right.Goals as goal
use Rattle.slotcheck.proofs.numbers.numbers_right.Goals.{then-start-clock, else-start-clock}

pub returns-then-taken_right : goal.returns-then-taken_right
unfolding numbers_right slot_of
returns-then-taken_right c =
    elim c.if-start-clock.branch [
      | then-start-clock w ↦
          pass _ _ _ (le-leb (be 8 (drop 5 c.args.t.bytes.now)) c.args.clock (omega arith))
          (pass _ _ _ (passes w.taken_right.ensures (sym w.value-is ∙ c.if-taken_right.true)) c.commit_right.ensures)
      | else-start-clock w ↦ absurd (true≢false (sym c.if-taken_right.true ∙ w.value-is ∙ lt-leb _ _ w.if-start-clock.false))
    ]

pub returns-else-taken_right : goal.returns-else-taken_right
unfolding numbers_right slot_of
returns-else-taken_right c =
    elim c.if-start-clock.branch [
      | then-start-clock w ↦
          pass _ _ _ (le-leb (be 8 (drop 5 c.args.t.bytes.now)) c.args.clock (omega arith))
          (stop _ _ _ (fails w.taken_right.ensures (sym w.value-is ∙ c.if-taken_right.false)) c.if-taken_right.false)
      | else-start-clock w ↦ stop _ _ _ (lt-leb (be 8 (drop 5 c.args.t.bytes.now)) c.args.clock (omega arith)) c.if-taken_right.false
    ]
