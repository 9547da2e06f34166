-- A chain of clauses; what right counts and zero entries show is handed to the calls that ask it.
use mathlib.Core.Path.{refl, ◌∙◌}
use Rattle.logcheck.proofs.Chains.{pass, stop, passes, fails}
use Rattle.slotcheck.proofs.SlotLaws.{counted, indexed, busy-order}
use Rattle.slotcheck.proofs.busy_right.Goals as goal

pub returns-then-not-counts_right : goal.returns-then-not-counts_right
returns-then-not-counts_right c =
    stop _ _ _ (fails c.counts_right.ensures c.if-not-counts_right.true) refl
    ∙ busy-order c.args.area.bytes.now c.args.clock c.args.t.bytes.now

pub invariant_of-counted : goal.invariant_of-counted
invariant_of-counted c =
    record { counted = counted c.args.t.bytes.now c.args.t.whole (passes c.counts_right.ensures c.if-not-counts_right.false) }

pub returns-then-not-logs_right : goal.returns-then-not-logs_right
returns-then-not-logs_right c =
    pass _ _ _ (passes c.counts_right.ensures c.if-not-counts_right.false) (stop _ _ _ (fails c.logs_right.ensures c.if-not-logs_right.true) refl)
    ∙ busy-order c.args.area.bytes.now c.args.clock c.args.t.bytes.now

pub returns-then-not-numbers_right : goal.returns-then-not-numbers_right
returns-then-not-numbers_right c =
    pass _ _ _ (passes c.counts_right.ensures c.if-not-counts_right.false)
    (pass _ _ _ (passes c.logs_right.ensures c.if-not-logs_right.false) (stop _ _ _ (fails c.numbers_right.ensures c.if-not-numbers_right.true) refl))
    ∙ busy-order c.args.area.bytes.now c.args.clock c.args.t.bytes.now

pub returns-then-not-unused_zero : goal.returns-then-not-unused_zero
returns-then-not-unused_zero c =
    pass _ _ _ (passes c.counts_right.ensures c.if-not-counts_right.false)
    (pass _ _ _ (passes c.logs_right.ensures c.if-not-logs_right.false)
    (pass _ _ _ (passes c.numbers_right.ensures c.if-not-numbers_right.false) (stop _ _ _ (fails c.unused_zero.ensures c.if-not-unused_zero.true) refl)))
    ∙ busy-order c.args.area.bytes.now c.args.clock c.args.t.bytes.now

pub returns-then-not-marked_right : goal.returns-then-not-marked_right
returns-then-not-marked_right c =
    pass _ _ _ (passes c.counts_right.ensures c.if-not-counts_right.false)
    (pass _ _ _ (passes c.logs_right.ensures c.if-not-logs_right.false)
    (pass _ _ _ (passes c.numbers_right.ensures c.if-not-numbers_right.false)
    (pass _ _ _ (passes c.unused_zero.ensures c.if-not-unused_zero.false) (stop _ _ _ (fails c.marked_right.ensures c.if-not-marked_right.true) refl))))
    ∙ busy-order c.args.area.bytes.now c.args.clock c.args.t.bytes.now

pub no_update_lost-requires : goal.no_update_lost-requires
no_update_lost-requires c =
    indexed c.args.area.bytes.now c.args.t.bytes.now c.args.area.cells c.args.area.framed (counted c.args.t.bytes.now c.args.t.whole (passes c.counts_right.ensures c.if-not-counts_right.false)) (passes c.logs_right.ensures c.if-not-logs_right.false)

pub returns : goal.returns
returns c =
    pass _ _ _ (passes c.counts_right.ensures c.if-not-counts_right.false)
    (pass _ _ _ (passes c.logs_right.ensures c.if-not-logs_right.false)
    (pass _ _ _ (passes c.numbers_right.ensures c.if-not-numbers_right.false)
    (pass _ _ _ (passes c.unused_zero.ensures c.if-not-unused_zero.false) (pass _ _ _ (passes c.marked_right.ensures c.if-not-marked_right.false) c.no_update_lost.ensures))))
    ∙ busy-order c.args.area.bytes.now c.args.clock c.args.t.bytes.now
