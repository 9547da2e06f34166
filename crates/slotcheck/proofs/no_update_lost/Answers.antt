-- Without the flag the clause holds; with it, it asks that no marked cell is in the write log.
use mathlib.Core.Bool.{not}
use mathlib.Core.Path.{◌∙◌, ap}
use borrow.Author.Tests.{eq-eqb, ne_eqb}
use Rattle.slot.specs.Layout.{slot_of}
use Rattle.rules.specs.LogsRight.{no_update_lost}
use Rattle.logcheck.proofs.Chains.{or_yes, or_no}
use Rattle.slotcheck.proofs.no_update_lost.Goals as goal

pub returns-then-t-ne1 : goal.returns-then-t-ne1
unfolding no_update_lost slot_of
returns-then-t-ne1 c = or_yes _ _ (ap not (ne_eqb _ _ c.if-t-ne1.true))

pub returns-else-t-ne1 : goal.returns-else-t-ne1
unfolding no_update_lost slot_of
returns-else-t-ne1 c =
    ap not c.marked_written.ensures ∙ or_no _ _ (ap not (eq-eqb _ _ c.if-t-ne1.false))
