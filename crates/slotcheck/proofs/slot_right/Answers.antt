-- Each return is the definition's case of the tests that led there.
use mathlib.Core.Path.{refl, ◌∙◌, ap}
use native.Mathlib.Omega.{arith}
use borrow.Author.Tests.{eq-eqb, ne_eqb, le-leb, lt-leb}
use lib.ListN.{get_or}
use Rattle.slot.specs.Layout.{slot_of}
use Rattle.rules.specs.AreaRight.{slot_place_right}
use Rattle.logcheck.proofs.Chains.{pass, stop, pick_yes, pick_no}
use Rattle.logcheck.proofs.Zero.{zeros-part}
use Rattle.slotcheck.specs.SlotParts.{slot_right_in}
use Rattle.slotcheck.proofs.slot_right.Goals as goal

pub returns-then-phase-gt4 : goal.returns-then-phase-gt4
unfolding slot_place_right slot_of
returns-then-phase-gt4 c =
    stop _ _ _ (lt-leb (get_or c.slot_place-t.result.bytes.now 0 0) 4 (omega arith)) refl
    ∙ ap (slot_right_in c.args.area.bytes.now c.args.clock) c.slot_place-t.ensures

pub returns-then-phase-eq0 : goal.returns-then-phase-eq0
unfolding slot_place_right slot_of
returns-then-phase-eq0 c =
    pass _ _ _ (le-leb (get_or c.slot_place-t.result.bytes.now 0 0) 4 (omega arith)) (pick_yes _ _ _ _ (eq-eqb _ _ c.if-phase-eq0.true) (c.all_zero.ensures ∙ zeros-part 197 0 c.slot_place-t.result.bytes.now c.slot_place-t.result.whole))
    ∙ ap (slot_right_in c.args.area.bytes.now c.args.clock) c.slot_place-t.ensures

pub returns : goal.returns
unfolding slot_place_right slot_of
returns c =
    pass _ _ _ (le-leb (get_or c.slot_place-t.result.bytes.now 0 0) 4 (omega arith)) (pick_no _ _ _ _ (ne_eqb _ _ c.if-phase-eq0.false) c.busy_right.ensures)
    ∙ ap (slot_right_in c.args.area.bytes.now c.args.clock) c.slot_place-t.ensures
