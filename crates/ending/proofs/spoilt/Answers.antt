-- `spoilt` meets its contract: with the flag nothing is spoilt, and without it some mark is.
use mathlib.Core.Bool.{true, false, not}
use mathlib.Core.Path.{◌≡◌, refl, sym, ◌∙◌, ap}
use Rattle.slot.specs.declared.SlotRecord.{SlotRecord}
use Rattle.slot.proofs.Logic.{and-false, and-true}
use Rattle.rules.specs.State.{slot_at}
use Rattle.rules.specs.Layout.{lay}
use Rattle.area.specs.Good.{state_in}
use Rattle.ending.proofs.spoilt.Goals as goal

pub returns-then-not-fields : goal.returns-then-not-fields
returns-then-not-fields c =
    let v = lay (slot_at (state_in c.args.slot.area.now) c.args.slot.index) in
    let flag : not v.ignoring ≡ true = ap (λ (u : SlotRecord). not u.ignoring) (sym c.fields.ensures) ∙ c.if-not-fields.true in
    rw (flag, and-true) c.some_marked.ensures

pub returns-else-not-fields : goal.returns-else-not-fields
returns-else-not-fields c =
    let v = lay (slot_at (state_in c.args.slot.area.now) c.args.slot.index) in
    let flag : not v.ignoring ≡ false = ap (λ (u : SlotRecord). not u.ignoring) (sym c.fields.ensures) ∙ c.if-not-fields.false in
    rw (c.if-not-fields.false, flag, and-false) refl
