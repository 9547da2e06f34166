-- `phase` meets its contract: the first byte of a slot is its phase.
use mathlib.Core.Path.{ap, ◌∙◌}
use Rattle.slot.specs.declared.SlotRecord.{SlotRecord}
use Rattle.slot.specs.Layout.{slot_of}
use Rattle.slot.proofs.Entry.{first_byte}
use Rattle.area.proofs.SlotRead.{slot-of}
use Rattle.area.proofs.SlotView.phase.Goals as goal

pub returns : goal.returns
unfolding slot_of
returns c =
    first_byte c.args.self.area.now _ ∙ ap (λ (v : SlotRecord). v.phase) (slot-of c.args.self.good c.args.self.below c.offset.ensures)
