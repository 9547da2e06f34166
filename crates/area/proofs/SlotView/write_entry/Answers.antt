-- `write_entry` meets its contract: the entry that is read where the slot stands is its record's.
use lib.ListN.{get_or}
use Rattle.slot.specs.declared.SlotRecord.{SlotRecord}
use Rattle.slot.specs.Layout.{no_write}
use Rattle.area.proofs.SlotRead.{read-of-slot}
use Rattle.area.proofs.SlotView.write_entry.Goals as goal

pub returns : goal.returns
returns c =
    rw (← c.from.ensures) (read-of-slot (λ (v : SlotRecord). get_or v.writes c.from.result no_write) c.args.self.good c.args.self.below c.offset.ensures c.write_at.ensures)
