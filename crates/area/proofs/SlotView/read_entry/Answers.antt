-- `read_entry` meets its contract: the entry that is read where the slot stands is its record's.
use lib.ListN.{get_or}
use Rattle.slot.specs.declared.SlotRecord.{SlotRecord}
use Rattle.slot.specs.Layout.{no_read}
use Rattle.area.proofs.SlotRead.{read-of-slot}
use Rattle.area.proofs.SlotView.read_entry.Goals as goal

pub returns : goal.returns
returns c =
    read-of-slot (λ (v : SlotRecord). get_or v.reads c.args.k no_read) c.args.self.good c.args.self.below c.offset.ensures c.read_at.ensures
