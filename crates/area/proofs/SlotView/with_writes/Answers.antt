-- `with_writes` meets its contract: what is read where the slot stands is its record's.
use Rattle.slot.specs.Fields.{without_reads}
use Rattle.area.proofs.SlotRead.{read-of-slot}
use Rattle.area.proofs.SlotView.with_writes.Goals as goal

pub returns : goal.returns
returns c =
    read-of-slot without_reads c.args.self.good c.args.self.below c.offset.ensures c.with_writes.ensures
