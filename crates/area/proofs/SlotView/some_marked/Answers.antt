-- `some_marked` meets its contract: the log that is searched where the slot stands is its record's.
use Rattle.slot.specs.declared.SlotRecord.{SlotRecord}
use Rattle.slot.specs.Logs.{read_log, some_marked}
use Rattle.area.proofs.SlotRead.{read-of-slot}
use Rattle.area.proofs.SlotView.some_marked.Goals as goal

pub returns : goal.returns
returns c =
    read-of-slot (λ (v : SlotRecord). some_marked (read_log v)) c.args.self.good c.args.self.below c.offset.ensures c.some_marked.ensures
