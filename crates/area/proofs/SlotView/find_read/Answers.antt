-- `find_read` meets its contract: the log that is searched where the slot stands is its record's.
use Rattle.slot.specs.declared.SlotRecord.{SlotRecord}
use Rattle.slot.specs.Logs.{read_log, read_entry}
use Rattle.slot.specs.Operations.{read_found}
use Rattle.area.proofs.SlotRead.{read-of-slot}
use Rattle.area.proofs.SlotView.find_read.Goals as goal

pub returns : goal.returns
returns c =
    read-of-slot (λ (v : SlotRecord). read_found (read_entry (read_log v) c.args.cell)) c.args.self.good c.args.self.below c.offset.ensures c.find_read.ensures
