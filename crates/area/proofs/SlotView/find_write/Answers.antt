-- `find_write` meets its contract: the log that is searched where the slot stands is its record's, which ascends.
use native.Mathlib.Omega.{arith}
use Rattle.slot.specs.declared.SlotRecord.{SlotRecord}
use Rattle.slot.specs.Logs.{write_log, write_entry}
use Rattle.slot.specs.Operations.{write_found}
use Rattle.area.proofs.SlotRead.{read-of-slot}
use Rattle.area.proofs.Logged.{logged-at}
use Rattle.area.proofs.SlotView.find_write.Goals as goal

pub find_write-requires : goal.find_write-requires
find_write-requires c =
    let long = c.args.self.good.long in
    (omega arith, omega arith, (logged-at c.args.self.good c.args.self.below c.offset.ensures).ascending)

pub returns : goal.returns
returns c =
    read-of-slot (λ (v : SlotRecord). write_found (write_entry (write_log v) c.args.cell)) c.args.self.good c.args.self.below c.offset.ensures c.find_write.ensures
