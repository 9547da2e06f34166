-- `marked_written` meets its contract: the logs that are looked at where the slot stands are its record's.
use Rattle.slot.specs.Logs.{has_marked_written}
use Rattle.area.proofs.SlotRead.{read-of-slot}
use Rattle.readlog.proofs.InArea.{indexed_of}
use Rattle.readlog.proofs.marked_written.Goals as goal

pub marked_written-requires : goal.marked_written-requires
marked_written-requires c =
    indexed_of c.args.slot.good c.args.slot.below c.offset.ensures

pub returns : goal.returns
returns c =
    read-of-slot has_marked_written c.args.slot.good c.args.slot.below c.offset.ensures c.marked_written.ensures
