-- `fields` meets its contract: the fields that are read where the slot stands are its record's.
use Rattle.slot.specs.Fields.{fields_of}
use Rattle.area.proofs.SlotRead.{read-of-slot}
use Rattle.area.proofs.SlotView.fields.Goals as goal

pub returns : goal.returns
returns c =
    read-of-slot fields_of c.args.self.good c.args.self.below c.offset.ensures c.fields.ensures
