-- `written` meets its contract: the last entry takes the first unused place, unless an entry was replaced.
use Rattle.slot.proofs.Carry.{carried-on}
use Rattle.slot.proofs.SlotRecord.written.Goals as goal

pub returns-in-Some : goal.returns-in-Some
returns-in-Some c = carried-on c.carry.new.log c.in-Some.last c.requires c.from-count.ensures c.carry.auto.log c.in-Some.ensures.put c.carry.ensures.rest
