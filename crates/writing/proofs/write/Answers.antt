-- `write` meets its contract: after the tests in the order of the codes the entry is put into the write log.
use mathlib.Core.Path.{refl}
use Rattle.rules.specs.Model.{controller}
use Rattle.rules.specs.State.{slot_at}
use Rattle.area.specs.Good.{state_in}
use Rattle.ways.proofs.Done.{leaves}
use Rattle.ways.proofs.Known.{known}
use Rattle.writing.proofs.Ways.{written_stands, write-0}
use Rattle.writing.proofs.Room.{writable}
use Rattle.writing.proofs.write.Goals as goal

pub put_entry-requires-clause-room : goal.put_entry-requires-clause-room
put_entry-requires-clause-room c = writable (known c.requires.0 c.requires.1 refl) _ c.no_room.ensures c.if-no_room.false

pub put_entry-requires-clause-kept : goal.put_entry-requires-clause-kept
put_entry-requires-clause-kept c = (written_stands (slot_at (state_in c.args.s.now) c.args.i) _ refl _ refl c.in_ok-in_phase.ensures).kept

pub returns : goal.returns
returns c =
    leaves _
    (write-0 controller _ _ _ _ c.in_ok-in_phase.ensures c.in_ok-cell_there.ensures.row c.in_ok-word.ensures.row c.no_room.ensures c.if-no_room.false c.in_ok-word.ensures.word)
    c.put_entry.ensures
