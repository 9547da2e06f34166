-- Only a slot in twilight updates, a cell that its write log has, to a value of its kind: the entry with the new value is put into the write log.
use mathlib.Core.Path.{refl}
use Rattle.rules.specs.Model.{controller}
use Rattle.rules.specs.State.{slot_at}
use Rattle.area.specs.Good.{state_in}
use Rattle.ways.proofs.Done.{leaves}
use Rattle.ways.proofs.Known.{known}
use Rattle.writing.proofs.Ways.{updated-stands, update-0}
use Rattle.writing.proofs.Room.{writable-again}
use Rattle.writing.proofs.update.Goals as goal

pub put_entry-requires-clause-room : goal.put_entry-requires-clause-room
put_entry-requires-clause-room c = writable-again (known c.requires.0 c.requires.1 refl) _ c.find_write.ensures c.in_ok-ok_or.ensures.ok_part

pub put_entry-requires-clause-kept : goal.put_entry-requires-clause-kept
put_entry-requires-clause-kept c = (updated-stands (slot_at (state_in c.args.s.now) c.args.i) _ refl _ refl c.in_ok-in_phase.ensures).kept

pub returns : goal.returns
returns c =
    leaves _
    (update-0 controller _ _ _ _ c.in_ok-in_phase.ensures c.in_ok-cell_there.ensures.row c.in_ok-word.ensures.row c.find_write.ensures c.in_ok-ok_or.ensures.ok_part c.in_ok-word.ensures.word)
    c.put_entry.ensures
