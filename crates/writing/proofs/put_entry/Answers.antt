-- The write log alone is read and stored, and the rest of the record stays where it is.
use Rattle.slot.proofs.Laws.Fields.{writable-alone, written-alone}
use Rattle.area.specs.InPlace.{record_at}
use Rattle.writing.proofs.put_entry.Goals as goal

pub written-requires : goal.written-requires
written-requires c = rw c.with_writes-v.ensures (writable-alone (record_at c.args.s.now c.args.i) _ c.requires.room)

pub store_writes-requires-clause-v_value : goal.store_writes-requires-clause-v_value
store_writes-requires-clause-v_value c =
    rw (written-alone (record_at c.args.s.now c.args.i) _ c.with_writes-v.ensures c.written.ensures) c.requires.kept

pub returns : goal.returns
returns c = rw (written-alone (record_at c.args.s.now c.args.i) _ c.with_writes-v.ensures c.written.ensures) at c.store_writes.ensures
