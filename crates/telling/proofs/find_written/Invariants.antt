use Rattle.std.proofs.Common.{◌≡◌, take}
use Rattle.slot.specs.Logs.{write_log, write_entry}
use Rattle.telling.proofs.find_written.Given as goal

abbrev pub invariant-loop-e : goal.invariant-loop-e
invariant-loop-e l = write_entry (take l.e-iterator.n l.e-iterator.iter.rest.now) l.cell ≡ write_entry (write_log l.fn.own) l.cell
