use Rattle.slot.specs.declared.WriteEntry.{WriteEntry}
use Rattle.slot.specs.Layout.{write_capacity}
use Rattle.slot.specs.Logs.{read_log}
use Rattle.packed.specs.Places.{slot_in}
use Rattle.packed.proofs.InLog.{Sought}
use Rattle.bothlogs.specs.BothLogs.{marks_cell}
use Rattle.bothlogs.proofs.marked_written.Given as goal

abbrev pub invariant-loop-i : goal.invariant-loop-i
invariant-loop-i l =
    Sought (λ (w : WriteEntry). marks_cell (read_log (slot_in l.width l.at l.s)) w.cell) (slot_in l.width l.at l.s).writes write_capacity (slot_in l.width l.at l.s).writecount l.i
