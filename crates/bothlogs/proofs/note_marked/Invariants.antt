use Rattle.packed.specs.Places.{slot_in}
use Rattle.bothlogs.proofs.Overlap.{Tabled}
use Rattle.bothlogs.proofs.note_marked.Given as goal

abbrev pub invariant-loop-i : goal.invariant-loop-i
invariant-loop-i l = Tabled l.marked l.bound (slot_in l.width l.at l.s).reads l.i
