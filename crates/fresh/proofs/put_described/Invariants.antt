use mathlib.Core.Path.{◌≡◌}
use lib.ListN.{length}
use Rattle.wire.specs.Part.{splice}
use Rattle.fresh.specs.Parts.{fresh_cells}
use Rattle.fresh.proofs.put_described.Given as goal

abbrev pub invariant-loop-c : goal.invariant-loop-c
invariant-loop-c l = l.s ≡ splice l.initial.s 14 (fresh_cells (length l.yielded) l.ds)
