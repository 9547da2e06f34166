use mathlib.Core.Path.{◌≡◌}
use lib.ListN.{get_or}
use Rattle.wire.specs.Part.{splice}
use Rattle.wire.specs.Table.{cat}
use Rattle.packed.proofs.put_log.Given as goal

abbrev pub invariant-loop-i : goal.invariant-loop-i
invariant-loop-i g l = (d : _) → l.s ≡ splice l.initial.s l.at (cat l.i (λ j. g.E.Entry.bytes (get_or l.log j d)))
