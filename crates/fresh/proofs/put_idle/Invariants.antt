use mathlib.Core.Path.{◌≡◌}
use Rattle.wire.specs.Part.{splice}
use Rattle.wire.specs.Table.{cat}
use Rattle.slot.specs.Layout.{empty, slot_bytes}
use Rattle.fresh.proofs.put_idle.Given as goal

abbrev pub invariant-loop-i : goal.invariant-loop-i
invariant-loop-i l = l.s ≡ splice l.initial.s l.at (cat l.i (λ j. slot_bytes 8 empty))
