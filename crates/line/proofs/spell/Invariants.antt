use mathlib.Core.List.{◌++◌}
use mathlib.Core.Path.{◌≡◌}
use Prim.Native.Nat.{◌≤◌}
use lib.ListN.{length, take, drop}
use Rattle.line.specs.Number.{digits}
use Rattle.line.proofs.spell.Given as goal

abbrev pub invariant-loop-i : goal.invariant-loop-i
invariant-loop-i l =
    (l.i ≤ length l.initial.text) × (length l.text ≡ length l.initial.text) × (take l.i l.text ≡ take l.i l.initial.text)
    × (digits l.base l.initial.least (length l.initial.text) l.number ≡ digits l.base l.least l.i l.rest ++ drop l.i l.text)
