use mathlib.Core.Bool.{true}
use Rattle.wellformed.specs.Claims.{in_part, Claimed}
use Rattle.wellformed.proofs.holders.claim_part.Given as goal

abbrev pub invariant-loop-i : goal.invariant-loop-i
invariant-loop-i l = Claimed l.area.bytes.now (in_part l.t.bytes.now l.from l.i) l.slot true l.initial.due l.due
