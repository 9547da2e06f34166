-- The line of a step's answer is the line of its reply.
use mathlib.Core.List.{List}
use mathlib.Core.Path.{◌≡◌}
use Prim.Native.Nat.{ℕ, ◌+◌}
use Rattle.crocktendril.specs.Contract.{Stepped}
use Rattle.crocktendril.proofs.Demands.{demand1}
use Rattle.line.specs.Line.{answer_line}
use Rattle.stage.specs.Calls.{call_at, area_after}
use Rattle.sheet.specs.Output.{step_line}

pub next-line : (a l : List ℕ) (k r : ℕ) (x y : List ℕ) → x ≡ area_after a l k → Stepped x (call_at l k) r y → answer_line (k + 1) r ≡ step_line a l k
unfolding step_line
next-line a l k r x y here made =
    rw (demand1.code x (call_at l k) r y made, demand1.kind x (call_at l k) r y made, demand1.word x (call_at l k) r y made, here)
