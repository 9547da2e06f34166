-- What is written stands in the buffer.
use mathlib.Core.List.{List}
use Prim.Native.Nat.{ℕ, ◌≤◌}
use lib.ListN.{length}
use Rattle.std.specs.Prelude.{Result, Ok, Err, IfOk}
use Rattle.stage.specs.declared.TooShort.{TooShort}
use Rattle.stage.specs.Printed.{roomy, Printed}
use Rattle.stage.proofs.Front.{within}

-- what a run says it has written stands in the buffer: a program may write that much of it out
pub written-within : {most : ℕ} {text s a out b t : List ℕ} (r : Result ℕ TooShort) → Printed most text s a out r b t → IfOk r (λ end. end ≤ length t)
written-within {most} {text} {a = a} {out} (Ok end) run = within out text (roomy most a out) run.answer run.bytes
written-within (Err short) run = tt
