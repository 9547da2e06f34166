-- What the step for C promises, for all inputs: the answer, and every byte of the area after the call. The lay-out promises `LaidOut` of `fresh`.
use Rattle.std.specs.Prelude.{List, ◌≡◌, ℕ}
use Rattle.call.specs.Answer.{reply_number}
use Rattle.rules.specs.Model.{controller}
use Rattle.rules.specs.Step.{Call}
use Rattle.rules.specs.Area.{step_on_bytes}

-- `crocktendril_step` on an area `l` answers r and leaves `l'`
pub record Stepped (l : List ℕ) (call : Call) (r : ℕ) (l' : List ℕ) : Type 0 where
  pub answer : r ≡ reply_number (step_on_bytes controller l call).reply
  pub bytes : l' ≡ (step_on_bytes controller l call).bytes
