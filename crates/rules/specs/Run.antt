-- A list of calls, one after the other: what is replied, and the state at the end.
use Rattle.std.specs.Prelude.{List, [], ◌∷◌, ℕ}
use Rattle.call.specs.Answer.{Reply, reply_code, reply_kind, reply_word}
use Rattle.rules.specs.Model.{Model}
use Rattle.rules.specs.State.{State}
use Rattle.rules.specs.Outcome.{reply_of, after}
use Rattle.rules.specs.Step.{Call, step}

-- a call as a step sheet has it: step/slot/cell/kind/word
abbrev pub call : ℕ → ℕ → ℕ → ℕ → ℕ → Call
call step slot cell kind word = record { step = step; slot = slot; cell = cell; kind = kind; word = word }

-- what is shown of a reply
pub data Shown : Type 0 where
  shown : (code kind word : ℕ) → Shown

abbrev pub show : Reply → Shown
show r = shown (reply_code r) (reply_kind r) (reply_word r)

unfoldable pub replies : Model → State → List Call → List Shown
replies M S [] = []
replies M S (a ∷ calls) = let o = step M S a in show (reply_of o) ∷ replies M (after S o) calls

unfoldable pub end_state : Model → State → List Call → State
end_state M S [] = S
end_state M S (a ∷ calls) = end_state M (after S (step M S a)) calls
