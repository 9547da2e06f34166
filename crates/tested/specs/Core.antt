-- Any core that could stand in the place of `crocktendril_step`, and what it is for it to meet the contract.
use Rattle.std.specs.Prelude.{true, cond, List, ◌≡◌, ℕ, pred, ◌^◌, ◌<◌, Err}
use Rattle.wire.specs.Field.{Bytes}
use Rattle.call.specs.declared.Refusal.TheVariants.{NotWellFormed}
use Rattle.call.specs.Answer.{reply_number}
use Rattle.rules.specs.Model.{controller}
use Rattle.rules.specs.State.{State}
use Rattle.rules.specs.Outcome.{Outcome}
use Rattle.rules.specs.Step.{Call, inside_slots}
use Rattle.rules.specs.Layout.{state_of}
use Rattle.rules.specs.AreaRight.{well_formed}
use Rattle.rules.specs.Area.{Answered, answered}
use Rattle.history.specs.Slips.{slip}
use Rattle.crocktendril.specs.Contract.{Stepped}

-- A core: what it answers to a call on an area, and the bytes that it leaves there.
pub record Result : Type 0 where
  pub answer : ℕ
  pub left : List ℕ

abbrev pub Core : Type 0
Core = List ℕ → Call → Result

-- What C can ask on a well-formed area: four bytes and a word of 32 bits.
pub record Askable (l : List ℕ) (call : Call) : Type 0 where
  pub bytes : Bytes l
  pub formed : well_formed controller l ≡ true
  pub step : call.step < 256
  pub slot : call.slot < 256
  pub cell : call.cell < 256
  pub kind : call.kind < 256
  pub word : call.word < 2 ^ 32

-- It meets the contract of `crocktendril_step`. What it does with an area that is not well formed is not looked at, so that no core below is shut out for that.
abbrev pub Meets : Core → Type 0
Meets core = (l : List ℕ) (call : Call) → Askable l call → Stepped l call (core l call).answer (core l call).left

-- a core made of a step on states, in the way in which `step_on_bytes` is made of the rules' own
abbrev pub result_of : Answered → Result
result_of a = record { answer = reply_number a.reply; left = a.bytes }

unfoldable pub core_of : (State → Call → Outcome) → Core
core_of next l call =
    result_of (cond (well_formed controller l) (answered controller l (next (state_of controller l) call)) (record { reply = Err NotWellFormed; bytes = l }))

-- a step on states but for the row of one number
unfoldable pub with_row : ℕ → (State → ℕ → Outcome) → (State → Call → Outcome) → State → Call → Outcome
with_row number row = slip number (λ S a. inside_slots controller a.slot (row S (pred a.slot)))
