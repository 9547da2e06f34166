-- "The lowest code that applies is given, and none is given otherwise." "14 held, tested before 10." "15, tested after 4."
use Rattle.std.specs.Prelude.{Bool, true, false, cond, List, ◌≡◌, ℕ, ◌*◌, eqb, ltb}
use Rattle.call.specs.Answer.{answer_code, refusal_code, reply_code}
use Rattle.slot.specs.Logic.{◌and◌, any, pairwise}
use Rattle.rules.specs.Model.{Model}
use Rattle.rules.specs.State.{State}
use Rattle.rules.specs.Outcome.{Outcome, refused, accepted}
use Rattle.rules.specs.Step.{Call, step}
use Rattle.rules.specs.Layout.{state_of}
use Rattle.rules.specs.AreaRight.{well_formed}
use Rattle.rules.specs.Area.{step_on_bytes}
use Rattle.rules.specs.Allowed.{Row, ◌when◌, row_number}
use Rattle.rules.specs.Codes.{code_table, Ending, refusal, outcome, ending_code, table_ending}

-- how a step ended
abbrev pub ending : Outcome → Ending
ending (refused r) = refusal (refusal_code r)
ending (accepted r T) = outcome (answer_code r)

-- How low a code is, in tenths: 15 stands between 4 and 5, 14 between 9 and 10, and every other code where its number is.
abbrev pub height : ℕ → ℕ
height code = cond (eqb code 15) 45 (cond (eqb code 14) 95 (10 * code))

-- a row of the table applies, and its code is lower than k
abbrev pub lower_applies : ℕ → Row → Bool
lower_applies k (code when applies) = applies and ltb (height code) (height k)

pub record LowestCode (M : Model) : Type 0 where
  -- From any state, and for any five numbers, a step ends as the table says: refused with the code of the first row that applies, and accepted if none does.
  pub given : (S : State) (a : Call) → ending (step M S a) ≡ table_ending M S a
  -- On any bytes: code 1 if they are not well formed, else the table's code for the state in them.
  pub on_bytes : (bytes : List ℕ) (a : Call)
      → reply_code (step_on_bytes M bytes a).reply ≡ cond (well_formed M bytes) (ending_code (table_ending M (state_of M bytes) a)) 1
  -- "The lowest code": where a step is refused, no row with a lower code applies. It is so because the rows ascend.
  pub lowest : (S : State) (a : Call) (k : ℕ) → ending (step M S a) ≡ refusal k → any (lower_applies k) (code_table M S a) ≡ false
  pub ascending : (S : State) (a : Call) → pairwise (λ (r q : Row). ltb (height (row_number r)) (height (row_number q))) (code_table M S a) ≡ true
