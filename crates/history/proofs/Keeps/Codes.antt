-- Codes 0 and 13 are for acceptances alone and code 1 is nobody's: a call matches itself, and so its outcome has a code that fits.
use mathlib.Core.Bool.{Bool, true, cond}
use mathlib.Core.Path.{refl}
use Prim.Native.Nat.{ℕ, pred}
use lib.Dec.{T, eqb}
use borrow.Author.Tests.{ne_eqb}
use Rattle.call.specs.declared.Answer.{Answer}
use Rattle.call.specs.Answer.{answer_code, Refuses}
use Rattle.rules.specs.Model.{Model}
use Rattle.rules.specs.State.{State}
use Rattle.rules.specs.Outcome.{Outcome, refused, accepted}
use Rattle.rules.specs.Step.{Call, step}
use Rattle.history.proofs.Cases.{OfStep}
use Rattle.history.specs.Frame.{call_names, Alike}
use Rattle.history.proofs.Frame.Both.{Acceptance, Matches, both-refused, both-accepted}
use Rattle.history.proofs.Frame.Calls.{calls-match}

abbrev pub Coded : Outcome → Type 0
Coded (refused r) = OfStep r
Coded (accepted r T) = Acceptance r

coded : {S S' : State} {i : ℕ} {o o' : Outcome} → Matches S S' i o o' → Coded o
coded (both-refused e c) = c
coded (both-accepted e c t) = c

itself : (S : State) (i : ℕ) (names : ℕ → Bool) → Alike S S i names
itself S i names = record { clock = refl; count = refl; slot = refl; cells = λ c p. refl }

pub step-coded : (M : Model) (S : State) (a : Call) → Coded (step M S a)
step-coded M S a = coded (calls-match M S S a (itself S (pred a.slot) (call_names a)))

-- an acceptance is no refusal
pub acceptance : (r : Answer) → Acceptance r → Refuses (answer_code r) → ⊥
acceptance r k refuses = by (answer_code r) k refuses
  where
    by : (code : ℕ) → T (cond (eqb code 0) true (eqb code 13)) → Refuses code → ⊥
    by code k refuses = rw (ne_eqb code 0 refuses.0, ne_eqb code 13 refuses.1) at k
