-- A trace has at most 12 bytes for each call.
use mathlib.Core.Bool.{true}
use mathlib.Core.List.{List, [], ◌∷◌}
use mathlib.Core.Path.{◌≡◌}
use Prim.Native.Nat.{ℕ, suc, ◌+◌, ◌*◌, ◌≤◌}
use native.Mathlib.Omega.{arith}
use lib.Dec.{eqb}
use lib.ListN.{length}
use Rattle.slot.specs.Logic.{◌and◌}
use Rattle.slot.proofs.Logic.{and_left, and_right}
use Rattle.rules.specs.Model.{controller}
use Rattle.rules.specs.State.{State}
use Rattle.rules.specs.StateRight.{state_right, state_at_rest}
use Rattle.rules.specs.Outcome.{reply_of, after}
use Rattle.rules.specs.Step.{Call, step}
use Rattle.history.specs.History.{Event, history, accepts}
use Rattle.history.proofs.Keeps.Lists.{cond-elim}
use Rattle.history.proofs.Keeps.Moves.{step_keeps}
use Rattle.effects.specs.Effects.{begins, number_of, effects_after, effects}
use Rattle.effects.specs.Trace.{trace}
use Rattle.effects.proofs.Short.Lines.{none-long, both_long}
use Rattle.effects.proofs.Short.Credit.{credit, rest-none}
use Rattle.effects.proofs.Short.Steps.{step-pays}
pub mod Lines
pub mod Credit
pub mod Steps

-- a call is at most one begin
pub begins-next : (e : Event) (past : List Event) → (begins past ≤ begins (e ∷ past)) × (begins (e ∷ past) ≤ suc (begins past))
unfolding begins
begins-next e past =
    cond-elim (λ n. (begins past ≤ n) × (n ≤ suc (begins past))) (accepts 1 e) (suc (begins past)) (begins past)
    (λ h. (omega arith, omega arith)) (λ h. (omega arith, omega arith))

-- a transaction's number is at most that of the begins
number-begun : (past : List Event) (slot : ℕ) → number_of past slot ≤ begins past
unfolding number_of
number-begun [] slot = omega arith
number-begun (e ∷ past) slot =
    cond-elim (λ n. n ≤ begins (e ∷ past)) (accepts 1 e and eqb e.call.slot slot) (begins (e ∷ past)) (number_of past slot)
    (λ h. omega arith) (λ h. omega (arith, number-begun past slot, (begins-next e past).0))

-- the calls after any past, from any right state: where k bounds the clock and the begins so far, what they print is paid by them and by the credit of the state
after-short : (calls : List Call) (past : List Event) (S : State) (k : ℕ) → state_right controller S ≡ true → S.clock ≤ k → begins past ≤ k → k + length calls ≤ 4096
    → length (trace (effects_after past (history (step controller) S calls))) ≤ 12 * length calls + credit S.slots
unfolding effects_after history
after-short [] past S k right young few fit = omega (arith, none-long)
after-short (a ∷ calls) past S k right young few fit =
    let o = step controller S a in
    let e : Event = record { before = S; call = a; reply = reply_of o } in
    let number = number_of (e ∷ past) a.slot in
    let next = (begins-next e past).1 in
    let small : number ≤ suc k = omega (arith, number-begun (e ∷ past) a.slot) in
    let here = step-pays S a number right (omega arith) (omega arith) in
    let rest = after-short calls (e ∷ past) (after S o) (suc k) (step_keeps controller S a right) (omega (arith, here.clock)) (omega arith) (omega arith) in
    rw both_long (omega (arith, here.within, rest))

-- from a state at rest with clock 0
pub trace-short : (S : State) → state_at_rest controller S ≡ true → S.clock ≡ 0 → (calls : List Call) → length calls ≤ 4096
    → length (trace (effects (history (step controller) S calls))) ≤ 12 * length calls
unfolding state_at_rest begins
trace-short S rest clock calls few =
    omega (arith, after-short calls [] S 0 (and_left _ _ rest) (omega arith) (omega arith) (omega arith), rest-none S.slots (and_right _ _ rest))
