-- The states from which the edges and the wrong cores start are well formed: by computation, at any clock.
use mathlib.Core.Bool.{true}
use mathlib.Core.List.{List, [], ◌∷◌}
use mathlib.Core.Path.{◌≡◌, refl}
use Prim.Native.Nat.{ℕ, ◌-◌, ◌^◌, ◌≤◌}
use native.Mathlib.Omega.{arith}
use borrow.Author.Tests.{le-leb}
use Rattle.slot.specs.Logic.{same, every, all, pairwise}
use Rattle.rules.specs.Model.{controller}
use Rattle.rules.specs.State.{State}
use Rattle.rules.specs.LogsRight.{cell_right, logged_right, reads_right, writes_right, commit_between, stamps_apart, holders_right, cell_count_right}
use Rattle.rules.specs.StateRight.{logs_right, slot_right, holds, shape_right, state_right_but_holders, state_holders_right, state_right}
use Rattle.rules.specs.Outcome.{after}
use Rattle.rules.specs.Step.{Call, step}
use Rattle.rules.specs.Run.{end_state}
use Rattle.rules.specs.Edges.{two, seventeen}
use Rattle.rules.proofs.Open.{computed}
use Rattle.rules.proofs.Controller.{controller-fits}
use Rattle.history.proofs.Keeps.{keeps}

-- opens all that the judgement of a given state computes
unfoldable pub judged : ℕ
unfolding computed same every all pairwise cell_right logged_right reads_right writes_right commit_between stamps_apart holders_right cell_count_right logs_right slot_right holds shape_right state_right_but_holders state_holders_right state_right
judged = 0

-- two fresh cells, at any clock
abbrev pub two_at : ℕ → State
two_at clock = record { clock = clock; cells = two.cells; slots = two.slots }

pub two-right : (clock : ℕ) → clock ≤ 2 ^ 64 - 1 → state_right controller (two_at clock) ≡ true
unfolding judged
two-right clock h = rw (le-leb clock (2 ^ 64 - 1) h, le-leb 0 clock (omega arith))

pub seventeen-right : state_right controller seventeen ≡ true
unfolding judged
seventeen-right = refl

-- .. and so is every state that calls lead to
pub end-right : (S : State) (calls : List Call) → state_right controller S ≡ true → state_right controller (end_state controller S calls) ≡ true
unfolding end_state
end-right S [] right = right
end-right S (call ∷ calls) right = end-right (after S (step controller S call)) calls ((keeps controller controller-fits).state_kept S call right)
