-- The trace of a good sheet is that of the rules' own steps: both have the same history. And it is never longer than its room.
use mathlib.Core.Bool.{true}
use mathlib.Core.List.{List}
use mathlib.Core.Path.{◌≡◌, refl, ap, ◌∙◌}
use Prim.Native.Nat.{ℕ, ◌≤◌}
use native.Mathlib.Omega.{arith}
use lib.ListN.{length}
use Rattle.wire.proofs.Laws.Table.{length-tab}
use Rattle.slot.specs.Logic.{◌and◌, all}
use Rattle.slot.proofs.Logic.{and_intro}
use Rattle.rules.specs.Model.{controller}
use Rattle.rules.specs.State.{State}
use Rattle.rules.specs.StateRight.{state_right, state_at_rest}
use Rattle.rules.specs.Step.{step}
use Rattle.rules.specs.Layout.{state_of}
use Rattle.rules.specs.Area.{described_cells, fresh}
use Rattle.rules.proofs.Controller.{controller-fits}
use Rattle.history.specs.History.{history}
use Rattle.history.proofs.Histories.{same-history, histories}
use Rattle.apart.specs.Apart.{descriptions, steps, good_sheet}
use Rattle.apart.proofs.Apart.{good-parts}
use Rattle.stage.specs.Calls.{call_at, step_count}
use Rattle.stage.specs.First.{first_area}
use Rattle.stage.proofs.First.{first-packed, first-right, first-kept, first-rests}
use Rattle.stage.proofs.States.{back}
use Rattle.effects.specs.Effects.{effects}
use Rattle.effects.specs.Trace.{trace}
use Rattle.effects.specs.Traced.{calls_of, sheet_history, traced}
use Rattle.effects.specs.States.{OnStates, OfDemand3}
use Rattle.effects.proofs.Short.{trace-short}

module _ (s : List ℕ) (good : good_sheet s ≡ true) where
  -- the state that the run starts from
  abbrev first : State
  first = fresh controller (described_cells (descriptions s))

  right : state_right controller first ≡ true
  right = first-right (good-parts s good)

  same : sheet_history s ≡ history (step controller) first (calls_of (steps s))
  same =
      let kept = first-kept (good-parts s good) in
      let state : state_of controller (first_area s) ≡ first = ap (state_of controller) (first-packed (good-parts s good)) ∙ back first right in
      same-history controller controller-fits (calls_of (steps s)) (first_area s) kept.bytes kept.right
      ∙ ap (λ (S : State). history (step controller) S (calls_of (steps s))) state

  -- at most 12 bytes for each step
  pub traced-short : step_count (steps s) ≤ 4096 → length (trace (effects (sheet_history s))) ≤ 49152
  unfolding state_at_rest all ◌and◌
  traced-short few =
      let calls = calls_of (steps s) in
      let count : length calls ≡ step_count (steps s) = length-tab (step_count (steps s)) (call_at (steps s)) in
      rw same (omega (arith, trace-short first (and_intro _ _ right refl) refl calls (omega arith)))

pub on-states : OnStates
unfolding traced
on-states s good = rw good (ap (λ e. trace (effects e)) (same s good))

pub of-demand3 : OfDemand3
of-demand3 s good =
    let parts = good-parts s good in
    (histories controller controller-fits).of_areas (first_area s) (first-kept parts).bytes (first-rests parts) (calls_of (steps s))
