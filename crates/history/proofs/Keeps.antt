-- A step keeps the area well formed, for every model whose numbers fit their bytes: each move keeps the state, and an area follows its state.
use mathlib.Core.Path.{◌≡◌, refl}
use Prim.Native.Nat.{pred, ◌≤◌}
use native.Mathlib.Omega.{arith}
use lib.ListN.{length}
use Rattle.rules.specs.Model.{Model, FitsBytes}
use Rattle.rules.specs.State.{State}
use Rattle.rules.specs.Outcome.{after}
use Rattle.rules.specs.Step.{Call, step}
use Rattle.history.specs.Keeps.{Keeps}
use Rattle.history.proofs.StepCase.{step_case}
use Rattle.history.proofs.Right.{right_of}
use Rattle.history.proofs.Keeps.Kinds.{SameKinds, kinds-same}
use Rattle.history.proofs.Keeps.Effect.{change-kinds, effect}
use Rattle.history.proofs.Keeps.Moves.{step_keeps}
use Rattle.history.proofs.Keeps.OnBytes.{area-never-1, area-untouched, step-good, laid-never-1, same-replies, same_end}
pub mod Lists
pub mod Logs
pub mod Kinds
pub mod Slots
pub mod Back
pub mod Turn
pub mod Steady
pub mod Holding
pub mod Effect
pub mod Moves
pub mod Codes
pub mod OnBytes

kinds_kept : (M : Model) (S : State) (a : Call) → SameKinds S.cells (after S (step M S a)).cells
kinds_kept M S a =
    step_case M S (λ o. SameKinds S.cells (after S o).cells) (λ r k. kinds-same S.cells) a
    (λ s d h r T m. change-kinds (effect M S (pred a.slot) m).change)

pub keeps : (M : Model) → FitsBytes M → Keeps M
keeps M fits =
    record {
      state_kept = step_keeps M;
      clock_rises = λ S a. step_case M S (λ o. S.clock ≤ (after S o).clock) (λ r k. omega arith) a (λ s d h r T m. (effect M S (pred a.slot) m).clock_rises);
      clock_last = λ S a right. (right_of M (after S (step M S a)) (step_keeps M S a right)).clock_last;
      kind_kept = λ S a. (kinds_kept M S a).kind;
      count_kept = λ S a. (kinds_kept M S a).count;
      slot_count_kept = λ S a.
          step_case M S (λ o. length (after S o).slots ≡ length S.slots) (λ r k. refl) a (λ s d h r T m. (effect M S (pred a.slot) m).slot_count);
      area_never1 = area-never-1 M;
      area_kept = λ a call bytes right. (step-good M fits a call (record { bytes = bytes; right = right })).right;
      bytes_kept = λ a call bytes right. (step-good M fits a call (record { bytes = bytes; right = right })).bytes;
      untouched = area-untouched M;
      never1 = laid-never-1 M fits;
      same_replies = same-replies M fits;
      same_end = same_end M fits;
    }
