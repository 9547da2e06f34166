-- The operation levels, and what it has put into the logs stays there up to the finish, whatever other slots do meanwhile.
use Rattle.std.specs.Prelude.{Bool, true, List, ◌≡◌, ℕ, pred, eqb, leb}
use Rattle.slot.specs.Logic.{◌and◌, ◌or◌, All}
use Rattle.rules.specs.Model.{Model}
use Rattle.rules.specs.State.{State, Slot, slot_at, reads_of, writes_of}
use Rattle.rules.specs.StateRight.{state_right}
use Rattle.rules.specs.Outcome.{after}
use Rattle.rules.specs.Step.{Call, step}
use Rattle.history.specs.History.{final, committed_by}
use Rattle.wear.specs.Wear.{wear}
use Rattle.levelling.specs.AsCalls.{admitted}
use Rattle.levelling.specs.CountsUp.{LevelsWith, Levels}

-- a slot's logs level a set, with group g
abbrev pub SlotLevels : List ℕ → ℕ → Slot → Type 0
SlotLevels set g x = LevelsWith set g (reads_of x) (writes_of x)

-- the steps that leave cells and words of the slot's own logs: close, lock, enter, reread (4 to 7), ask (9) and ignore (11)
unfoldable pub leaves_logs : ℕ → Bool
leaves_logs number = (leb 4 number and leb number 7) or eqb number 9 or eqb number 11

-- a call of any step by another slot, or of one of those by the slot itself
abbrev pub LogsStay : ℕ → Call → Type 0
LogsStay slot a = pred a.slot ≡ pred slot → leaves_logs a.step ≡ true

pub record OperationLevels (M : Model) : Type 0 where
  -- Code 0: the transaction's logs level the set, with the group that is answered.
  pub levels : (S : State) (set : List ℕ) (slot : ℕ) → state_right M S ≡ true → admitted M S set slot ≡ true → (wear M S set slot).code ≡ 0
      → SlotLevels set (wear M S set slot).word (slot_at (wear M S set slot).state (pred slot))
  -- Such a call, accepted or refused, leaves them so.
  pub kept : (S : State) (set : List ℕ) (g slot : ℕ) (a : Call) → LogsStay slot a
      → SlotLevels set g (slot_at S (pred slot)) → SlotLevels set g (slot_at (after S (step M S a)) (pred slot))
  -- So after the operation and any number of such calls (close, lock and enter among them) a finish of the slot commits what levels.
  pub commit_levels : (S : State) (set : List ℕ) (slot : ℕ) → state_right M S ≡ true → admitted M S set slot ≡ true → (wear M S set slot).code ≡ 0
      → (calls : List Call) → All (LogsStay slot) calls
      → Levels (committed_by (slot_at (final (step M) (wear M S set slot).state calls) (pred slot)))
