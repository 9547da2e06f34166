-- What a step comes to: refused, which changes nothing, or accepted, with the state after it. And the tests that a step's row is made of: each goes on if it
-- holds and refuses if not, so the order of codes is the order of the tests in the text.
use Rattle.std.specs.Prelude.{Bool, cond, not, List, ℕ, eqb, leb, Ok, Err}
use Rattle.std.proofs.Math.Option.{Option, none, some}
use Rattle.value.specs.declared.CellValue.{CellValue}
use Rattle.value.specs.Legal.{legal_word}
use Rattle.value.specs.Value.{kind_of, word_of}
use Rattle.call.specs.declared.Answer.{Answer}
use Rattle.call.specs.declared.Refusal.{Refusal}
use Rattle.call.specs.Answer.{Reply}
use Rattle.call.specs.declared.Refusal.TheVariants.{NotAllowed, NoSuchCell, IllegalValue, OtherKind, NotInLog, LastStamp}
use Rattle.slot.specs.declared.ReadEntry.{ReadEntry}
use Rattle.slot.specs.declared.WriteEntry.{WriteEntry}
use Rattle.rules.specs.Model.{Model, last_stamp}
use Rattle.rules.specs.State.{State, Slot, idle, opened, locking, twilight, publishing, cell_at, cell_count}

pub data Outcome : Type 0 where
  refused : Refusal → Outcome
  accepted : Answer → State → Outcome

abbrev pub reply_of : Outcome → Reply
reply_of (refused r) = Err r
reply_of (accepted a S) = Ok a

-- the state after a step from S
abbrev pub after : State → Outcome → State
after S (refused r) = S
after S (accepted a T) = T

-- code 4, by phase
abbrev pub when_idle : Slot → Outcome → Outcome
when_idle idle o = o
when_idle (opened start reads writes) o = refused NotAllowed
when_idle (locking taken start reads writes) o = refused NotAllowed
when_idle (twilight ignoring start commit reads writes) o = refused NotAllowed
when_idle (publishing ignoring taken start commit reads writes) o = refused NotAllowed

abbrev pub when_open : Slot → (ℕ → List ReadEntry → List WriteEntry → Outcome) → Outcome
when_open idle o = refused NotAllowed
when_open (opened start reads writes) o = o start reads writes
when_open (locking taken start reads writes) o = refused NotAllowed
when_open (twilight ignoring start commit reads writes) o = refused NotAllowed
when_open (publishing ignoring taken start commit reads writes) o = refused NotAllowed

abbrev pub when_locking : Slot → (ℕ → ℕ → List ReadEntry → List WriteEntry → Outcome) → Outcome
when_locking idle o = refused NotAllowed
when_locking (opened start reads writes) o = refused NotAllowed
when_locking (locking taken start reads writes) o = o taken start reads writes
when_locking (twilight ignoring start commit reads writes) o = refused NotAllowed
when_locking (publishing ignoring taken start commit reads writes) o = refused NotAllowed

abbrev pub when_twilight : Slot → (Bool → ℕ → ℕ → List ReadEntry → List WriteEntry → Outcome) → Outcome
when_twilight idle o = refused NotAllowed
when_twilight (opened start reads writes) o = refused NotAllowed
when_twilight (locking taken start reads writes) o = refused NotAllowed
when_twilight (twilight ignoring start commit reads writes) o = o ignoring start commit reads writes
when_twilight (publishing ignoring taken start commit reads writes) o = refused NotAllowed

abbrev pub when_publishing : Slot → (Bool → ℕ → ℕ → ℕ → List ReadEntry → List WriteEntry → Outcome) → Outcome
when_publishing idle o = refused NotAllowed
when_publishing (opened start reads writes) o = refused NotAllowed
when_publishing (locking taken start reads writes) o = refused NotAllowed
when_publishing (twilight ignoring start commit reads writes) o = refused NotAllowed
when_publishing (publishing ignoring taken start commit reads writes) o = o ignoring taken start commit reads writes

-- open, locking, twilight
abbrev pub when_uncommitted : Slot → Outcome → Outcome
when_uncommitted idle o = refused NotAllowed
when_uncommitted (opened start reads writes) o = o
when_uncommitted (locking taken start reads writes) o = o
when_uncommitted (twilight ignoring start commit reads writes) o = o
when_uncommitted (publishing ignoring taken start commit reads writes) o = refused NotAllowed

-- a code is given if a test says so, else the step goes on
abbrev pub refuse_if : Bool → Refusal → Outcome → Outcome
refuse_if test r o = cond test (refused r) o

-- code 5: cell not below n
abbrev pub inside_cells : State → ℕ → Outcome → Outcome
inside_cells S c o = refuse_if (leb (cell_count S) c) NoSuchCell o

-- code 6: kind outside 1 to 3 or word illegal for it; code 7: kind differs from the cell's
abbrev pub fitting_value : State → ℕ → CellValue → Outcome → Outcome
fitting_value S c v o =
    refuse_if (not (legal_word (kind_of v) (word_of v))) IllegalValue
    (refuse_if (not (eqb (kind_of v) (cell_at S c).kind)) OtherKind
    o)

-- code 8: the cell is not in the log
abbrev pub in_log : {A : Type 0} → Option A → (A → Outcome) → Outcome
in_log none o = refused NotInLog
in_log (some e) o = o e

-- what a log has of a cell, or else something different
abbrev pub found_or : {A : Type 0} → Option A → (A → Outcome) → Outcome → Outcome
found_or none o other = other
found_or (some e) o other = o e

-- code 12: the clock is the last stamp
abbrev pub below_last_stamp : Model → State → Outcome → Outcome
below_last_stamp M S o = refuse_if (eqb S.clock (last_stamp M)) LastStamp o
