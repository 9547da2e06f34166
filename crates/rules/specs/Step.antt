-- The whole step: the lowest code that applies is given (14 before 10).
use Rattle.std.specs.Prelude.{not, ℕ, pred, leb, Ok, Err}
use Rattle.call.specs.declared.Step.{Step}
use Rattle.call.specs.declared.Step.TheVariants.{Begin, Read, Write, Close, Lock, Enter, Reread, Update, Ask, Reload, Ignore, Finish, Publish, GiveUp}
use Rattle.call.specs.Decode.{Decoded, decoded}
use Rattle.call.specs.declared.Undecoded.TheVariants.{IllegalWrite, IllegalUpdate, Unknown}
use Rattle.call.specs.declared.Refusal.TheVariants.{NoSuchStep, NoSuchSlot}
use Rattle.slot.specs.Logic.{◌and◌}
use Rattle.rules.specs.Model.{Model, last_step}
use Rattle.rules.specs.State.{State}
use Rattle.rules.specs.Outcome.{Outcome, refused, refuse_if}
use Rattle.rules.specs.Steps.{begin, read, write, illegal_write, close, lock, enter, reread, update, illegal_update, ask, reload, ignore, finish, publish, give_up}

-- "A step has a number, a slot, a cell and a kind, each a byte, and a word of 32 bits." Any numbers are taken here.
pub record Call : Type 0 where
  pub step : ℕ
  pub slot : ℕ
  pub cell : ℕ
  pub kind : ℕ
  pub word : ℕ

-- a step of slot i, by its row
abbrev pub row : Model → State → ℕ → Step → Outcome
row M S i Begin = begin M S i
row M S i (Read c) = read M S i c
row M S i (Write c v) = write M S i c v
row M S i Close = close M S i
row M S i Lock = lock M S i
row M S i Enter = enter M S i
row M S i (Reread c) = reread M S i c
row M S i (Update c v) = update M S i c v
row M S i (Ask c) = ask M S i c
row M S i Reload = reload M S i
row M S i Ignore = ignore M S i
row M S i Finish = finish M S i
row M S i Publish = publish M S i
row M S i GiveUp = give_up M S i

-- code 3: slot outside 1 to 8
abbrev pub inside_slots : Model → ℕ → Outcome → Outcome
inside_slots M slot o = refuse_if (not (leb 1 slot and leb slot M.slots)) NoSuchSlot o

-- then what the step's row says; without a value a write or an update gets 6 in the place of its value's tests
unfoldable pub step_of : Model → State → ℕ → Decoded → Outcome
step_of M S slot (Ok s) = inside_slots M slot (row M S (pred slot) s)
step_of M S slot (Err (IllegalWrite c)) = inside_slots M slot (illegal_write M S (pred slot) c)
step_of M S slot (Err (IllegalUpdate c)) = inside_slots M slot (illegal_update M S (pred slot) c)
step_of M S slot (Err Unknown) = refused NoSuchStep

-- code 2: step number outside 1 to 14
abbrev pub inside_steps : Model → ℕ → Outcome → Outcome
inside_steps M number o = refuse_if (not (leb 1 number and leb number (last_step M))) NoSuchStep o

unfoldable pub step : Model → State → Call → Outcome
step M S a = inside_steps M a.step (step_of M S a.slot (decoded a.step a.cell a.kind a.word))
