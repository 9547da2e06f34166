-- What a step leaves alone, and what it goes by. Slot i is counted from 0: it is slot i + 1 of document 01.
use Rattle.std.specs.Prelude.{Bool, true, false, ◌≡◌, ℕ, pred, eqb, length, Ok, Err}
use Rattle.call.specs.declared.Step.{Step}
use Rattle.call.specs.declared.Step.TheVariants.{Begin, Read, Write, Close, Lock, Enter, Reread, Update, Ask, Reload, Ignore, Finish, Publish, GiveUp}
use Rattle.call.specs.Decode.{Decoded, decoded}
use Rattle.call.specs.declared.Undecoded.TheVariants.{IllegalWrite, IllegalUpdate, Unknown}
use Rattle.slot.specs.Logic.{◌or◌}
use Rattle.rules.specs.Model.{Model}
use Rattle.rules.specs.State.{State, Slot, cell_count, cell_at, slot_at, reads_of, writes_of}
use Rattle.slot.specs.Logs.{reads_cell, writes_cell}
use Rattle.rules.specs.StateRight.{state_right}
use Rattle.rules.specs.Outcome.{Outcome, reply_of, after}
use Rattle.rules.specs.Step.{Call, row, step}

-- the cell that a step names
abbrev pub names_cell : Step → ℕ → Bool
names_cell Begin c = false
names_cell (Read d) c = eqb d c
names_cell (Write d v) c = eqb d c
names_cell Close c = false
names_cell Lock c = false
names_cell Enter c = false
names_cell (Reread d) c = eqb d c
names_cell (Update d v) c = eqb d c
names_cell (Ask d) c = eqb d c
names_cell Reload c = false
names_cell Ignore c = false
names_cell Finish c = false
names_cell Publish c = false
names_cell GiveUp c = false

-- .. and the cell that a call names, if its step uses one
abbrev pub named_by : Decoded → ℕ → Bool
named_by (Ok s) c = names_cell s c
named_by (Err (IllegalWrite d)) c = eqb d c
named_by (Err (IllegalUpdate d)) c = eqb d c
named_by (Err Unknown) c = false

abbrev pub call_names : Call → ℕ → Bool
call_names a = named_by (decoded a.step a.cell a.kind a.word)

-- a cell that is named, or is in one of the slot's logs
unfoldable pub concerns : (ℕ → Bool) → Slot → ℕ → Bool
concerns names x c = names c or reads_cell (reads_of x) c or writes_cell (writes_of x) c

-- two states with the same clock, the same n and the same slot i, and with the same cells where slot i, or what it names, is concerned
pub record Alike (S S' : State) (i : ℕ) (names : ℕ → Bool) : Type 0 where
  pub clock : S.clock ≡ S'.clock
  pub count : cell_count S ≡ cell_count S'
  pub slot : slot_at S i ≡ slot_at S' i
  pub cells : (c : ℕ) → concerns names (slot_at S i) c ≡ true → cell_at S c ≡ cell_at S' c

-- A step of slot i: what it comes to, from each state.
pub record StepFrame (M : Model) (i : ℕ) (names : ℕ → Bool) (does : State → Outcome) : Type 0 where
  -- It changes no other slot.
  pub other_slots : (S : State) (j : ℕ) → (j ≡ i → ⊥) → slot_at (after S (does S)) j ≡ slot_at S j
  -- Of the cells it changes only those in its write log.
  pub other_cells : (S : State) (c : ℕ) → state_right M S ≡ true → writes_cell (writes_of (slot_at S i)) c ≡ false → cell_at (after S (does S)) c ≡ cell_at S c
  -- Its reply depends only on its slot, n, the clock and the cells that it names or logs ..
  pub same_reply : (S S' : State) → Alike S S' i names → reply_of (does S) ≡ reply_of (does S')
  -- .. and so do the clock and its slot after it (where there are as many slots), and a cell after it depends besides on that cell.
  pub same_clock : (S S' : State) → Alike S S' i names → (after S (does S)).clock ≡ (after S' (does S')).clock
  pub same_slot : (S S' : State) → Alike S S' i names → length S.slots ≡ length S'.slots → slot_at (after S (does S)) i ≡ slot_at (after S' (does S')) i
  pub same_cell : (S S' : State) (c : ℕ) → Alike S S' i names → cell_at S c ≡ cell_at S' c → cell_at (after S (does S)) c ≡ cell_at (after S' (does S')) c

pub record Frame (M : Model) : Type 0 where
  -- a step of slot i, by its row; and a call, with any numbers
  pub steps : (i : ℕ) (s : Step) → StepFrame M i (names_cell s) (λ S. row M S i s)
  pub calls : (a : Call) → StepFrame M (pred a.slot) (call_names a) (λ S. step M S a)
  -- Apart from enter (6) and reload (10) it doesn't change the clock.
  pub step_clock : (S : State) (i : ℕ) (s : Step) → (s ≡ Enter → ⊥) → (s ≡ Reload → ⊥) → (after S (row M S i s)).clock ≡ S.clock
  pub call_clock : (S : State) (a : Call) → (a.step ≡ 6 → ⊥) → (a.step ≡ 10 → ⊥) → (after S (step M S a)).clock ≡ S.clock
