-- "Codes, and which comes first": the table of codes from 2 on, in the order in which they are tested. Each row says for itself when its code is given, of any state
-- and of a call of any five numbers, in the table's words: none looks at what a step does. Code 1 stands before them all, at `step_on_bytes`.
use Rattle.std.specs.Prelude.{Bool, not, cond, List, [], ◌∷◌, ℕ, pred, eqb, leb, length, get_or}
use Rattle.value.specs.Legal.{legal_word}
use Rattle.slot.specs.declared.ReadEntry.{ReadEntry}
use Rattle.slot.specs.Layout.{read_capacity, write_capacity, no_write}
use Rattle.slot.specs.Logic.{◌and◌, ◌or◌, any}
use Rattle.slot.specs.Logs.{reads_cell, writes_cell, some_marked, marked_written}
use Rattle.rules.specs.Model.{Model, last_stamp, last_step}
use Rattle.rules.specs.State.{State, Slot, cell_count, cell_at, slot_at, reads_of, writes_of, start_of, taken_of, ignoring_of}
use Rattle.rules.specs.Cells.{held_by_other, newer}
use Rattle.rules.specs.Step.{Call}
use Rattle.rules.specs.Allowed.{Row, ◌when◌, allowed}

module _ (M : Model) (S : State) (a : Call) where
  -- the call's slot, and whether a cell is held by another one. A state counts slots from 0.
  abbrev own : Slot
  own = slot_at S (pred a.slot)

  abbrev held_by_another : ℕ → Bool
  held_by_another c = held_by_other (pred a.slot) (cell_at S c)

  -- the cell is in the slot's read log; in its write log
  abbrev in_read_log : Bool
  in_read_log = reads_cell (reads_of own) a.cell

  abbrev in_write_log : Bool
  in_write_log = writes_cell (writes_of own) a.cell

  abbrev is_read : Bool
  is_read = eqb a.step 2

  abbrev is_write : Bool
  is_write = eqb a.step 3

  abbrev is_lock : Bool
  is_lock = eqb a.step 5

  abbrev is_enter : Bool
  is_enter = eqb a.step 6

  abbrev is_reread : Bool
  is_reread = eqb a.step 7

  abbrev is_update : Bool
  is_update = eqb a.step 8

  abbrev is_ask : Bool
  is_ask = eqb a.step 9

  abbrev is_reload : Bool
  is_reload = eqb a.step 10

  abbrev is_ignore : Bool
  is_ignore = eqb a.step 11

  abbrev is_finish : Bool
  is_finish = eqb a.step 12

  -- a read from the shared cell: the cell is in neither log
  abbrev reads_shared : Bool
  reads_shared = is_read and not in_write_log and not in_read_log

  -- 2: step number outside 1 to 14
  unfoldable pub step_outside : Bool
  step_outside = not (leb 1 a.step and leb a.step (last_step M))

  -- 3: slot outside 1 to 8
  unfoldable pub slot_outside : Bool
  slot_outside = not (leb 1 a.slot and leb a.slot M.slots)

  -- 4: the step is not allowed in the slot's present state
  unfoldable pub not_allowed : Bool
  not_allowed = not (allowed a.step own)

  -- 15: ignore: some marked cell is also in the slot's write log
  unfoldable pub marked_also_written : Bool
  marked_also_written = is_ignore and marked_written (reads_of own) (writes_of own)

  -- 5: read, write, reread, update, ask: cell not below n
  unfoldable pub cell_outside : Bool
  cell_outside = (is_read or is_write or is_reread or is_update or is_ask) and leb (cell_count S) a.cell

  -- 6: write, update: kind outside 1 to 3 or word illegal for it (no other kind has a legal word)
  unfoldable pub value_illegal : Bool
  value_illegal = (is_write or is_update) and not (legal_word a.kind a.word)

  -- 7: write, update: kind differs from the cell's
  unfoldable pub kind_differs : Bool
  kind_differs = (is_write or is_update) and not (eqb a.kind (cell_at S a.cell).kind)

  -- 8: reread, ask: cell not in the read log; update: not in the write log
  unfoldable pub not_in_log : Bool
  not_in_log = ((is_reread or is_ask) and not in_read_log) or (is_update and not in_write_log)

  -- 9: read or write needs a new entry and that log has 16 (it has no more where logs are right)
  unfoldable pub log_full : Bool
  log_full =
      (reads_shared and leb read_capacity (length (reads_of own)))
      or (is_write and not in_write_log and leb write_capacity (length (writes_of own)))

  -- 14: read from a shared cell that is held by another slot
  unfoldable pub read_held : Bool
  read_held = reads_shared and held_by_another a.cell

  -- 10: read from a shared cell that has a stamp above start
  unfoldable pub read_newer : Bool
  read_newer = reads_shared and newer (start_of own) (cell_at S a.cell)

  -- 11: lock: the cell is held by another, the lowest of the write log not yet taken; reload: some read cell is held by another
  unfoldable pub cell_held : Bool
  cell_held =
      (is_lock and held_by_another (get_or (writes_of own) (taken_of own) no_write).cell)
      or (is_reload and any (λ (e : ReadEntry). held_by_another e.cell) (reads_of own))

  -- 12: enter, reload: the clock is 2^64 − 1
  unfoldable pub stamps_spent : Bool
  stamps_spent = (is_enter or is_reload) and eqb S.clock (last_stamp M)

  -- in the order in which they are tested: a new code is a line in its place
  abbrev pub code_table : List Row
  code_table =
      2 when step_outside
      ∷ 3 when slot_outside
      ∷ 4 when not_allowed
      ∷ 15 when marked_also_written
      ∷ 5 when cell_outside
      ∷ 6 when value_illegal
      ∷ 7 when kind_differs
      ∷ 8 when not_in_log
      ∷ 9 when log_full
      ∷ 14 when read_held
      ∷ 10 when read_newer
      ∷ 11 when cell_held
      ∷ 12 when stamps_spent
      ∷ []

  -- "Code 13 is an outcome", of a finish with some mark and no flag; else it is 0
  unfoldable pub outcome_code : ℕ
  outcome_code = cond (is_finish and some_marked (reads_of own) and not (ignoring_of own)) 13 0

-- how a call ends by the table: refused with a code, or accepted with code 0 or 13
pub data Ending : Type 0 where
  refusal : (code : ℕ) → Ending
  outcome : (code : ℕ) → Ending

abbrev pub ending_code : Ending → ℕ
ending_code (refusal code) = code
ending_code (outcome code) = code

-- the first row that applies refuses, "and none is given otherwise"
unfoldable pub first_of : List Row → Ending → Ending
first_of [] otherwise = otherwise
first_of (code when applies ∷ rows) otherwise = cond applies (refusal code) (first_of rows otherwise)

unfoldable pub table_ending : Model → State → Call → Ending
table_ending M S a = first_of (code_table M S a) (outcome (outcome_code M S a))
