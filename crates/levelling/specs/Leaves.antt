-- What the reads give, and what the operation leaves in the transaction's logs.
use Rattle.std.specs.Prelude.{Bool, true, false, List, [], ◌∷◌, map, ◌⊎◌, ◌≡◌, ℕ, suc, pred, ◌<◌, ◌≤◌, length, get_or, take, None, Some}
use Rattle.slot.specs.declared.ReadEntry.{ReadEntry}
use Rattle.slot.specs.declared.WriteEntry.{WriteEntry}
use Rattle.slot.specs.Logic.{◌or◌}
use Rattle.rules.specs.Model.{Model}
use Rattle.rules.specs.State.{State, opened, cell_at, slot_at, start_of, turn}
use Rattle.rules.specs.StateRight.{state_right}
use Rattle.rules.specs.Cells.{held_by_other, newer}
use Rattle.history.specs.InTheWay.{InTheWay}
use Rattle.pick.specs.Groups.{erases_place, erases}
use Rattle.pick.specs.Pick.{negative_at, picked}
use Rattle.wearset.specs.WearSet.{group_count}
use Rattle.level.specs.Level.{going, read_first, Levelled}
use Rattle.wear.specs.Wear.{wear}
use Rattle.levelling.specs.AsCalls.{admitted}

-- the read log's entry of a cell that is read, and the words of cells
abbrev pub entry_of : State → ℕ → ReadEntry
entry_of S c = record { cell = c; mark = false; word = (cell_at S c).word }

abbrev pub words_of : State → List ℕ → List ℕ
words_of S cells = map (λ c. (cell_at S c).word) cells

-- the state with these logs in the slot, and nothing else changed
abbrev pub with_logs : State → ℕ → List ℕ → List WriteEntry → State
with_logs S slot cells writes =
    turn S (pred slot) S.clock S.cells (opened (start_of (slot_at S (pred slot))) (map (entry_of S) cells) writes)

-- another slot holds the cell; it has a stamp above the transaction's start; either way it can't be read
abbrev pub held : State → ℕ → ℕ → Bool
held S slot c = held_by_other (pred slot) (cell_at S c)

abbrev pub is_newer : State → ℕ → ℕ → Bool
is_newer S slot c = newer (start_of (slot_at S (pred slot))) (cell_at S c)

abbrev pub unreadable : State → ℕ → ℕ → Bool
unreadable S slot c = held S slot c or is_newer S slot c

-- the entry that raises group g's count
abbrev pub raised_entry : State → List ℕ → ℕ → WriteEntry
raised_entry S set g = record { cell = get_or set (erases_place g) 0; word = suc (erases (words_of S set) g) }

-- the pick rule gives the group that is answered, no count is negative, and the group's entry alone is written
abbrev pub PickWritten : State → List ℕ → ℕ → Levelled → Type 0
PickWritten S set slot w =
    (picked (words_of S set) (group_count set) ≡ Some w.word)
    × (negative_at (words_of S set) (group_count set) ≡ None)
    × (w.state ≡ with_logs S slot set (raised_entry S set w.word ∷ []))

-- What an operation w that has begun comes to.
pub record Left (M : Model) (S : State) (set : List ℕ) (slot : ℕ) (w : Levelled) : Type 0 where
  -- 14 and 10 are the only core codes that can come.
  pub codes : (w.code ≡ 0) ⊎ (w.code ≡ 14) ⊎ (w.code ≡ 10) ⊎ (w.code ≡ 33) ⊎ (w.code ≡ 34)
  -- Each of the two comes at the first cell of the set that can't be read, and leaves the reads before it in the log.
  pub conflicts : (w.code ≡ 14) ⊎ (w.code ≡ 10)
      → (w.place < length set)
      × (unreadable S slot (get_or set w.place 0) ≡ true)
      × ((earlier : ℕ) → earlier < w.place → unreadable S slot (get_or set earlier 0) ≡ false)
      × (w.state ≡ with_logs S slot (take w.place set) [])
  -- 14: kind 2, and the word is the slot in the way: another one, which holds that cell.
  pub read_held : w.code ≡ 14 → (w.kind ≡ 2) × InTheWay M S slot (get_or set w.place 0) w.word
  -- 10: kind and word 0. No other slot holds that cell; its stamp is above the start.
  pub read_newer : w.code ≡ 10
      → (w.kind ≡ 0)
      × (w.word ≡ 0)
      × (held S slot (get_or set w.place 0) ≡ false)
      × (is_newer S slot (get_or set w.place 0) ≡ true)
  -- 33 and 34 leave all reads in the log, and nothing written.
  pub unwritten : 33 ≤ w.code → w.state ≡ with_logs S slot set []
  -- A group is picked: its write is done. The log has the one entry.
  pub written : w.code ≡ 0 → PickWritten S set slot w

pub record Leaves (M : Model) : Type 0 where
  -- All cells are read: each can be, the words are the shared cells', every cell is in the read log, and nothing is written.
  pub all_read : (S : State) (set : List ℕ) (slot : ℕ) (words : List ℕ) (T : State) → state_right M S ≡ true → admitted M S set slot ≡ true
      → read_first M S slot set (length set) ≡ going words T
      → (words ≡ words_of S set) × (T ≡ with_logs S slot set []) × ((place : ℕ) → place < length set → unreadable S slot (get_or set place 0) ≡ false)
  -- the operation, once it has begun
  pub operation : (S : State) (set : List ℕ) (slot : ℕ) → state_right M S ≡ true → admitted M S set slot ≡ true → Left M S set slot (wear M S set slot)
