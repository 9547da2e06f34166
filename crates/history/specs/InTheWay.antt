-- "Tell us who is in the way": what kind and word of the codes 11 and 14 say, so that a scheduler can rely on it.
use Rattle.std.specs.Prelude.{true, false, ◌⊎◌, ◌≡◌, ℕ, pred, ◌/◌, ◌%◌, ◌<◌, ◌≤◌, length, get_or}
use Rattle.call.specs.Answer.{Reply, reply_code, reply_kind, reply_word}
use Rattle.slot.specs.Layout.{no_read, no_write}
use Rattle.rules.specs.Model.{Model}
use Rattle.rules.specs.State.{State, cell_count, cell_at, slot_at, reads_of, writes_of, taken_of}
use Rattle.rules.specs.StateRight.{holds, state_right}
use Rattle.rules.specs.Cells.{held_by_other}
use Rattle.rules.specs.Outcome.{reply_of}
use Rattle.rules.specs.Step.{Call, step}

-- A slot is in the caller's way at cell c: it is a slot of the model other than the caller's, and it really holds that cell.
pub record InTheWay (M : Model) (S : State) (caller c holder : ℕ) : Type 0 where
  pub from_one : 1 ≤ holder
  pub to_last : holder ≤ M.slots
  pub another : holder ≡ caller → ⊥
  pub inside : c < cell_count S
  -- the cell has it as its holder, and its own log and phase say the same
  pub named : (cell_at S c).holder ≡ holder
  pub holding : holds (slot_at S (pred holder)) c ≡ true

-- What code, kind and word say to a call that another slot's hold has refused.
pub record SaysHeld (M : Model) (S : State) (a : Call) (code kind word : ℕ) : Type 0 where
  -- 14, of a read alone: kind 2, and the word is the holder of the cell that was to be read.
  pub read_held : code ≡ 14 → (a.step ≡ 2) × (kind ≡ 2) × InTheWay M S a.slot a.cell word
  -- 11, of a lock or a reload: kind 2, and the word is cell × 256 + holder.
  pub cell_held : code ≡ 11 → ((a.step ≡ 5) ⊎ (a.step ≡ 10)) × (kind ≡ 2) × InTheWay M S a.slot (word / 256) (word % 256)
  -- The cell of a lock is the lowest of the write log not yet taken ..
  pub lock_next : code ≡ 11 → a.step ≡ 5
      → let own = slot_at S (pred a.slot) in
      (taken_of own < length (writes_of own)) × ((get_or (writes_of own) (taken_of own) no_write).cell ≡ word / 256)
  -- .. and that of a reload "the first such cell in read-log order".
  pub reload_first : code ≡ 11 → a.step ≡ 10
      → let reads = reads_of (slot_at S (pred a.slot)) in
      (place : ℕ)
      × (place < length reads)
      × ((get_or reads place no_read).cell ≡ word / 256)
      × ((earlier : ℕ) → earlier < place → held_by_other (pred a.slot) (cell_at S (get_or reads earlier no_read).cell) ≡ false)

-- .. of a reply
abbrev pub Says : Model → State → Call → Reply → Type 0
Says M S a r = SaysHeld M S a (reply_code r) (reply_kind r) (reply_word r)

-- .. from any well-formed state, and to a call of any five numbers
pub record TellsWho (M : Model) : Type 0 where
  pub tells : (S : State) (a : Call) → state_right M S ≡ true → Says M S a (reply_of (step M S a))
