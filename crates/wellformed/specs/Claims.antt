-- Which cells a slot claims, and what is due to each cell: the slot that has to hold it.
use Rattle.std.specs.Prelude.{Bool, true, not, cond, List, ◌≡◌, ℕ, ◌+◌, ◌*◌, ◌<◌, ◌≤◌, eqb, leb, length, get_or, drop}
use Rattle.wire.specs.Table.{tab}
use Rattle.value.specs.Legal.{legal_word}
use Rattle.slot.specs.Layout.{write_capacity, write_size, writes_at, slot_size, write_of}
use Rattle.slot.specs.Logic.{◌and◌, ◌or◌, every}
use Rattle.slot.specs.Logs.{writes_cell}
use Rattle.rules.specs.Model.{controller}
use Rattle.rules.specs.declared.Cell.{Cell}
use Rattle.rules.specs.Layout.{cell_of, count_in, clock_in}
use Rattle.slotcheck.specs.SlotParts.{slot_right_in}

-- the holder's byte of cell c
abbrev pub holder_in : List ℕ → ℕ → ℕ
holder_in a c = get_or a (14 + 14 * c + 1) 0

-- the cell is in the part `from` to `to` of the write log of the slot at the head of l
unfoldable pub in_part : List ℕ → ℕ → ℕ → ℕ → Bool
in_part l from to c = writes_cell (drop from (tab to (λ i. write_of (drop (writes_at 8 + write_size * i) l)))) c

-- a slot that has to hold the cells of which H holds is the holder of each of them
unfoldable pub claim_right : ℕ → (ℕ → ℕ) → (ℕ → Bool) → ℕ → Bool
claim_right n holder H slot = every n (λ c. not (H c) or eqb (holder c) slot)

-- a part of a write log that may be read, with cells below n
pub record Part (n : ℕ) (l : List ℕ) (from to : ℕ) : Type 0 where
  pub size : slot_size 8 ≤ length l
  pub order : from ≤ to
  pub within : to ≤ write_capacity
  pub below : (i : ℕ) → i < to → get_or l (writes_at 8 + write_size * i) 0 < n

-- the bytes of a slot that is right but for the holders, in the area a
pub record SlotRight (a l : List ℕ) : Type 0 where
  pub size : slot_size 8 ≤ length l
  pub right : slot_right_in a (clock_in controller a) l ≡ true

-- whether the claim is right in the area a; if so, the slot is now due to each cell that it claims, and nothing else has changed
pub record Claimed (a : List ℕ) (H : ℕ → Bool) (slot : ℕ) (r : Bool) (before after : List ℕ) : Type 0 where
  pub right : r ≡ claim_right (count_in a) (holder_in a) H slot
  pub laid : r ≡ true → (c : ℕ) → c < count_in a → get_or after c 0 ≡ cond (H c) slot (get_or before c 0)

-- a cell whose holder is the slot due to it, and that is right
unfoldable pub cell_due : ℕ → ℕ → Cell → Bool
cell_due clock due x = eqb x.holder due and leb x.stamp clock and legal_word x.kind x.word

-- the first n cells of an area, with what is due to each
abbrev pub cells_due : ℕ → List ℕ → List ℕ → ℕ → Bool
cells_due clock due a n = every n (λ c. cell_due clock (get_or due c 0) (cell_of 8 (drop (14 + 14 * c) a)))
