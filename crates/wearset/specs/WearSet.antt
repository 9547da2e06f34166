-- "A wear set has g block groups, 1 to 8, each with a truth cell (usable) and a whole-number cell (erases), 2 × g distinct cells." Its description has 2 × g bytes, group by group
-- the truth cell, then the erases cell.
use Rattle.std.specs.Prelude.{Bool, not, List, ℕ, ◌+◌, ◌/◌, ◌%◌, eqb, ltb, leb, length, get_or}
use Rattle.slot.specs.Logic.{◌and◌, every}
use Rattle.rules.specs.State.{State, cell_count, cell_at}

-- g
abbrev pub group_count : List ℕ → ℕ
group_count set = length set / 2

-- g from 1 to 8: an odd length, no byte, or more than 16 is a bad set
unfoldable pub set_length_right : ℕ → Bool
set_length_right n = eqb (n % 2) 0 and leb 1 n and leb n 16

-- the kind that the cell at a place has to be of: 1 at even places (usable), 2 at odd ones (erases)
abbrev pub kind_due : ℕ → ℕ
kind_due place = 1 + place % 2

-- a cell at a place: below n, and of the kind due
unfoldable pub cell_fits : State → ℕ → ℕ → Bool
cell_fits S place c = ltb c (cell_count S) and eqb (cell_at S c).kind (kind_due place)

-- .. and not one that stands before it
unfoldable pub place_right : State → List ℕ → ℕ → Bool
place_right S set place =
    let c = get_or set place 0 in
    cell_fits S place c and every place (λ earlier. not (eqb (get_or set earlier 0) c))

unfoldable pub set_right : State → List ℕ → Bool
set_right S set = set_length_right (length set) and every (length set) (place_right S set)
