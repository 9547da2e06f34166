-- What a sheet's run starts from: its area, laid out. What a bad sheet prints, and how long a sheet and its area are at most.
use Rattle.std.specs.Prelude.{false, List, [], ◌∷◌, ◌≡◌, ℕ, ◌+◌, ◌*◌, ◌<◌, length, replicate}
use Rattle.rules.specs.Model.{controller, area_length}
use Rattle.rules.specs.Area.{description_size, lay_out}
use Rattle.apart.specs.Apart.{step_size, most_steps, descriptions, cells_of, good_sheet}

-- bytes as many as the area needs
abbrev pub blank : List ℕ → List ℕ
blank s = replicate (area_length controller (cells_of s)) 0

-- a fresh area with the cells that the sheet describes
abbrev pub first_area : List ℕ → List ℕ
first_area s = (lay_out controller (blank s) (descriptions s)).bytes

-- `bad sheet` and a newline
abbrev pub bad_sheet : List ℕ
bad_sheet = 98 ∷ 97 ∷ 100 ∷ 32 ∷ 115 ∷ 104 ∷ 101 ∷ 101 ∷ 116 ∷ 10 ∷ []

-- the longest good sheet: a program that reads more bytes than that, and no more, knows a longer one
abbrev pub most_sheet : ℕ
most_sheet = 5 + description_size * controller.cells + step_size * most_steps

-- the longest area
abbrev pub most_area : ℕ
most_area = area_length controller controller.cells

-- a sheet that is longer than the longest good one is bad
abbrev pub LongIsBad : Type 0
LongIsBad = (s : List ℕ) → most_sheet < length s → good_sheet s ≡ false
