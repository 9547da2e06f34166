-- A sheet `s` set up in a lent area `a`: the answer, and every byte of the area.
use Rattle.std.specs.Prelude.{Bool, cond, List, ◌≡◌, ℕ, ◌+◌, leb, length, Result, Ok, Err}
use Rattle.wire.specs.Part.{splice}
use Rattle.slot.specs.Logic.{◌and◌}
use Rattle.rules.specs.Model.{controller, area_length}
use Rattle.apart.specs.Apart.{steps_length, first_step, cells_of, good_sheet}
use Rattle.stage.specs.declared.Ready.{Ready}
use Rattle.stage.specs.declared.Unready.{Unready}
use Rattle.stage.specs.declared.Unready.TheVariants.{Bad, Short}
use Rattle.stage.specs.First.{first_area, most_area}

-- how long the area of a good sheet is, and between which bytes its steps stand
unfoldable pub staged : List ℕ → Result Ready Unready
staged s =
    cond (good_sheet s)
    (Ok (record { length = area_length controller (cells_of s); first = first_step s; end = first_step s + steps_length s }))
    (Err Bad)

-- the lent area has room for the longest one
abbrev pub area_fits : List ℕ → Bool
area_fits a = leb most_area (length a)

-- with too little room, or of a bad sheet, nothing is laid out
pub record SetUp (s a : List ℕ) (r : Result Ready Unready) (b : List ℕ) : Type 0 where
  pub answer : r ≡ cond (area_fits a) (staged s) (Err Short)
  pub bytes : b ≡ cond (area_fits a and good_sheet s) (splice a 0 (first_area s)) a
