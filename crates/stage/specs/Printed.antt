-- A sheet `s` run with a lent area and a lent buffer, where it prints `text`, and `most` bytes are room for all that any sheet prints: the answer, and every byte of both.
use Rattle.std.specs.Prelude.{Bool, cond, List, ◌≡◌, ℕ, leb, length, Result, Ok, Err}
use Rattle.wire.specs.Part.{splice}
use Rattle.slot.specs.Logic.{◌and◌}
use Rattle.apart.specs.Apart.{steps, good_sheet}
use Rattle.stage.specs.declared.TooShort.{TooShort}
use Rattle.stage.specs.Calls.{end_area}
use Rattle.stage.specs.First.{first_area}
use Rattle.stage.specs.SetUp.{area_fits}

unfoldable pub roomy : ℕ → List ℕ → List ℕ → Bool
roomy most a out = area_fits a and leb most (length out)

-- the lent area after the run of a good sheet: the sheet's own area at its front
unfoldable pub area_left : List ℕ → List ℕ → List ℕ
area_left s a = cond (good_sheet s) (splice a 0 (end_area (first_area s) (steps s))) a

abbrev pub too_short : TooShort
too_short = record {}

-- with too little room nothing is done; else the text stands at the front of the buffer
pub record Printed (most : ℕ) (text s a out : List ℕ) (r : Result ℕ TooShort) (b t : List ℕ) : Type 0 where
  pub answer : r ≡ cond (roomy most a out) (Ok (length text)) (Err too_short)
  pub area : b ≡ cond (roomy most a out) (area_left s a) a
  pub bytes : t ≡ cond (roomy most a out) (splice out 0 text) out
