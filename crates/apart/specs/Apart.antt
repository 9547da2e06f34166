-- A step sheet's bytes, big-endian: version; a 2-byte length and the descriptions; a 2-byte length and the steps. Its parts, and its faults.
use Rattle.std.specs.Prelude.{Bool, cond, List, ℕ, ◌+◌, ◌*◌, ◌/◌, eqb, leb, length, get_or, take, drop, Option, Some, None}
use Rattle.wire.specs.Field.{be, field_at}
use Rattle.slot.specs.Logic.{◌and◌}
use Rattle.rules.specs.Model.{controller}
use Rattle.rules.specs.LogsRight.{cell_count_right}
use Rattle.rules.specs.Area.{description_size}
use Rattle.fresh.specs.Parts.{described_legal}
use Rattle.apart.specs.declared.Parts.{Parts}

-- the byte at `at`, 0 past the end, and the word of a step
abbrev pub byte_at : List ℕ → ℕ → ℕ
byte_at s at = get_or s at 0

abbrev pub step_word : List ℕ → ℕ
step_word s = field_at s 4 4

-- steps of 8 bytes, at most 4,096
abbrev pub step_size : ℕ
step_size = 8

abbrev pub most_steps : ℕ
most_steps = 4096

-- the version, and the two lengths
abbrev pub version_of : List ℕ → ℕ
version_of s = byte_at s 0

abbrev pub described_length : List ℕ → ℕ
described_length s = be 2 (drop 1 s)

abbrev pub steps_length : List ℕ → ℕ
steps_length s = be 2 (drop (3 + described_length s) s)

-- where the first step stands
abbrev pub first_step : List ℕ → ℕ
first_step s = 5 + described_length s

abbrev pub descriptions : List ℕ → List ℕ
descriptions s = take (described_length s) (drop 3 s)

abbrev pub steps : List ℕ → List ℕ
steps s = take (steps_length s) (drop (first_step s) s)

abbrev pub cells_of : List ℕ → ℕ
cells_of s = described_length s / description_size

abbrev pub steps_of : List ℕ → ℕ
steps_of s = steps_length s / step_size

-- no byte is missing or left over
unfoldable pub whole_sheet : List ℕ → Bool
whole_sheet s = eqb (length s) (first_step s + steps_length s)

-- n pieces of `piece` bytes, if n is from `least` to `most`
unfoldable pub pieces_of : (size piece least most : ℕ) → Option ℕ
pieces_of size piece least most =
    let n = size / piece in
    cond (eqb (piece * n) size and leb least n and leb n most) (Some n) None

-- a multiple of 5, and n from 1 to 64
unfoldable pub described_right : ℕ → Bool
described_right size = eqb (description_size * (size / description_size)) size and cell_count_right controller (size / description_size)

-- a multiple of 8, and not too many steps
unfoldable pub steps_right : ℕ → Bool
steps_right size = eqb (step_size * (size / step_size)) size and leb (size / step_size) most_steps

-- If the version is not 1, a byte is missing or left over, a length is no multiple of 5 or 8, n is not 1 to 64, a description is illegal, or there
-- are too many steps, the sheet is bad.
unfoldable pub good_sheet : List ℕ → Bool
good_sheet s =
    eqb (version_of s) 1
    and whole_sheet s
    and described_right (described_length s)
    and steps_right (steps_length s)
    and described_legal (descriptions s)

-- the parts of a good sheet
unfoldable pub taken_apart : List ℕ → Option Parts
taken_apart s = cond (good_sheet s) (Some (record { cells = cells_of s; first = first_step s; steps = steps_of s })) None
