-- The parts of the lay-out from descriptions `ds`: the test of their kinds and words, and the bytes of a fresh area.
use Rattle.std.specs.Prelude.{Bool, List, ◌∷◌, ◌++◌, ℕ, ◌*◌, drop}
use Rattle.value.specs.Legal.{legal_word}
use Rattle.wire.specs.Field.{to_be}
use Rattle.wire.specs.Table.{cat}
use Rattle.slot.specs.Logic.{all}
use Rattle.slot.specs.Layout.{empty, slot_bytes}
use Rattle.rules.specs.Model.{controller, area_length}
use Rattle.rules.specs.Layout.{cell_bytes}
use Rattle.rules.specs.Area.{described_cell, described_cells}
use Rattle.rules.specs.declared.Cell.{Cell}

-- kinds and words legal
abbrev pub legal_cell : Cell → Bool
legal_cell x = legal_word x.kind x.word

abbrev pub described_legal : List ℕ → Bool
described_legal ds = all legal_cell (described_cells ds)

-- the parts of a fresh area with n cells: the clock is 0, and each slot is empty
abbrev pub fresh_header : ℕ → List ℕ
fresh_header n = (1 ∷ to_be 4 (area_length controller n)) ++ (n ∷ to_be 8 0)

abbrev pub fresh_cells : ℕ → List ℕ → List ℕ
fresh_cells n ds = cat n (λ c. cell_bytes 8 (described_cell (drop (5 * c) ds)))

abbrev pub fresh_slots : List ℕ
fresh_slots = cat 8 (λ i. slot_bytes 8 empty)
