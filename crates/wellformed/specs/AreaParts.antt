-- The parts of "well formed" that one function each decides: the header, the cells, the slots and the commit stamps.
use Rattle.std.specs.Prelude.{Bool, List, ℕ}
use Rattle.slot.specs.Logic.{◌and◌, all}
use Rattle.rules.specs.Model.{controller}
use Rattle.rules.specs.Layout.{count_in, cells_in}
use Rattle.rules.specs.AreaRight.{lengths_agree, version_right}
use Rattle.rules.specs.LogsRight.{cell_count_right, cell_right}
use Rattle.slotcheck.specs.SlotParts.{slots_right, stamps_right}

-- the sentences on the header alone
unfoldable pub header_right : List ℕ → Bool
header_right a = lengths_agree controller a and version_right controller a and cell_count_right controller (count_in a)

-- the sentences on cells, at a clock
abbrev pub cells_right : ℕ → List ℕ → Bool
cells_right clock a = all (cell_right clock) (cells_in controller a)

-- the sentences on slots and commit stamps
unfoldable pub parts_right : ℕ → List ℕ → Bool
parts_right clock a = slots_right clock a and stamps_right a
