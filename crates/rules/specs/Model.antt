-- The numbers of a controller's model, of which all definitions are functions.
use Rattle.std.specs.Prelude.{ℕ, ◌^◌, ◌-◌, ◌<◌, ◌+◌, ◌*◌}
use Rattle.slot.specs.Layout.{slot_size}

pub record Model : Type 0 where
  -- the version byte of its area
  pub version : ℕ
  -- slots are numbered 1 to `slots`
  pub slots : ℕ
  -- a model has 1 to `cells` cells
  pub cells : ℕ
  -- the bytes of a clock, a stamp and a start
  pub stamp_bytes : ℕ

-- the base: 8 slots, up to 64 cells, stamps of 64 bits
abbrev pub controller : Model
controller = record { version = 1; slots = 8; cells = 64; stamp_bytes = 8 }

-- The clock is at most the last stamp: 2^64 − 1 for 8 bytes. It never wraps.
abbrev pub last_stamp : Model → ℕ
last_stamp M = 256 ^ M.stamp_bytes - 1

-- Steps are numbered 1 to 14.
abbrev pub last_step : Model → ℕ
last_step M = 14

-- The area: version (1), length (4), number of cells (1), clock; then the cells, then the slots.
abbrev pub header_size : Model → ℕ
header_size M = 6 + M.stamp_bytes

-- a cell: kind (1), holder (1), word (4), stamp
abbrev pub cell_size : Model → ℕ
cell_size M = 6 + M.stamp_bytes

abbrev pub size_of_slot : Model → ℕ
size_of_slot M = slot_size M.stamp_bytes

-- where cell c starts; where slot s starts among n cells (slots are counted from 0 here: slot 1 of document 01 is the one at 0)
abbrev pub cell_offset : Model → ℕ → ℕ
cell_offset M c = header_size M + cell_size M * c

abbrev pub slot_offset : Model → ℕ → ℕ → ℕ
slot_offset M n s = header_size M + cell_size M * n + size_of_slot M * s

-- the length of the whole area with n cells: 1,590 + 14 × n for the controller
abbrev pub area_length : Model → ℕ → ℕ
area_length M n = slot_offset M n M.slots

-- the model's numbers fit the bytes that hold them
pub record FitsBytes (M : Model) : Type 0 where
  pub version_fits : M.version < 256
  pub slots_fit : M.slots < 256
  pub cells_fit : M.cells < 256
  pub length_fits : area_length M M.cells < 2 ^ 32
