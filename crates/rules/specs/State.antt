-- The state: the clock, the cells, and the slots, each with just what its phase keeps.
use Rattle.std.specs.Prelude.{Bool, true, false, List, [], ℕ, length, get_or, set}
use Rattle.slot.specs.declared.ReadEntry.{ReadEntry}
use Rattle.slot.specs.declared.WriteEntry.{WriteEntry}
use Rattle.rules.specs.declared.Cell.{Cell}

-- Phases: 0 idle, 1 open, 2 locking, 3 twilight, 4 publishing. The read log is in order of first read, the write log in ascending order of cell.
pub data Slot : Type 0 where
  idle : Slot
  opened : (start : ℕ) (reads : List ReadEntry) (writes : List WriteEntry) → Slot
  locking : (taken start : ℕ) (reads : List ReadEntry) (writes : List WriteEntry) → Slot
  twilight : (ignoring : Bool) (start commit : ℕ) (reads : List ReadEntry) (writes : List WriteEntry) → Slot
  publishing : (ignoring : Bool) (taken start commit : ℕ) (reads : List ReadEntry) (writes : List WriteEntry) → Slot

-- Slots are counted from 0: slot 1 of document 01 stands at 0. Cells are counted from 0, as there.
pub record State : Type 0 where
  -- the last stamp given
  pub clock : ℕ
  pub cells : List Cell
  pub slots : List Slot

-- n
abbrev pub cell_count : State → ℕ
cell_count S = length S.cells

abbrev pub no_cell : Cell
no_cell = record { kind = 0; holder = 0; word = 0; stamp = 0 }

abbrev pub cell_at : State → ℕ → Cell
cell_at S c = get_or S.cells c no_cell

abbrev pub slot_at : State → ℕ → Slot
slot_at S i = get_or S.slots i idle

-- the state in which slot i, the clock and the cells are new, and every other slot is as it was
abbrev pub turn : State → ℕ → ℕ → List Cell → Slot → State
turn S i clock cells slot = record { clock = clock; cells = cells; slots = set S.slots i slot }

-- what a slot keeps, for rules that hold in several phases
abbrev pub reads_of : Slot → List ReadEntry
reads_of idle = []
reads_of (opened start reads writes) = reads
reads_of (locking taken start reads writes) = reads
reads_of (twilight ignoring start commit reads writes) = reads
reads_of (publishing ignoring taken start commit reads writes) = reads

abbrev pub writes_of : Slot → List WriteEntry
writes_of idle = []
writes_of (opened start reads writes) = writes
writes_of (locking taken start reads writes) = writes
writes_of (twilight ignoring start commit reads writes) = writes
writes_of (publishing ignoring taken start commit reads writes) = writes

abbrev pub start_of : Slot → ℕ
start_of idle = 0
start_of (opened start reads writes) = start
start_of (locking taken start reads writes) = start
start_of (twilight ignoring start commit reads writes) = start
start_of (publishing ignoring taken start commit reads writes) = start

-- "Taken" is locks taken in phase 2, cells published in phase 4, else 0.
abbrev pub taken_of : Slot → ℕ
taken_of idle = 0
taken_of (opened start reads writes) = 0
taken_of (locking taken start reads writes) = taken
taken_of (twilight ignoring start commit reads writes) = 0
taken_of (publishing ignoring taken start commit reads writes) = taken

-- The commit stamp is 0 in phases 0 to 2.
abbrev pub commit_of : Slot → ℕ
commit_of idle = 0
commit_of (opened start reads writes) = 0
commit_of (locking taken start reads writes) = 0
commit_of (twilight ignoring start commit reads writes) = commit
commit_of (publishing ignoring taken start commit reads writes) = commit

-- The ignoring flag is 0 before phase 3.
abbrev pub ignoring_of : Slot → Bool
ignoring_of idle = false
ignoring_of (opened start reads writes) = false
ignoring_of (locking taken start reads writes) = false
ignoring_of (twilight ignoring start commit reads writes) = ignoring
ignoring_of (publishing ignoring taken start commit reads writes) = ignoring

-- the phases
abbrev pub is_open : Slot → Bool
is_open idle = false
is_open (opened start reads writes) = true
is_open (locking taken start reads writes) = false
is_open (twilight ignoring start commit reads writes) = false
is_open (publishing ignoring taken start commit reads writes) = false

abbrev pub is_locking : Slot → Bool
is_locking idle = false
is_locking (opened start reads writes) = false
is_locking (locking taken start reads writes) = true
is_locking (twilight ignoring start commit reads writes) = false
is_locking (publishing ignoring taken start commit reads writes) = false

abbrev pub is_twilight : Slot → Bool
is_twilight idle = false
is_twilight (opened start reads writes) = false
is_twilight (locking taken start reads writes) = false
is_twilight (twilight ignoring start commit reads writes) = true
is_twilight (publishing ignoring taken start commit reads writes) = false

abbrev pub is_publishing : Slot → Bool
is_publishing idle = false
is_publishing (opened start reads writes) = false
is_publishing (locking taken start reads writes) = false
is_publishing (twilight ignoring start commit reads writes) = false
is_publishing (publishing ignoring taken start commit reads writes) = true
