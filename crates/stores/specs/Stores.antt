-- What each store leaves of an area `l`: slot i's record v stored, but for what stays of its logs, and with it what the step changed besides.
use Rattle.std.specs.Prelude.{cond, List, ◌≡◌, ℕ, eqb, get_or, set}
use Rattle.wire.specs.Part.{splice}
use Rattle.slot.specs.declared.SlotRecord.{SlotRecord}
use Rattle.slot.specs.Fields.{turned_to, with_last, with_reads_of, with_writes_of}
use Rattle.rules.specs.Model.{controller}
use Rattle.rules.specs.State.{State, turn}
use Rattle.rules.specs.Cells.{free_all}
use Rattle.rules.specs.Layout.{cell_bytes, lay, view, pack}
use Rattle.rules.specs.declared.Cell.{Cell}
use Rattle.area.specs.Good.{state_in}
use Rattle.area.specs.InPlace.{clock_now, record_at}

-- a record in canonical form: the one that its slot lays down
abbrev pub Canonical : SlotRecord → Type 0
Canonical w = lay (view w) ≡ w

-- slot i's record w stored, with a clock and cells
abbrev pub stored : List ℕ → ℕ → ℕ → List Cell → SlotRecord → List ℕ
stored l i clock cells w = pack controller (turn (state_in l) i clock cells (view w))

-- the logs as they stand, or none if the slot turns idle; and with it cell c
abbrev pub stored_fields : List ℕ → ℕ → SlotRecord → List ℕ
stored_fields l i v = stored l i (clock_now l) (state_in l).cells (turned_to (record_at l i) v)

abbrev pub stored_fields_cell : List ℕ → ℕ → SlotRecord → ℕ → Cell → List ℕ
stored_fields_cell l i v c x = stored l i (clock_now l) (set (state_in l).cells c x) (turned_to (record_at l i) v)

-- the logs as they stand, with the last entry of v put in the read log
abbrev pub stored_read : List ℕ → ℕ → SlotRecord → List ℕ
stored_read l i v = stored l i (clock_now l) (state_in l).cells (with_last (record_at l i) v)

-- the read log as it stands; the write log as it stands, and with it the clock
abbrev pub stored_writes : List ℕ → ℕ → SlotRecord → List ℕ
stored_writes l i v = stored l i (clock_now l) (state_in l).cells (with_reads_of (record_at l i) v)

abbrev pub stored_reads_clock : List ℕ → ℕ → SlotRecord → ℕ → List ℕ
stored_reads_clock l i v clock = stored l i clock (state_in l).cells (with_writes_of (record_at l i) v)

-- all cells freed that the slot holds
abbrev pub stored_freed : List ℕ → ℕ → SlotRecord → List ℕ
stored_freed l i v = stored l i (clock_now l) (free_all i (state_in l).cells) v

-- a cell put at `at`
abbrev pub cell_put : List ℕ → ℕ → Cell → List ℕ
cell_put l at x = splice l at (cell_bytes 8 x)

-- the state in which all cells that slot i holds are freed
abbrev pub freed_cells : ℕ → State → State
freed_cells i S = record { clock = S.clock; cells = free_all i S.cells; slots = S.slots }

-- the byte at `at` cleared if it is `holder`
unfoldable pub holder_freed : List ℕ → ℕ → ℕ → List ℕ
holder_freed l at holder = cond (eqb (get_or l at 0) holder) (set l at 0) l
