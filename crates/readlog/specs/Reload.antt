-- What the cells say of a slot's read log, in an area `l`: its marks at enter, its words at reload, and the first cell that stands in reload's way.
use Rattle.std.specs.Prelude as code
use Rattle.std.specs.Prelude.{List, map, ℕ}
use Rattle.std.proofs.Math.Option.{Option, none, some}
use Rattle.slot.specs.declared.ReadEntry.{ReadEntry}
use Rattle.slot.specs.Logs.{read_log, padded_reads}
use Rattle.rules.specs.State.{State, cell_at}
use Rattle.rules.specs.Cells.{with_mark, reloaded, obstacle}
use Rattle.area.specs.Good.{state_in}
use Rattle.area.specs.InPlace.{record_at}
use Rattle.readlog.specs.declared.Held.{Held}

-- slot i's read log with each entry changed by f, in its array
abbrev pub changed_reads : List ℕ → ℕ → (ReadEntry → ReadEntry) → List ReadEntry
changed_reads l i f = padded_reads (map f (read_log (record_at l i)))

abbrev pub marked_reads : List ℕ → ℕ → List ReadEntry
marked_reads l i = changed_reads l i (with_mark (state_in l) i (record_at l i).start)

abbrev pub reloaded_reads : List ℕ → ℕ → List ReadEntry
reloaded_reads l i = changed_reads l i (reloaded (state_in l))

-- the cell of an entry that was found, and its holder
abbrev pub obstacle_of : State → Option ReadEntry → code.Option Held
obstacle_of S none = code.None
obstacle_of S (some e) = code.Some (record { cell = e.cell; holder = (cell_at S e.cell).holder })

abbrev pub obstacle_in : List ℕ → ℕ → code.Option Held
obstacle_in l i = obstacle_of (state_in l) (obstacle (state_in l) i (read_log (record_at l i)))
