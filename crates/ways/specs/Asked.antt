-- What steps ask of a slot's record, in words of their rows.
use Rattle.std.specs.Prelude.{Bool, not, ℕ, leb}
use Rattle.slot.specs.declared.ReadEntry.{ReadEntry}
use Rattle.slot.specs.declared.SlotRecord.{SlotRecord}
use Rattle.slot.specs.Layout.{write_capacity}
use Rattle.slot.specs.Logic.{◌and◌}
use Rattle.slot.specs.Logs.{read_log, write_log, read_entry, writes_cell, some_marked}
use Rattle.rules.specs.Model.{controller}
use Rattle.rules.specs.State.{State, slot_at}
use Rattle.rules.specs.Layout.{lay}
use Rattle.rules.specs.Outcome.{Outcome, when_twilight, inside_cells, in_log}
use Rattle.rules.specs.Steps.{read_shared}

-- a write of the cell needs a new entry, and the write log has 16
abbrev pub no_room : SlotRecord → ℕ → Bool
no_room v c = not (writes_cell (write_log v) c) and leb write_capacity v.writecount

-- some mark and no flag
abbrev pub marked_unignored : SlotRecord → Bool
marked_unignored v = some_marked (read_log v) and not v.ignoring

-- the read of a cell that neither log of slot i has
abbrev pub shared_read : State → ℕ → ℕ → Outcome
shared_read S i c = let v = lay (slot_at S i) in read_shared controller S i c v.start (read_log v) (write_log v)

-- a row of a slot in twilight, on the entry that its read log has of the cell
abbrev pub on_entry : State → ℕ → ℕ → (ReadEntry → Outcome) → Outcome
on_entry S i c o = when_twilight (slot_at S i) λ ignoring start commit reads writes. inside_cells S c (in_log (read_entry reads c) o)
