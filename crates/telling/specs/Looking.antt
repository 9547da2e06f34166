-- What is looked at before a step, for any bytes: whether a log of the slot has the cell, and the slot's record.
use Rattle.std.specs.Prelude.{false, cond, List, ℕ, pred, ◌+◌, leb, length, drop}
use Rattle.slot.specs.Logic.{◌or◌}
use Rattle.slot.specs.Layout.{empty, slot_of, slot_size}
use Rattle.slot.specs.Logs.{read_log, write_log, reads_cell, writes_cell}
use Rattle.slot.specs.Fields.{without_reads}
use Rattle.slot.specs.declared.SlotRecord.{SlotRecord}
use Rattle.rules.specs.Model.{controller, slot_offset}
use Rattle.rules.specs.Layout.{count_in}
use Rattle.telling.specs.declared.Before.{Before}

-- what an effect tells of a slot's record before the step
abbrev pub before_of : SlotRecord → ℕ → Before
before_of v cell = record { logged = writes_cell (write_log v) cell or reads_cell (read_log v) cell; own = without_reads v }

-- where a slot starts in an area, as the area's own n says
abbrev pub slot_start : List ℕ → ℕ → ℕ
slot_start a slot = slot_offset controller (count_in a) (pred slot)

-- where the area ends before the slot does, there is nothing to see
unfoldable pub looked_at : List ℕ → ℕ → ℕ → Before
looked_at a slot cell =
    cond (leb (slot_start a slot + slot_size 8) (length a))
    (before_of (slot_of 8 (drop (slot_start a slot) a)) cell)
    (record { logged = false; own = empty })
