-- What "well formed" says of a slot's logs, where its counts are right, and of the bytes in them.
use Rattle.std.specs.Prelude.{Bool, List, ℕ, ◌≤◌, length, get_or, drop}
use Rattle.wire.specs.Field.{field_at}
use Rattle.value.specs.Legal.{legal_word}
use Rattle.slot.specs.declared.SlotRecord.{SlotRecord}
use Rattle.slot.specs.Layout.{read_capacity, write_capacity, slot_size, slot_of}
use Rattle.slot.specs.Logic.{◌and◌}
use Rattle.slot.specs.Logs.{read_log, write_log}
use Rattle.rules.specs.Model.{controller}
use Rattle.rules.specs.Layout.{cells_in}
use Rattle.rules.specs.LogsRight.{reads_right, writes_right}
use Rattle.rules.specs.AreaRight.{zeros, unused_zero}

-- the word at `at` is legal for the kind
abbrev pub legal_at : ℕ → List ℕ → ℕ → Bool
legal_at kind l at = legal_word kind (field_at l at 4)

-- the `count` bytes from `from` on are zero
abbrev pub zeros_from : List ℕ → ℕ → ℕ → Bool
zeros_from l from count = zeros count (drop from l)

-- a slot's bytes, with counts at most the capacities
pub record Counted (l : List ℕ) : Type 0 where
  pub size : slot_size 8 ≤ length l
  pub reads : get_or l 3 0 ≤ read_capacity
  pub writes : get_or l 4 0 ≤ write_capacity

-- both logs of a slot's record, in the area a
unfoldable pub logs_right_in : List ℕ → SlotRecord → Bool
logs_right_in a v = reads_right (cells_in controller a) (read_log v) and writes_right (cells_in controller a) (write_log v)

-- both logs of the slot at the head of l
abbrev pub slot_logs_right : List ℕ → List ℕ → Bool
slot_logs_right a l = logs_right_in a (slot_of 8 l)

-- the unused entries of the slot at the head of l are zero
abbrev pub slot_unused_zero : List ℕ → Bool
slot_unused_zero l = unused_zero 8 l (slot_of 8 l)
