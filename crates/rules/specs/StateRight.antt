-- "Well formed" of a state, in the words of document 01. What an area has to say of zeros (idle slots, unused entries, "else 0") a state can't break.
use Rattle.std.specs.Prelude.{Bool, true, false, not, List, ℕ, eqb, ltb, leb, length, take, drop}
use Rattle.slot.specs.declared.ReadEntry.{ReadEntry}
use Rattle.slot.specs.declared.WriteEntry.{WriteEntry}
use Rattle.slot.specs.Layout.{read_capacity, write_capacity}
use Rattle.slot.specs.Logic.{◌and◌, ◌or◌, all, pairwise}
use Rattle.rules.specs.Model.{Model, last_stamp}
use Rattle.rules.specs.State.{State, Slot, idle, opened, locking, twilight, publishing, cell_count, slot_at, commit_of}
use Rattle.slot.specs.Logs.{writes_cell, some_marked}
use Rattle.rules.specs.LogsRight.{cell_right, reads_right, writes_right, no_update_lost, cell_count_right, commit_between, stamps_apart, holders_right}
use Rattle.rules.specs.declared.Cell.{Cell}

-- in every phase but idle: at most 16 entries, logs right, start at most the clock
unfoldable pub logs_right : List Cell → ℕ → ℕ → List ReadEntry → List WriteEntry → Bool
logs_right cells clock start reads writes =
    leb (length reads) read_capacity
    and leb (length writes) write_capacity
    and reads_right cells reads
    and writes_right cells writes
    and leb start clock

-- Marks are 0 before phase 3. "Taken" is never above the write count, and less than it in phase 4. The flag is 1 only if some mark is 1; in phase 4 a mark
-- requires the flag. With the flag no marked cell is also in the write log.
unfoldable pub slot_right : List Cell → ℕ → Slot → Bool
slot_right cells clock idle = true
slot_right cells clock (opened start reads writes) = logs_right cells clock start reads writes and not (some_marked reads)
slot_right cells clock (locking taken start reads writes) =
    logs_right cells clock start reads writes and leb taken (length writes) and not (some_marked reads)
slot_right cells clock (twilight ignoring start commit reads writes) =
    logs_right cells clock start reads writes
    and commit_between start commit clock
    and (not ignoring or some_marked reads)
    and no_update_lost ignoring reads writes
slot_right cells clock (publishing ignoring taken start commit reads writes) =
    logs_right cells clock start reads writes
    and ltb taken (length writes)
    and commit_between start commit clock
    and (not ignoring or some_marked reads)
    and (not (some_marked reads) or ignoring)
    and no_update_lost ignoring reads writes

-- the cells that a slot holds: in phase 2 the first "taken" of its write log, in phase 3 those in the log, in phase 4 those not among the first "taken"
unfoldable pub holds : Slot → ℕ → Bool
holds idle c = false
holds (opened start reads writes) c = false
holds (locking taken start reads writes) c = writes_cell (take taken writes) c
holds (twilight ignoring start commit reads writes) c = writes_cell writes c
holds (publishing ignoring taken start commit reads writes) c = writes_cell (drop taken writes) c

-- the clock fits its bytes, and there are as many slots as the model has
unfoldable pub shape_right : Model → State → Bool
shape_right M S = leb S.clock (last_stamp M) and eqb (length S.slots) M.slots

-- all but the holders
unfoldable pub state_right_but_holders : Model → State → Bool
state_right_but_holders M S =
    shape_right M S
    and cell_count_right M (cell_count S)
    and all (cell_right S.clock) S.cells
    and all (slot_right S.cells S.clock) S.slots
    and pairwise (λ (x y : Slot). stamps_apart (commit_of x) (commit_of y)) S.slots

unfoldable pub state_holders_right : State → Bool
state_holders_right S = holders_right S.cells (length S.slots) (λ s c. holds (slot_at S s) c)

unfoldable pub state_right : Model → State → Bool
state_right M S = state_right_but_holders M S and state_holders_right S

abbrev pub is_idle : Slot → Bool
is_idle idle = true
is_idle (opened start reads writes) = false
is_idle (locking taken start reads writes) = false
is_idle (twilight ignoring start commit reads writes) = false
is_idle (publishing ignoring taken start commit reads writes) = false

-- At rest means well formed with all slots idle.
unfoldable pub state_at_rest : Model → State → Bool
state_at_rest M S = state_right M S and all is_idle S.slots
