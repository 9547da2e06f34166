-- The area as bytes, big-endian throughout: version, length, n, clock; the cells; the slots. `pack` lays a state down, `state_of` reads one off any bytes.
use Rattle.std.specs.Prelude.{false, cond, List, ◌∷◌, ◌++◌, map, ℕ, eqb, get_or, drop}
use Rattle.wire.specs.Field.{be, to_be}
use Rattle.wire.specs.Table.{cat, tab}
use Rattle.slot.specs.declared.SlotRecord.{SlotRecord}
use Rattle.slot.specs.Layout.{empty, slot_of, slot_bytes}
use Rattle.slot.specs.Logs.{read_log, write_log, busy_record}
use Rattle.rules.specs.Model.{Model, cell_offset, slot_offset, area_length}
use Rattle.rules.specs.State.{State, Slot, idle, opened, locking, twilight, publishing, cell_count, cell_at, slot_at}
use Rattle.rules.specs.declared.Cell.{Cell}

-- a cell: kind (1), holder (1), word (4), stamp
unfoldable pub cell_of : ℕ → List ℕ → Cell
cell_of width l = record { kind = get_or l 0 0; holder = get_or l 1 0; word = be 4 (drop 2 l); stamp = be width (drop 6 l) }

unfoldable pub cell_bytes : ℕ → Cell → List ℕ
cell_bytes width x = (x.kind ∷ x.holder ∷ to_be 4 x.word) ++ to_be width x.stamp

-- a slot's record, whole: what its phase does not keep is zero
abbrev pub lay : Slot → SlotRecord
lay idle = empty
lay (opened start reads writes) = busy_record 1 false 0 start 0 reads writes
lay (locking taken start reads writes) = busy_record 2 false taken start 0 reads writes
lay (twilight ignoring start commit reads writes) = busy_record 3 ignoring 0 start commit reads writes
lay (publishing ignoring taken start commit reads writes) = busy_record 4 ignoring taken start commit reads writes

-- the slot that a record stands for
unfoldable pub view : SlotRecord → Slot
view v =
    cond (eqb v.phase 1) (opened v.start (read_log v) (write_log v))
    (cond (eqb v.phase 2) (locking v.taken v.start (read_log v) (write_log v))
    (cond (eqb v.phase 3) (twilight v.ignoring v.start v.commit (read_log v) (write_log v))
    (cond (eqb v.phase 4) (publishing v.ignoring v.taken v.start v.commit (read_log v) (write_log v))
    idle)))

-- 0: version. 1 to 4: length of the whole area. 5: n. 6 on: clock
unfoldable pub header : Model → State → List ℕ
header M S =
    (M.version ∷ to_be 4 (area_length M (cell_count S))) ++ (cell_count S ∷ to_be M.stamp_bytes S.clock)

unfoldable pub pack : Model → State → List ℕ
pack M S =
    header M S
    ++ cat (cell_count S) (λ c. cell_bytes M.stamp_bytes (cell_at S c))
    ++ cat M.slots (λ s. slot_bytes M.stamp_bytes (lay (slot_at S s)))

-- the places of an area
abbrev pub version_in : List ℕ → ℕ
version_in a = get_or a 0 0

abbrev pub length_in : List ℕ → ℕ
length_in a = be 4 (drop 1 a)

abbrev pub count_in : List ℕ → ℕ
count_in a = get_or a 5 0

abbrev pub clock_in : Model → List ℕ → ℕ
clock_in M a = be M.stamp_bytes (drop 6 a)

-- the bytes from slot s on
abbrev pub slot_place : Model → List ℕ → ℕ → List ℕ
slot_place M a s = drop (slot_offset M (count_in a) s) a

unfoldable pub cells_in : Model → List ℕ → List Cell
cells_in M a = tab (count_in a) (λ c. cell_of M.stamp_bytes (drop (cell_offset M c) a))

unfoldable pub records_in : Model → List ℕ → List SlotRecord
records_in M a = tab M.slots (λ s. slot_of M.stamp_bytes (slot_place M a s))

unfoldable pub state_of : Model → List ℕ → State
state_of M a = record { clock = clock_in M a; cells = cells_in M a; slots = map view (records_in M a) }
