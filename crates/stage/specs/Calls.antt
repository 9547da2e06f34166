-- The steps of a sheet as calls, and the area that they leave, one after the other.
use Rattle.std.specs.Prelude.{List, ℕ, zero, suc, ◌*◌, ◌/◌, length, get_or, take, drop}
use Rattle.wire.specs.Field.{be}
use Rattle.rules.specs.Model.{controller}
use Rattle.rules.specs.Step.{Call}
use Rattle.rules.specs.Area.{step_on_bytes}
use Rattle.rules.specs.Run.{call}
use Rattle.apart.specs.Apart.{step_size}

-- a step's 8 bytes: step, slot, cell, kind, word
unfoldable pub call_of : List ℕ → Call
call_of l = call (get_or l 0 0) (get_or l 1 0) (get_or l 2 0) (get_or l 3 0) (be 4 (drop 4 l))

-- step k, counted from 0
abbrev pub call_at : List ℕ → ℕ → Call
call_at l k = call_of (take step_size (drop (step_size * k) l))

abbrev pub step_count : List ℕ → ℕ
step_count l = length l / step_size

-- the area after the first k steps, from an area `a` on
unfoldable pub area_after : List ℕ → List ℕ → ℕ → List ℕ
area_after a l zero = a
area_after a l (suc k) = (step_on_bytes controller (area_after a l k) (call_at l k)).bytes

abbrev pub end_area : List ℕ → List ℕ → List ℕ
end_area a l = area_after a l (step_count l)
