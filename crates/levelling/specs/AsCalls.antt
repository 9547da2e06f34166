-- What the operation does is what a list of core calls does: the reads in order, then the write.
use Rattle.std.specs.Prelude.{Bool, cond, List, [], ◌∷◌, ◌++◌, map, ◌≡◌, ℕ, suc, pred, leb, length, get_or, take, Option, None, Some}
use Rattle.wire.specs.Field.{Bytes}
use Rattle.slot.specs.Logic.{◌and◌}
use Rattle.rules.specs.Model.{Model}
use Rattle.rules.specs.State.{State, slot_at}
use Rattle.rules.specs.Step.{Call}
use Rattle.rules.specs.Run.{end_state}
use Rattle.rules.specs.Layout.{state_of}
use Rattle.history.specs.Keeps.{bytes_after}
use Rattle.pick.specs.Groups.{erases_place, erases}
use Rattle.pick.specs.Pick.{negative_at, picked}
use Rattle.wearset.specs.WearSet.{group_count, set_right}
use Rattle.wearset.specs.OpenEmpty.{open_and_empty}
use Rattle.level.specs.Level.{read_of, write_of, Reading, going, stopped, read_first}
use Rattle.wear.specs.Wear.{wear}
use Rattle.wear.specs.OnBytes.{wear_on_bytes}

-- the write, if a group is picked; none, if a count is negative
abbrev pub write_picked : ℕ → List ℕ → List ℕ → Option ℕ → List Call
write_picked slot set words None = []
write_picked slot set words (Some g) = write_of slot (get_or set (erases_place g) 0) (suc (erases words g)) ∷ []

abbrev pub write_if_sound : ℕ → List ℕ → List ℕ → Option ℕ → List Call
write_if_sound slot set words (Some place) = []
write_if_sound slot set words None = write_picked slot set words (picked words (group_count set))

-- the reads up to the one that was refused, or all of them and the write
abbrev pub calls_made : ℕ → List ℕ → Reading → List Call
calls_made slot set (stopped place reply S) = map (read_of slot) (take (suc place) set)
calls_made slot set (going words S) = map (read_of slot) set ++ write_if_sound slot set words (negative_at words (group_count set))

-- no refusal comes before the first read
unfoldable pub admitted : Model → State → List ℕ → ℕ → Bool
admitted M S set slot = set_right S set and (leb 1 slot and leb slot M.slots) and open_and_empty (slot_at S (pred slot))

unfoldable pub wear_calls : Model → State → List ℕ → ℕ → List Call
wear_calls M S set slot = cond (admitted M S set slot) (calls_made slot set (read_first M S slot set (length set))) []

pub record AsCalls (M : Model) : Type 0 where
  -- on states, and on areas of any bytes, well formed or not
  pub on_states : (S : State) (set : List ℕ) (slot : ℕ) → (wear M S set slot).state ≡ end_state M S (wear_calls M S set slot)
  pub on_areas : (a : List ℕ) → Bytes a → (set : List ℕ) (slot : ℕ)
      → (wear_on_bytes M a set slot).bytes ≡ bytes_after M a (wear_calls M (state_of M a) set slot)
