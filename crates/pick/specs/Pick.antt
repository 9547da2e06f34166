-- The pick rule: "the usable group with the fewest erases, lowest number on a tie". "A group at 2^31−1 can't be picked."
use Rattle.std.specs.Prelude.{Bool, cond, List, Option, None, Some, ℕ, zero, suc, ltb}
use Rattle.slot.specs.Logic.{◌and◌}
use Rattle.pick.specs.Groups.{erases_place, usable, erases, negative, last_count}

-- what the first of two searches found, or else the second
abbrev pub or_else : Option ℕ → Option ℕ → Option ℕ
or_else None other = other
or_else (Some k) other = Some k

-- among the first n groups the place of the first negative count, usable or not
unfoldable pub negative_at : List ℕ → ℕ → Option ℕ
negative_at words zero = None
negative_at words (suc n) = or_else (negative_at words n) (cond (negative (erases words n)) (Some (erases_place n)) None)

-- a group that can be picked
unfoldable pub pickable : List ℕ → ℕ → Bool
pickable words g = usable words g and ltb (erases words g) last_count

-- Group g takes the place of the best one so far only if it has fewer erases: on a tie the lower number stays.
abbrev pub better : List ℕ → ℕ → Option ℕ → Option ℕ
better words g None = cond (pickable words g) (Some g) None
better words g (Some best) = cond (pickable words g and ltb (erases words g) (erases words best)) (Some g) (Some best)

-- the group that is picked among the first n
unfoldable pub picked : List ℕ → ℕ → Option ℕ
picked words zero = None
picked words (suc n) = better words n (picked words n)
