-- The words of a wear set's cells, group by group: the truth cell's, then the erases cell's.
use Rattle.std.specs.Prelude.{Bool, List, ℕ, ◌+◌, ◌*◌, ◌-◌, ◌^◌, leb, get_or}

-- where group g's two cells stand in the set, from 0
abbrev pub truth_place : ℕ → ℕ
truth_place g = 2 * g

abbrev pub erases_place : ℕ → ℕ
erases_place g = 2 * g + 1

-- group g is usable if its truth cell's word is not 0; its count of erases
abbrev pub usable : List ℕ → ℕ → Bool
usable words g = leb 1 (get_or words (truth_place g) 0)

abbrev pub erases : List ℕ → ℕ → ℕ
erases words g = get_or words (erases_place g) 0

-- A count is a 32-bit two's complement word: it is negative from 2^31 on, and it can't be raised at 2^31 − 1.
unfoldable pub negative : ℕ → Bool
negative word = leb (2 ^ 31) word

abbrev pub last_count : ℕ
last_count = 2 ^ 31 - 1
