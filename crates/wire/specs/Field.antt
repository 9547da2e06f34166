-- A big-endian field of any width: the number that the first bytes of a list stand for, the bytes of a number, and a field in its place.
use Rattle.std.specs.Prelude.{List, [], ◌∷◌, ◌++◌, ℕ, zero, suc, ◌+◌, ◌*◌, ◌/◌, ◌%◌, ◌<◌, get_or, drop}
use Rattle.wire.specs.Part.{splice}

-- each number of the list is a byte, as in any slice
abbrev pub Bytes : List ℕ → Type 0
Bytes l = (i : ℕ) → get_or l i 0 < 256

-- the number that the first `width` bytes stand for, the highest byte first
unfoldable pub be : ℕ → List ℕ → ℕ
be zero l = 0
be (suc width) l = be width l * 256 + get_or l width 0

-- the lowest `width` bytes of a number, the highest byte first
unfoldable pub to_be : ℕ → ℕ → List ℕ
to_be zero n = []
to_be (suc width) n = to_be width (n / 256) ++ (n % 256 ∷ [])

-- the number in the `width` bytes of `l` from `at` on
abbrev pub field_at : List ℕ → ℕ → ℕ → ℕ
field_at l at width = be width (drop at l)

-- `l` with the lowest `width` bytes of `number` at `at`
abbrev pub field_put : List ℕ → ℕ → ℕ → ℕ → List ℕ
field_put l at width number = splice l at (to_be width number)
