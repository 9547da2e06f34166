-- A trace: a line for each effect, its fields parted by one space, all decimal.
use mathlib.Core.List.{List, [], ◌∷◌, map, flat_map}
use Rattle.std.specs.Prelude.{ℕ}
use Rattle.line.specs.Number.{decimal}
use Rattle.line.specs.Line.{line}
use Rattle.effects.specs.Effects.{Effect, begun, read_shared, reloaded, committed, aborted}

-- `at`, `r`, `rl`, `co` and `ab` as bytes
abbrev pub effect_word : Effect → List ℕ
effect_word (begun slot number) = 97 ∷ 116 ∷ []
effect_word (read_shared slot number cell) = 114 ∷ []
effect_word (reloaded slot number) = 114 ∷ 108 ∷ []
effect_word (committed slot number stamp cells) = 99 ∷ 111 ∷ []
effect_word (aborted slot number) = 97 ∷ 98 ∷ []

-- the numbers behind the word
abbrev pub effect_fields : Effect → List ℕ
effect_fields (begun slot number) = slot ∷ number ∷ []
effect_fields (read_shared slot number cell) = slot ∷ number ∷ cell ∷ []
effect_fields (reloaded slot number) = slot ∷ number ∷ []
effect_fields (committed slot number stamp cells) = slot ∷ number ∷ stamp ∷ cells
effect_fields (aborted slot number) = slot ∷ number ∷ []

unfoldable pub effect_line : Effect → List ℕ
effect_line x = line (effect_word x ∷ map decimal (effect_fields x))

unfoldable pub trace : List Effect → List ℕ
unfolding flat_map
trace effects = flat_map effect_line effects
