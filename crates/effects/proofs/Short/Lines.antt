-- How long the lines of a trace are.
use mathlib.Core.List.{List, [], ◌∷◌, ◌++◌, map, flat_map}
use mathlib.Core.Path.{◌≡◌, ap, ◌∙◌}
use Prim.Native.Nat.{ℕ, suc, ◌+◌, ◌*◌, ◌<◌, ◌≤◌}
use native.Mathlib.Omega.{arith}
use lib.ListN.{length, length-append}
use Rattle.slot.specs.Logic.{All}
use Rattle.line.specs.Number.{decimal}
use Rattle.line.specs.Line.{line}
use Rattle.line.specs.declared.Style.TheVariants.{Decimal}
use Rattle.line.proofs.Number.{few}
use Rattle.effects.specs.Effects.{Effect}
use Rattle.effects.proofs.Flat.{both-flat}
use Rattle.effects.specs.Trace.{effect_word, effect_fields, effect_line, trace}

-- the bytes of a line's numbers, each with a space before it
abbrev pub spaced : List ℕ → ℕ
spaced [] = 0
spaced (n ∷ fields) = suc (length (decimal n) + spaced fields)

-- cells below 100 take at most 3 bytes each
pub cells-short : (cells : List ℕ) → All (λ c. c < 100) cells → spaced cells ≤ 3 * length cells
cells-short [] low = omega arith
cells-short (c ∷ cells) low = omega (arith, few Decimal 2 c low.0 (omega arith), cells-short cells low.1)

-- a line is its word, its numbers and a newline
line-long : (word fields : List ℕ) → length (line (word ∷ map decimal fields)) ≡ length word + spaced fields + 1
line-long word [] = rw length-append (omega arith)
line-long word (n ∷ fields) = rw (length-append, line-long (decimal n) fields) (omega arith)

-- the trace of no effect, of one, and of some after others
pub none-long : length (trace []) ≡ 0
unfolding trace flat_map
none-long = omega arith

pub one-long : (x : Effect) → length (trace (x ∷ [])) ≡ length (effect_word x) + spaced (effect_fields x) + 1
unfolding trace effect_line flat_map
one-long x = rw length-append (omega (arith, line-long (effect_word x) (effect_fields x)))

pub both_long : (l m : List Effect) → length (trace (l ++ m)) ≡ length (trace l) + length (trace m)
unfolding trace
both_long l m = ap length (both-flat effect_line l m) ∙ length-append (trace l) (trace m)
