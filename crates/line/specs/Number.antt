-- A number as text: in decimal without zeros in front, or in lower-case hex with 8 digits at least.
use Rattle.std.specs.Prelude.{cond, List, [], ◌∷◌, ◌++◌, ℕ, zero, suc, ◌/◌, ◌%◌, eqb, get_or}
use Rattle.line.specs.declared.Style.{Style}
use Rattle.line.specs.declared.Style.TheVariants.{Decimal, Hex}

-- the digits 0 to 9 and a to f as bytes
abbrev pub digit_bytes : List ℕ
digit_bytes = 48 ∷ 49 ∷ 50 ∷ 51 ∷ 52 ∷ 53 ∷ 54 ∷ 55 ∷ 56 ∷ 57 ∷ 97 ∷ 98 ∷ 99 ∷ 100 ∷ 101 ∷ 102 ∷ []

unfoldable pub digit : ℕ → ℕ
digit d = get_or digit_bytes d 0

-- the digits of n, the last one at the end: `least` of them in any case, then as long as something is left of n, and never more than `most`
unfoldable pub digits : ℕ → ℕ → ℕ → ℕ → List ℕ
digits base least zero n = []
digits base zero (suc most) n = cond (eqb n 0) [] (digits base zero most (n / base) ++ (digit (n % base) ∷ []))
digits base (suc least) (suc most) n = digits base least most (n / base) ++ (digit (n % base) ∷ [])

-- the base of a style, and its least number of digits
abbrev pub base_of : Style → ℕ
base_of Decimal = 10
base_of Hex = 16

abbrev pub least_of : Style → ℕ
least_of Decimal = 1
least_of Hex = 8

-- 20 digits hold every number of 64 bits
abbrev pub most_digits : ℕ
most_digits = 20

abbrev pub numeral : Style → ℕ → List ℕ
numeral style n = digits (base_of style) (least_of style) most_digits n

abbrev pub decimal : ℕ → List ℕ
decimal n = numeral Decimal n

abbrev pub hex : ℕ → List ℕ
hex n = numeral Hex n
