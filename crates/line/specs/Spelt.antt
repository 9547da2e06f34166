-- A number written to the end of a text.
use Rattle.std.specs.Prelude.{List, ◌++◌, ◌≡◌, ℕ, ◌+◌, length, take}
use Rattle.line.specs.declared.Style.{Style}
use Rattle.line.specs.Number.{base_of, least_of, digits}

-- as many digits as there is room for
abbrev pub digits_for : List ℕ → Style → ℕ → List ℕ
digits_for text style n = digits (base_of style) (least_of style) (length text) n

-- the digits end where the text ends, and begin at r
pub record Spelt (text : List ℕ) (style : Style) (n r : ℕ) (after : List ℕ) : Type 0 where
  pub first : r + length (digits_for text style n) ≡ length text
  pub bytes : after ≡ take r text ++ digits_for text style n
