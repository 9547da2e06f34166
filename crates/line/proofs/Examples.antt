-- Lines of document 01, and the largest number of 64 bits, by computation.
use mathlib.Core.List.{[], ◌∷◌}
use mathlib.Core.Path.{◌≡◌, refl}
use Rattle.line.specs.Number.{digit, digits, decimal}
use Rattle.line.specs.Line.{reply_line, cell_line, clock_line}

-- `10 0 2 00000007`
reply-10 : reply_line 10 0 2 7 ≡ 49 ∷ 48 ∷ 32 ∷ 48 ∷ 32 ∷ 50 ∷ 32 ∷ 48 ∷ 48 ∷ 48 ∷ 48 ∷ 48 ∷ 48 ∷ 48 ∷ 55 ∷ 10 ∷ []
unfolding reply_line digits digit
reply-10 = refl

-- `cell 1 2 0000000a 3 0`
cell-1 : cell_line 1 2 10 3 0 ≡ 99 ∷ 101 ∷ 108 ∷ 108 ∷ 32 ∷ 49 ∷ 32 ∷ 50 ∷ 32 ∷ 48 ∷ 48 ∷ 48 ∷ 48 ∷ 48 ∷ 48 ∷ 48 ∷ 97 ∷ 32 ∷ 51 ∷ 32 ∷ 48 ∷ 10 ∷ []
unfolding cell_line digits digit
cell-1 = refl

-- `clock 3`
clock-3 : clock_line 3 ≡ 99 ∷ 108 ∷ 111 ∷ 99 ∷ 107 ∷ 32 ∷ 51 ∷ 10 ∷ []
unfolding clock_line digits digit
clock-3 = refl

-- `18446744073709551615`
last-stamp : decimal 18446744073709551615
    ≡ 49 ∷ 56 ∷ 52 ∷ 52 ∷ 54 ∷ 55 ∷ 52 ∷ 52 ∷ 48 ∷ 55 ∷ 51 ∷ 55 ∷ 48 ∷ 57 ∷ 53 ∷ 53 ∷ 49 ∷ 54 ∷ 49 ∷ 53 ∷ []
unfolding digits digit
last-stamp = refl
