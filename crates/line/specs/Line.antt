-- The lines of a run: fields parted by one space, a newline at the end. All but words are decimal.
use Rattle.std.specs.Prelude.{List, [], ◌∷◌, ◌++◌, ℕ, ◌/◌, ◌%◌, ◌^◌}
use Rattle.line.specs.Number.{decimal, hex}

abbrev pub space : ℕ
space = 32

abbrev pub newline : ℕ
newline = 10

abbrev pub line : List (List ℕ) → List ℕ
line [] = newline ∷ []
line (field ∷ []) = field ++ (newline ∷ [])
line (field ∷ next ∷ fields) = field ++ (space ∷ line (next ∷ fields))

-- a number's field with the space before it
abbrev pub field : ℕ → List ℕ
field n = space ∷ decimal n

-- `cell` and `clock` as bytes
abbrev pub cell_text : List ℕ
cell_text = 99 ∷ 101 ∷ 108 ∷ 108 ∷ []

abbrev pub clock_text : List ℕ
clock_text = 99 ∷ 108 ∷ 111 ∷ 99 ∷ 107 ∷ []

-- a line per step: place from 1, code, kind, word
unfoldable pub reply_line : (place code kind word : ℕ) → List ℕ
reply_line place code kind word = line (decimal place ∷ decimal code ∷ decimal kind ∷ hex word ∷ [])

-- a line per cell: `cell`, number, kind, word, stamp, holder
unfoldable pub cell_line : (number kind word stamp holder : ℕ) → List ℕ
cell_line number kind word stamp holder = line (cell_text ∷ decimal number ∷ decimal kind ∷ hex word ∷ decimal stamp ∷ decimal holder ∷ [])

-- `clock` and the clock
unfoldable pub clock_line : ℕ → List ℕ
clock_line clock = line (clock_text ∷ decimal clock ∷ [])

-- the line of an answer as C gets it: code × 2^40 + kind × 2^32 + word
abbrev pub answer_line : (place answer : ℕ) → List ℕ
answer_line place answer = reply_line place (answer / 2 ^ 40) (answer / 2 ^ 32 % 2 ^ 8) (answer % 2 ^ 32)
