-- A cell value's kind and word, and the value that a kind and a word stand for.
use Rattle.std.specs.Prelude.{Bool, true, false, cond, ℕ, T, eqb, Float, Option, Some, None}
use Rattle.std.specs.Float.{nan, inf, fin, binary32}
use Rattle.std.specs.Float.Ieee.{fits, to_bits, of_bits}
use Rattle.std.specs.Int.{w32}
use Rattle.std.proofs.Common.{SFits, to_z, of_z}
use Rattle.value.specs.declared.CellValue.{CellValue}
use Rattle.value.specs.declared.CellValue.TheVariants.{Truth, Whole, Real}
use Rattle.value.specs.Legal.{legal_word}

abbrev pub kind_of : CellValue → ℕ
kind_of (Truth b) = 1
kind_of (Whole z) = 2
kind_of (Real x) = 3

-- a truth value is 0 or 1, a whole number its two's complement, a real its bits (of a NaN, which no cell can hold, 7fc00000)
abbrev pub word_of : CellValue → ℕ
word_of (Truth b) = cond b 1 0
word_of (Whole z) = of_z w32 z
word_of (Real x) = to_bits binary32 x

-- the value of a kind and a word; for a legal word of its kind nothing is lost
unfoldable pub value_of : ℕ → ℕ → CellValue
value_of kind word = cond (eqb kind 1) (Truth (eqb word 1)) (cond (eqb kind 2) (Whole (to_z w32 word)) (Real (of_bits binary32 word)))

-- .. or none, where the word is not legal for the kind
unfoldable pub parsed : ℕ → ℕ → Option CellValue
parsed kind word = cond (legal_word kind word) (Some (value_of kind word)) None

-- neither a NaN nor an infinity
abbrev pub finite : Float → Bool
finite nan = false
finite (inf s) = false
finite (fin s m e) = true

-- What a cell can hold: each truth value, a whole number of 32 bits, and a finite binary32 number.
abbrev pub Holdable : CellValue → Type 0
Holdable (Truth b) = Unit
Holdable (Whole z) = SFits w32 z
Holdable (Real x) = T (fits binary32 x) × T (finite x)
