-- Which words a kind may have.
use Rattle.std.specs.Prelude.{Bool, false, not, cond, ℕ, ◌/◌, ◌%◌, ◌^◌, eqb, ltb}

-- the exponent's field of a binary32 pattern is all ones: an infinity or a NaN
unfoldable pub endless : ℕ → Bool
endless word = eqb (word / 8388608 % 256) 255

-- Kind 1: word 0 or 1. Kind 2: a 32-bit two's complement word. Kind 3: the bits of a finite IEEE 754 binary32 number. No other kind has a legal word.
unfoldable pub legal_word : ℕ → ℕ → Bool
unfolding endless
legal_word kind word =
    cond (eqb kind 1) (ltb word 2)
    (cond (eqb kind 2) (ltb word (2 ^ 32))
    (cond (eqb kind 3) (cond (ltb word (2 ^ 32)) (not (endless word)) false)
    false))
