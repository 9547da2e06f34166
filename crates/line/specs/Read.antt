-- A number read off its digits, the first one first.
use Rattle.std.specs.Prelude.{cond, List, [], ◌∷◌, ℕ, ◌+◌, ◌*◌, ◌-◌, ltb}

-- what a digit's byte stands for: `0` to `9`, `a` to `f`
abbrev pub digit_value : ℕ → ℕ
digit_value byte = cond (ltb byte 97) (byte - 48) (byte - 87)

-- the number, where `high` was read before
unfoldable pub read_from : ℕ → ℕ → List ℕ → ℕ
read_from base high [] = high
read_from base high (byte ∷ text) = read_from base (high * base + digit_value byte) text
