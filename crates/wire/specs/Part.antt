-- A part put in place of as many bytes.
use Rattle.std.specs.Prelude.{List, ◌++◌, ℕ, ◌+◌, length, take, drop}

-- `a` with `part` in place of the bytes from `at` on
unfoldable pub splice : List ℕ → ℕ → List ℕ → List ℕ
splice a at part = take at a ++ part ++ drop (at + length part) a
