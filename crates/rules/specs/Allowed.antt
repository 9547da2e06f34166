-- "Allowed when": a column of the table of steps, by the steps' numbers.
use Rattle.std.specs.Prelude.{Bool, not, List, [], ◌∷◌, ℕ, eqb, ltb, length}
use Rattle.slot.specs.Logic.{◌and◌, ◌or◌, any}
use Rattle.rules.specs.State.{Slot, writes_of, taken_of, is_open, is_locking, is_twilight, is_publishing}
use Rattle.rules.specs.StateRight.{is_idle}

-- a row of a table: the number of a step, or of a code, and a test
infix 70 ◌when◌
pub data Row : Type 0 where
  ◌when◌ : (number : ℕ) (test : Bool) → Row

abbrev pub row_number : Row → ℕ
row_number (number when test) = number

-- some cells of the write log are not yet taken
abbrev pub some_missing : Slot → Bool
some_missing x = ltb (taken_of x) (length (writes_of x))

abbrev pub allowed_when : Slot → List Row
allowed_when x =
    1 when is_idle x  -- begin
    ∷ 2 when is_open x  -- read
    ∷ 3 when is_open x  -- write
    ∷ 4 when is_open x  -- close
    ∷ 5 when (is_locking x and some_missing x)  -- lock
    ∷ 6 when (is_locking x and not (some_missing x))  -- enter
    ∷ 7 when is_twilight x  -- reread
    ∷ 8 when is_twilight x  -- update
    ∷ 9 when is_twilight x  -- ask
    ∷ 10 when is_twilight x  -- reload
    ∷ 11 when is_twilight x  -- ignore
    ∷ 12 when is_twilight x  -- finish
    ∷ 13 when is_publishing x  -- publish
    ∷ 14 when (is_open x or is_locking x or is_twilight x)  -- give up
    ∷ []

-- a row is the step's own, and its test holds
abbrev pub allows : ℕ → Row → Bool
allows step (number when test) = eqb step number and test

-- the step with this number is allowed in a slot's state
unfoldable pub allowed : ℕ → Slot → Bool
allowed step x = any (allows step) (allowed_when x)
