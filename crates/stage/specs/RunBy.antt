-- A sheet run by what makes the steps of a good one: what the run leaves, in terms of what the making may leave.
use Rattle.std.specs.Prelude.{true, false, List, ◌≡◌, ℕ, length, Result, Ok, Err}
use Rattle.wire.specs.Part.{splice}
use Rattle.line.specs.Gather.{gathered, added, Leaves}
use Rattle.apart.specs.Apart.{steps, good_sheet}
use Rattle.stage.specs.declared.TooShort.{TooShort}
use Rattle.stage.specs.First.{first_area, bad_sheet}
use Rattle.stage.specs.Printed.{roomy, too_short}

-- the steps l made on the area a with the buffer out may answer r, and leave b and t there
abbrev pub Makes : Type 1
Makes = (l a out : List ℕ) (r : ℕ) (b t : List ℕ) → Type 0

module _ (makes : Makes) (most : ℕ) (s a out : List ℕ) where
  -- the run of a good sheet: its steps are made on its area, which stands at the front of the lent one
  pub record GoodRun (r : Result ℕ TooShort) (b t : List ℕ) : Type 0 where
    pub end : ℕ
    pub own : List ℕ
    pub made : makes (steps s) (first_area s) out end own t
    pub size : length own ≡ length (first_area s)
    pub answer : r ≡ Ok end
    pub area : b ≡ splice a 0 own

  -- the run of a bad one
  pub record BadRun (r : Result ℕ TooShort) (b t : List ℕ) : Type 0 where
    pub end : ℕ
    pub said : Leaves (added (gathered 0 out) bad_sheet) end t
    pub answer : r ≡ Ok end
    pub area : b ≡ a

  -- with too little room nothing is done
  pub record RunBy (r : Result ℕ TooShort) (b t : List ℕ) : Type 0 where
    pub short : roomy most a out ≡ false → (r ≡ Err too_short) × (b ≡ a) × (t ≡ out)
    pub bad : roomy most a out ≡ true → good_sheet s ≡ false → BadRun r b t
    pub good : roomy most a out ≡ true → good_sheet s ≡ true → GoodRun r b t
