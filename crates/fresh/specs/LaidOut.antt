-- What the lay-out promises, for all inputs: on an area `l` with descriptions `ds` it answers r, the plain code, and leaves `l'`.
use Rattle.std.specs.Prelude.{List, ◌≡◌, ℕ, Result, Ok, Err}
use Rattle.rules.specs.Model.{controller}
use Rattle.rules.specs.Area.{lay_out}
use Rattle.fresh.specs.declared.NotLaidOut.{NotLaidOut}
use Rattle.fresh.specs.declared.NotLaidOut.TheVariants.{WrongLengths, IllegalValue}

pub record LaidOut (l ds : List ℕ) (r : ℕ) (l' : List ℕ) : Type 0 where
  pub answer : r ≡ (lay_out controller l ds).code
  pub bytes : l' ≡ (lay_out controller l ds).bytes

-- the plain code of a refusal, and of any answer
abbrev pub refusal_code : NotLaidOut → ℕ
refusal_code WrongLengths = 1
refusal_code IllegalValue = 6

abbrev pub laid_code : Result (Unit {0}) NotLaidOut → ℕ
laid_code (Ok _) = 0
laid_code (Err e) = refusal_code e
