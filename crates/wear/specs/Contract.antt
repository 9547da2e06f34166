-- What the wear operation for C promises, for all inputs: the answer, and every byte of the area after the call.
use Rattle.std.specs.Prelude.{List, ◌≡◌, ℕ}
use Rattle.rules.specs.Model.{controller}
use Rattle.wear.specs.OnBytes.{wear_on_bytes}

-- `crocktendril_wear` on an area `l` with a set and a slot answers r and leaves `l'`
pub record Worn (l set : List ℕ) (slot r : ℕ) (l' : List ℕ) : Type 0 where
  pub answer : r ≡ (wear_on_bytes controller l set slot).number
  pub bytes : l' ≡ (wear_on_bytes controller l set slot).bytes
