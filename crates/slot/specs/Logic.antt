-- The words in which rules are said: and, or, every, some; over numbers below a bound, and over lists.
use Rattle.std.specs.Prelude.{Bool, true, false, not, cond, List, [], ◌∷◌, ℕ, zero, suc}
use Rattle.std.proofs.Math.Option.{Option, none, some}

infixr 30 ◌and◌
infixr 25 ◌or◌
unfoldable pub ◌and◌ : Bool → Bool → Bool
true and b = b
false and b = false

unfoldable pub ◌or◌ : Bool → Bool → Bool
true or b = true
false or b = b

-- both true, or both false
unfoldable pub same : Bool → Bool → Bool
same true b = b
same false b = not b

-- f holds of every number below n
unfoldable pub every : ℕ → (ℕ → Bool) → Bool
every zero f = true
every (suc n) f = every n f and f n

module _ {A : Type 0} where
  -- f holds of every element
  unfoldable pub all : (A → Bool) → List A → Bool
  all f [] = true
  all f (x ∷ l) = f x and all f l

  -- f holds of some element
  unfoldable pub any : (A → Bool) → List A → Bool
  any f [] = false
  any f (x ∷ l) = f x or any f l

  -- R holds between each element and every later one
  unfoldable pub pairwise : (A → A → Bool) → List A → Bool
  pairwise R [] = true
  pairwise R (x ∷ l) = all (R x) l and pairwise R l

  -- the first element of which f holds
  unfoldable pub first : (A → Bool) → List A → Option A
  first f [] = none
  first f (x ∷ l) = cond (f x) (some x) (first f l)

  -- P holds of every element, for a P that is no test
  abbrev pub All : (A → Type 0) → List A → Type 0
  All P [] = Unit
  All P (x ∷ l) = P x × All P l
