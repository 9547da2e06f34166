-- A function that returns false at the first test that fails decides the conjunction of its tests, and a loop that does so decides `every`.
use mathlib.Core.Bool.{Bool, true, false, cond, false≢true}
use mathlib.Core.Path.{◌≡◌, refl, sym, ◌∙◌, ap}
use Prim.Native.Nat.{ℕ, zero, suc, ◌+◌, ◌<◌}
use native.Mathlib.Numerals.{add-one}
use Rattle.slot.specs.Logic.{◌and◌, ◌or◌, every}
use Rattle.slot.proofs.Logic.{and_assoc, true-and, every-at, both_ways}

-- a test holds or fails
pub either : {P : Type 0} (b : Bool) → (b ≡ true → P) → (b ≡ false → P) → P
either true p q = p refl
either false p q = q refl

-- a test that fails ends a chain with the reply false; one that passes leaves the rest
pub stop : (a b r : Bool) → a ≡ false → r ≡ false → r ≡ (a and b)
unfolding ◌and◌
stop a b r p q = rw (p, q)

pub pass : (a b r : Bool) → a ≡ true → r ≡ b → r ≡ (a and b)
unfolding ◌and◌
pass a b r p q = rw p q

-- one of two tests
pub or_yes : (a b : Bool) → a ≡ true → a ≡ (a or b)
unfolding ◌or◌
or_yes a b p = rw p

pub or_no : (a b : Bool) → a ≡ false → b ≡ (a or b)
unfolding ◌or◌
or_no a b p = rw p

-- the branch that a test leads to
pub pick_yes : (b x y r : Bool) → b ≡ true → r ≡ x → r ≡ cond b x y
pick_yes b x y r p q = rw p q

pub pick_no : (b x y r : Bool) → b ≡ false → r ≡ y → r ≡ cond b x y
pick_no b x y r p q = rw p q

-- what a test that is a call says of the clause that the call decides
pub passes : {x a : Bool} → x ≡ a → x ≡ true → a ≡ true
passes e p = sym e ∙ p

pub fails : {x a : Bool} → x ≡ a → x ≡ false → a ≡ false
fails e p = sym e ∙ p

-- the order of a conjunction does not matter
pub and_comm : (a b : Bool) → (a and b) ≡ (b and a)
unfolding ◌and◌
and_comm true true = refl
and_comm true false = refl
and_comm false true = refl
and_comm false false = refl

pub and-swap : (a b c : Bool) → (a and (b and c)) ≡ (b and (a and c))
and-swap a b c = sym (and_assoc a b c) ∙ ap (λ (x : Bool). x and c) (and_comm a b) ∙ and_assoc b a c

-- loops: nothing is tested yet, one number more passes, one fails, all have passed
pub every-start : (f : ℕ → Bool) → every 0 f ≡ true
unfolding every
every-start f = refl

pub every-next : (f : ℕ → Bool) (i : ℕ) → every i f ≡ true → f i ≡ true → every (i + 1) f ≡ true
unfolding every ◌and◌
every-next f i p q = rw (add-one i, p) q

pub every-no : (n : ℕ) (f : ℕ → Bool) (i : ℕ) → i < n → f i ≡ false → false ≡ every n f
every-no n f i h p =
    both_ways false (every n f) (λ q. absurd (false≢true q)) (λ q. sym p ∙ every-at n f q i h)

pub every-yes : (n : ℕ) (f : ℕ → Bool) (i : ℕ) → i ≡ n → every i f ≡ true → true ≡ every n f
every-yes n f i e p = sym p ∙ ap (λ (k : ℕ). every k f) e

-- two tests at each number
pub every-and : (n : ℕ) (f g : ℕ → Bool) → (every n f and every n g) ≡ every n (λ i. f i and g i)
unfolding every
every-and zero f g = true-and true
every-and (suc n) f g = law (every n f) (f n) (every n g) (g n) (every n (λ i. f i and g i)) (every-and n f g)
  where
    law : (a b c d e : Bool) → (a and c) ≡ e → ((a and b) and (c and d)) ≡ (e and (b and d))
    law a b c d e p = rw (← p) (simp (and_assoc, and-swap, and_comm))
