-- Laws of and, or, every, all, any and pairwise. Callers use these, never the definitions' text.
use mathlib.Core.Bool.{Bool, true, false, false≢true}
use mathlib.Core.List.{List, [], ◌∷◌, ◌++◌, map}
use mathlib.Core.Path.{◌≡◌, refl, sym, ◌∙◌, ap, ap₂}
use Prim.Native.Nat.{ℕ, zero, suc, ◌<◌}
use native.Mathlib.Omega.{arith}
use native.Mathlib.Nat.{not-suc-le-zero, le_of_suc-le-suc}
use lib.ListN.{length, get_or, drop}
use borrow.Author.Count.{below_more}
use Rattle.std.specs.List.{list_any}
use Rattle.std.specs.Prelude.{◌||◌}
use Rattle.slot.specs.Logic.{◌and◌, ◌or◌, every, all, any, pairwise}

pub and_intro : (a b : Bool) → a ≡ true → b ≡ true → (a and b) ≡ true
unfolding ◌and◌
and_intro true b p q = q
and_intro false b p q = p

pub and_left : (a b : Bool) → (a and b) ≡ true → a ≡ true
unfolding ◌and◌
and_left true b p = refl
and_left false b p = p

pub and_right : (a b : Bool) → (a and b) ≡ true → b ≡ true
unfolding ◌and◌
and_right true b p = p
and_right false b p = absurd (false≢true p)

pub and_assoc : (a b c : Bool) → ((a and b) and c) ≡ (a and (b and c))
unfolding ◌and◌
and_assoc true b c = refl
and_assoc false b c = refl

pub true-and : (b : Bool) → (true and b) ≡ b
unfolding ◌and◌
true-and b = refl

pub and-true : (b : Bool) → (b and true) ≡ b
unfolding ◌and◌
and-true true = refl
and-true false = refl

pub and-false : (b : Bool) → (b and false) ≡ false
unfolding ◌and◌
and-false true = refl
and-false false = refl

pub false-or : (b : Bool) → (false or b) ≡ b
unfolding ◌or◌
false-or b = refl

pub true-or : (b : Bool) → (true or b) ≡ true
unfolding ◌or◌
true-or b = refl

pub or-true : (b : Bool) → (b or true) ≡ true
unfolding ◌or◌
or-true true = refl
or-true false = refl

pub or-false : (b : Bool) → (b or false) ≡ b
unfolding ◌or◌
or-false true = refl
or-false false = refl

pub or_assoc : (a b c : Bool) → ((a or b) or c) ≡ (a or (b or c))
unfolding ◌or◌
or_assoc true b c = refl
or_assoc false b c = refl

-- one test holds where the other one does not
pub or-when : (a b : Bool) → (a ≡ false → b ≡ true) → (a or b) ≡ true
unfolding ◌or◌
or-when true b f = refl
or-when false b f = f refl

-- a test that is false makes the other one hold
pub or_right : (a b : Bool) → a ≡ false → (a or b) ≡ true → b ≡ true
unfolding ◌or◌
or_right true b p q = absurd (false≢true (sym p))
or_right false b p q = q

-- every: at each number, from each number, and by equal tests
pub every-at : (n : ℕ) (f : ℕ → Bool) → every n f ≡ true → (i : ℕ) → i < n → f i ≡ true
unfolding every
every-at zero f p i h = absurd (not-suc-le-zero h)
every-at (suc n) f p i h =
    below_more (λ k. f k ≡ true) n (every-at n f (and_left (every n f) (f n) p)) (and_right (every n f) (f n) p) i (omega arith)

pub every_of : (n : ℕ) (f : ℕ → Bool) → ((i : ℕ) → i < n → f i ≡ true) → every n f ≡ true
unfolding every
every_of zero f p = refl
every_of (suc n) f p = and_intro (every n f) (f n) (every_of n f (λ i h. p i (omega arith))) (p n (omega arith))

pub every-ext : (n : ℕ) (f g : ℕ → Bool) → ((i : ℕ) → i < n → f i ≡ g i) → every n f ≡ every n g
unfolding every
every-ext zero f g e = refl
every-ext (suc n) f g e = ap₂ ◌and◌ (every-ext n f g (λ i h. e i (omega arith))) (e n (omega arith))

-- two tests are the same if each is true where the other one is
pub both_ways : (a b : Bool) → (a ≡ true → b ≡ true) → (b ≡ true → a ≡ true) → a ≡ b
both_ways true b f g = sym (f refl)
both_ways false true f g = g refl
both_ways false false f g = refl

module _ {A : Type 0} where
  pub all-at : (f : A → Bool) (l : List A) (d : A) → all f l ≡ true → (i : ℕ) → i < length l → f (get_or l i d) ≡ true
  unfolding all
  all-at f [] d p i h = absurd (not-suc-le-zero h)
  all-at f (x ∷ l) d p zero h = and_left (f x) (all f l) p
  all-at f (x ∷ l) d p (suc i) h = all-at f l d (and_right (f x) (all f l) p) i (le_of_suc-le-suc h)

  pub all_of : (f : A → Bool) (l : List A) (d : A) → ((i : ℕ) → i < length l → f (get_or l i d) ≡ true) → all f l ≡ true
  unfolding all
  all_of f [] d p = refl
  all_of f (x ∷ l) d p = and_intro (f x) (all f l) (p 0 (omega arith)) (all_of f l d (λ i h. p (suc i) (omega arith)))

  -- over a list, or over its places
  pub all-every : (f : A → Bool) (l : List A) (d : A) → all f l ≡ every (length l) (λ i. f (get_or l i d))
  all-every f l d =
      both_ways (all f l) (every (length l) (λ i. f (get_or l i d)))
      (λ p. every_of (length l) (λ i. f (get_or l i d)) (all-at f l d p))
      (λ p. all_of f l d (every-at (length l) (λ i. f (get_or l i d)) p))

  pub all_map : {B : Type 0} (f : B → Bool) (g : A → B) (l : List A) → all f (map g l) ≡ all (λ x. f (g x)) l
  unfolding all
  all_map f g [] = refl
  all_map f g (x ∷ l) = ap (λ (b : Bool). f (g x) and b) (all_map f g l)

  pub all-ext : (f g : A → Bool) (l : List A) → ((x : A) → f x ≡ g x) → all f l ≡ all g l
  unfolding all
  all-ext f g [] e = refl
  all-ext f g (x ∷ l) e = ap₂ ◌and◌ (e x) (all-ext f g l e)

  -- some element of two lists, and of one with an element more at its end
  pub any_append : (f : A → Bool) (l m : List A) → any f (l ++ m) ≡ (any f l or any f m)
  unfolding any
  any_append f [] m = sym (false-or (any f m))
  any_append f (x ∷ l) m = ap (λ (b : Bool). f x or b) (any_append f l m) ∙ sym (or_assoc (f x) (any f l) (any f m))

  pub any_snoc : (f : A → Bool) (l : List A) (x : A) → any f (l ++ (x ∷ [])) ≡ (any f l or f x)
  unfolding any
  any_snoc f l x = any_append f l (x ∷ []) ∙ ap (λ (b : Bool). any f l or b) (or-false (f x))

  -- pairwise of mapped elements
  pub pairwise_map : {B : Type 0} (R : B → B → Bool) (Q : A → A → Bool) (g : A → B) (l : List A) → ((x y : A) → R (g x) (g y) ≡ Q x y)
      → pairwise R (map g l) ≡ pairwise Q l
  unfolding pairwise
  pairwise_map R Q g [] e = refl
  pairwise_map R Q g (x ∷ l) e =
      ap₂ ◌and◌ (all_map (R (g x)) g l ∙ all-ext (λ y. R (g x) (g y)) (Q x) l (e x)) (pairwise_map R Q g l e)

  -- .. and of what is left of a list
  pub pairwise_drop : (R : A → A → Bool) (n : ℕ) (l : List A) → pairwise R l ≡ true → pairwise R (drop n l) ≡ true
  unfolding pairwise
  pairwise_drop R zero l p = p
  pairwise_drop R (suc n) [] p = p
  pairwise_drop R (suc n) (x ∷ l) p = pairwise_drop R n l (and_right _ _ p)

-- `any` is std's
module _ {A : Type 0} (f : A → Bool) where
  pub any-listed : (l : List A) → list_any f l ≡ any f l
  unfolding any ◌or◌
  any-listed [] = refl
  any-listed (x ∷ l) = by (f x) (any-listed l)
    where
      by : (b : Bool) → list_any f l ≡ any f l → (b || list_any f l) ≡ (b or any f l)
      by true e = refl
      by false e = e
