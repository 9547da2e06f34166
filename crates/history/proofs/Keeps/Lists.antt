-- Laws of tests, and of lists that grow, shrink or have one element replaced. Each holds by cases on a test or by induction on the list.
use mathlib.Core.Bool.{Bool, true, false, not, cond, false≢true}
use mathlib.Core.List.{List, [], ◌∷◌, ◌++◌, map}
use mathlib.Core.Option.{none, some}
use mathlib.Core.Path.{◌≡◌, refl, sym, ap, ap₂, subst}
use Prim.Native.Nat.{ℕ, zero, suc, ◌<◌, ◌≤◌}
use native.Mathlib.Omega.{arith}
use lib.Dec.{eqb, ltb}
use lib.ListN.{length, get_or, set}
use lib.Seq.{get_or-set_same, get_or-set_other, set_out}
use borrow.Author.Tests.{eqb-true, eqb-false, ltb-true, ltb-false, not-true}
use Rattle.slot.specs.Logic.{◌or◌, same, all, any, pairwise, first}
use Rattle.slot.proofs.Logic.{and_intro, and_left, and_right, true-or, or-true, all_of}

-- case on two numbers being the same
pub same_or_not : (P : Type 0) (m n : ℕ) → (m ≡ n → P) → ((m ≡ n → ⊥) → P) → P
same_or_not P m n f g = by (eqb m n) refl
  where
    by : (b : Bool) → eqb m n ≡ b → P
    by true e = f (eqb-true m n e)
    by false e = g (eqb-false m n e)

pub below_or_not : (P : Type 0) (m n : ℕ) → (m < n → P) → (n ≤ m → P) → P
below_or_not P m n f g = by (ltb m n) refl
  where
    by : (b : Bool) → ltb m n ≡ b → P
    by true e = f (ltb-true m n e)
    by false e = g (ltb-false m n e)

pub cond-elim : {A : Type 0} (P : A → Type 0) (t : Bool) (a b : A) → (t ≡ true → P a) → (t ≡ false → P b) → P (cond t a b)
cond-elim P true a b f g = f refl
cond-elim P false a b f g = g refl

pub eq-same : (a b : Bool) → a ≡ b → same a b ≡ true
unfolding same
eq-same true b p = sym p
eq-same false b p = ap not (sym p)

pub or-neither : (a b : Bool) → (a or b) ≡ false → (a ≡ false) × (b ≡ false)
unfolding ◌or◌
or-neither true b p = absurd (false≢true (sym p))
or-neither false b p = (refl, p)

pub or-twice : (a b : Bool) → (a or a or b) ≡ (a or b)
unfolding ◌or◌
or-twice true b = refl
or-twice false b = refl

pub or_swap : (a b c : Bool) → (a or b or c) ≡ (b or a or c)
unfolding ◌or◌
or_swap true true c = refl
or_swap true false c = refl
or_swap false b c = refl

module _ {A : Type 0} where
  -- what holds of the new element at its place, and of every other place, holds at each place of the list with that element replaced
  pub set-elim : (P : ℕ → A → Type 0) (l : List A) (i : ℕ) (a d : A) → i < length l → P i a → ((j : ℕ) → (j ≡ i → ⊥) → P j (get_or l j d)) → (j : ℕ) → P j (get_or (set l i a) j d)
  set-elim P l i a d h p q j =
      same_or_not _ j i
      (λ e. rw (e, get_or-set_same l i a d h) p)
      (λ n. rw (get_or-set_other l i j a d n) (q j n))

  -- .. and the place need not be there, if it holds of the old element too
  pub set-each : (P : ℕ → A → Type 0) (l : List A) (i : ℕ) (a d : A) → P i a → ((j : ℕ) → P j (get_or l j d)) → (j : ℕ) → P j (get_or (set l i a) j d)
  set-each P l i a d p q j =
      below_or_not _ i (length l)
      (λ h. set-elim P l i a d h p (λ k n. q k) j)
      (λ h. rw (set_out l i a h) (q j))

  -- two lists as long, each with an element replaced at the same place
  pub set_same : (l m : List A) (i j : ℕ) (a b d : A) → length l ≡ length m → (j ≡ i → a ≡ b) → get_or l j d ≡ get_or m j d → get_or (set l i a) j d ≡ get_or (set m i b) j d
  set_same l m i j a b d e f q =
      below_or_not _ i (length l)
      (λ h.
      same_or_not _ j i
      (λ k. rw (k, get_or-set_same l i a d h, get_or-set_same m i b d (omega arith)) (f k))
      (λ n. rw (get_or-set_other l i j a d n, get_or-set_other m i j b d n) q))
      (λ h. rw (set_out l i a h, set_out m i b (omega arith)) q)

  -- a test that holds at some place
  pub any_at : (f : A → Bool) (l : List A) (d : A) (k : ℕ) → k < length l → f (get_or l k d) ≡ true → any f l ≡ true
  unfolding any
  any_at f [] d k h p = absurd (omega arith)
  any_at f (x ∷ l) d zero h p = rw p (true-or (any f l))
  any_at f (x ∷ l) d (suc k) h p = rw (any_at f l d k (omega arith) p) (or-true (f x))

  -- tests, and functions, that agree at each place of the list
  pub first-agree : (f g : A → Bool) (l : List A) (d : A) → ((k : ℕ) → k < length l → f (get_or l k d) ≡ g (get_or l k d)) → first f l ≡ first g l
  unfolding first
  first-agree f g [] d e = refl
  first-agree f g (x ∷ l) d e = rw (e 0 (omega arith), first-agree f g l d (λ k h. e (suc k) (omega arith)))

  pub map-agree : {B : Type 0} (f g : A → B) (l : List A) (d : A) → ((k : ℕ) → k < length l → f (get_or l k d) ≡ g (get_or l k d)) → map f l ≡ map g l
  map-agree f g [] d e = refl
  map-agree f g (x ∷ l) d e = ap₂ ◌∷◌ (e 0 (omega arith)) (map-agree f g l d (λ k h. e (suc k) (omega arith)))

  pub all-imp : (f g : A → Bool) (l : List A) → ((x : A) → f x ≡ true → g x ≡ true) → all f l ≡ true → all g l ≡ true
  unfolding all
  all-imp f g [] h p = refl
  all-imp f g (x ∷ l) h p = and_intro _ _ (h x (and_left _ _ p)) (all-imp f g l h (and_right _ _ p))

  pub all_snoc : (f : A → Bool) (l : List A) (x : A) → all f l ≡ true → f x ≡ true → all f (l ++ (x ∷ [])) ≡ true
  unfolding all
  all_snoc f [] x p q = and_intro _ _ q refl
  all_snoc f (y ∷ l) x p q = and_intro _ _ (and_left _ _ p) (all_snoc f l x (and_right _ _ p) q)

  pub pairwise-snoc : (R : A → A → Bool) (l : List A) (x : A) → pairwise R l ≡ true → all (λ y. R y x) l ≡ true → pairwise R (l ++ (x ∷ [])) ≡ true
  unfolding pairwise all
  pairwise-snoc R [] x p q = and_intro _ _ refl refl
  pairwise-snoc R (y ∷ l) x p q = and_intro _ _ (all_snoc (R y) l x (and_left _ _ p) (and_left _ _ q)) (pairwise-snoc R l x (and_right _ _ p) (and_right _ _ q))

  pub pairwise-of : (R : A → A → Bool) (l : List A) (d : A) → ((i j : ℕ) → i < j → j < length l → R (get_or l i d) (get_or l j d) ≡ true) → pairwise R l ≡ true
  unfolding pairwise
  pairwise-of R [] d p = refl
  pairwise-of R (x ∷ l) d p =
      and_intro _ _ (all_of (R x) l d (λ j h. p 0 (suc j) (omega arith) (omega arith)))
      (pairwise-of R l d (λ i j h b. p (suc i) (suc j) (omega arith) (omega arith)))

  pub any_none : (f : A → Bool) (l : List A) → all (λ x. not (f x)) l ≡ true → any f l ≡ false
  unfolding all any ◌or◌
  any_none f [] p = refl
  any_none f (x ∷ l) p = rw (not-true (f x) (and_left _ _ p)) (any_none f l (and_right _ _ p))

  -- a search finds nothing only where the test holds of nothing
  pub first-none : (f : A → Bool) (l : List A) → first f l ≡ none → all (λ x. not (f x)) l ≡ true
  unfolding first all
  first-none f [] e = refl
  first-none f (x ∷ l) e = by (f x) refl (first-none f l)
    where
      by : (b : Bool) → f x ≡ b → (first f l ≡ none → all (λ y. not (f y)) l ≡ true) → all (λ y. not (f y)) (x ∷ l) ≡ true
      by true p rest = let found : some x ≡ none = rw p at e in cc
      by false p rest = and_intro _ _ (rw p) (rest (rw p at e))

  -- what holds at each place of the list holds of what is found
  pub first-elim : (P : A → Type 0) (f : A → Bool) (l : List A) (d x : A) → ((k : ℕ) → k < length l → P (get_or l k d)) → first f l ≡ some x → P x
  unfolding first
  first-elim P f [] d x each e = let z : ◌≡◌ {A = ℕ} 0 1 = cc in absurd (omega arith)
  first-elim P f (y ∷ l) d x each e = by (f y) refl (first-elim P f l d x (λ k h. each (suc k) (omega arith)))
    where
      by : (b : Bool) → f y ≡ b → (first f l ≡ some x → P x) → P x
      by true p rest =
          let found : some y ≡ some x = rw p at e in
          let q : y ≡ x = cc in
          subst P q (each 0 (omega arith))
      by false p rest = rest (rw p at e)

  -- what is found stands at a place before which the test holds nowhere
  pub first-place : (f : A → Bool) (l : List A) (d x : A) → first f l ≡ some x
      → (place : ℕ) × (place < length l) × (get_or l place d ≡ x) × ((earlier : ℕ) → earlier < place → f (get_or l earlier d) ≡ false)
  unfolding first
  first-place f [] d x e = let z : ◌≡◌ {A = ℕ} 0 1 = cc in absurd (omega arith)
  first-place f (y ∷ l) d x e = by (f y) refl (first-place f l d x)
    where
      one_on : f y ≡ false → (k : ℕ) → ((j : ℕ) → j < k → f (get_or l j d) ≡ false) → (j : ℕ) → j < suc k → f (get_or (y ∷ l) j d) ≡ false
      one_on p k before zero h = p
      one_on p k before (suc j) h = before j (omega arith)

      by : (b : Bool) → f y ≡ b
          → (first f l ≡ some x → (place : ℕ) × (place < length l) × (get_or l place d ≡ x) × ((earlier : ℕ) → earlier < place → f (get_or l earlier d) ≡ false))
          → (place : ℕ) × (place < suc (length l)) × (get_or (y ∷ l) place d ≡ x) × ((earlier : ℕ) → earlier < place → f (get_or (y ∷ l) earlier d) ≡ false)
      by true p later = let found : some y ≡ some x = rw p at e in (0, omega arith, cc, λ j h. absurd (omega arith))
      by false p later = let rest = later (rw p at e) in (suc rest.0, omega (arith, rest.1), rest.2, one_on p rest.0 rest.3)
