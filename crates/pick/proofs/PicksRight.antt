-- The pick rule, group by group: what the best of the first n groups is, once one more is looked at.
use mathlib.Core.Bool.{Bool, true, false, cond, false≢true}
use mathlib.Core.List.{List}
use Rattle.std.specs.Prelude.{Option, None, Some}
use mathlib.Core.Path.{◌≡◌, refl, sym, ◌∙◌, ap, subst}
use Prim.Native.Nat.{ℕ, zero, suc, ◌<◌, ◌≤◌}
use native.Mathlib.Omega.{arith}
use lib.Dec.{ltb}
use borrow.Author.Count.{below_more}
use borrow.Author.Tests.{ltb-true, ltb-false, lt-ltb}
use Rattle.slot.specs.Logic.{◌and◌}
use Rattle.slot.proofs.Logic.{and_intro, and_left, and_right}
use Rattle.pick.specs.Groups.{erases_place, usable, erases, negative, last_count}
use Rattle.pick.specs.Pick.{or_else, negative_at, pickable, better, picked}
use Rattle.pick.specs.PicksRight.{NoneLeft, LeastWorn, FirstNegative, PicksRight}

module _ (words : List ℕ) where
  -- a group that can be picked
  abbrev Can : ℕ → Type 0
  Can g = (usable words g ≡ true) × (erases words g < last_count)

  can : (g : ℕ) → pickable words g ≡ true → Can g
  unfolding pickable
  can g p = (and_left _ _ p, ltb-true (erases words g) last_count (and_right _ _ p))

  cannot : (g : ℕ) → pickable words g ≡ false → Can g → ⊥
  unfolding pickable
  cannot g p c = false≢true (sym p ∙ and_intro _ _ c.0 (lt-ltb (erases words g) last_count c.1))

  -- what the search says once it has seen n groups
  abbrev Best : ℕ → Option ℕ → Type 0
  Best n None = NoneLeft words n
  Best n (Some g) = LeastWorn words n g

  -- a fact of the groups below n, and of group n
  one_more : (P : ℕ → Type 0) (n : ℕ) → ((g : ℕ) → g < n → P g) → P n → (g : ℕ) → g < suc n → P g
  one_more P n before here g h = below_more P n before here g (omega arith)

  -- the groups below n that can be picked have at least so many erases
  abbrev AtLeast : ℕ → ℕ → Type 0
  AtLeast n count = (h : ℕ) → h < n → usable words h ≡ true → erases words h < last_count → count ≤ erases words h

  best-next : (n : ℕ) (o : Option ℕ) → Best n o → Best (suc n) (better words n o)
  unfolding ◌and◌
  best-next n None left = by (pickable words n) refl
    where
      by : (b : Bool) → pickable words n ≡ b → Best (suc n) (cond b (Some n) None)
      by true p =
          record {
            inside = omega arith;
            is_usable = (can n p).0;
            below = (can n p).1;
            fewest = one_more (λ h. usable words h ≡ true → erases words h < last_count → erases words n ≤ erases words h) n (λ h l u c. absurd (left h l u c)) (λ u c. omega arith);
            lowest = λ h l u c. absurd (left h l u c);
          }
      by false p = one_more (λ g. usable words g ≡ true → erases words g < last_count → ⊥) n left (λ u l. cannot n p (u, l))
  best-next n (Some g) least = by (pickable words n) (ltb (erases words n) (erases words g)) refl refl
    where
      before : AtLeast n (erases words g)
      before = least.fewest

      stays : (Can n → erases words g ≤ erases words n) → LeastWorn words (suc n) g
      stays few =
          let inside = least.inside in
          record {
            inside = omega arith;
            is_usable = least.is_usable;
            below = least.below;
            fewest = one_more (λ h. usable words h ≡ true → erases words h < last_count → erases words g ≤ erases words h) n before (λ u c. few (u, c));
            lowest = least.lowest;
          }

      by : (b d : Bool) → pickable words n ≡ b → ltb (erases words n) (erases words g) ≡ d → Best (suc n) (cond (b and d) (Some n) (Some g))
      by true true p q =
          let fewer = ltb-true (erases words n) (erases words g) q in
          record {
            inside = omega arith;
            is_usable = (can n p).0;
            below = (can n p).1;
            fewest = one_more (λ h. usable words h ≡ true → erases words h < last_count → erases words n ≤ erases words h) n (λ h l u c. let more = before h l u c in omega arith) (λ u c. omega arith);
            lowest = λ h l u c. let more = before h l u c in omega arith;
          }
      by true false p q = stays (λ c. ltb-false (erases words n) (erases words g) q)
      by false d p q = stays (λ c. absurd (cannot n p c))

  best : (n : ℕ) → Best n (picked words n)
  unfolding picked
  best zero = λ g h u c. absurd (omega arith)
  best (suc n) = best-next n (picked words n) (best n)

  -- there is one least worn group at most
  one-least : (n g h : ℕ) → LeastWorn words n g → LeastWorn words n h → g ≡ h
  one-least n g h p q =
      let few = p.fewest h q.inside q.is_usable q.below in
      let less : h < g → erases words g < erases words h = λ l. p.lowest h l q.is_usable q.below in
      let few' = q.fewest g p.inside p.is_usable p.below in
      let less' : g < h → erases words h < erases words g = λ l. q.lowest g l p.is_usable p.below in
      by (ltb g h) (ltb h g) refl refl few few' less less'
    where
      by : (b d : Bool) → ltb g h ≡ b → ltb h g ≡ d → erases words g ≤ erases words h → erases words h ≤ erases words g
          → (h < g → erases words g < erases words h) → (g < h → erases words h < erases words g) → g ≡ h
      by true d e f few few' less less' = let below = less' (ltb-true g h e) in absurd (omega arith)
      by false true e f few few' less less' = let below = less (ltb-true h g f) in absurd (omega arith)
      by false false e f few few' less less' = let k = ltb-false g h e in let l = ltb-false h g f in omega arith

  -- what was found is what a law says of it
  found-is : (n g : ℕ) → LeastWorn words n g → (o : Option ℕ) → Best n o → o ≡ Some g
  found-is n g p None left = absurd (left g p.inside p.is_usable p.below)
  found-is n g p (Some h) q = ap Some (one-least n h g q p)

  none_is : (n : ℕ) → NoneLeft words n → (o : Option ℕ) → Best n o → o ≡ None
  none_is n left None q = refl
  none_is n left (Some g) q = absurd (left g q.inside q.is_usable q.below)

  -- what the search for a negative count says once it has seen n groups
  abbrev Sign : ℕ → Option ℕ → Type 0
  Sign n None = (g : ℕ) → g < n → negative (erases words g) ≡ false
  Sign n (Some p) = (g : ℕ) × FirstNegative words n g × (p ≡ erases_place g)

  sign-next : (n : ℕ) (o : Option ℕ) → Sign n o → Sign (suc n) (or_else o (cond (negative (erases words n)) (Some (erases_place n)) None))
  sign-next n None sound = by (negative (erases words n)) refl
    where
      by : (b : Bool) → negative (erases words n) ≡ b → Sign (suc n) (cond b (Some (erases_place n)) None)
      by true e = (n, record { inside = omega arith; is_negative = e; earlier = sound }, refl)
      by false e = one_more (λ g. negative (erases words g) ≡ false) n sound e
  sign-next n (Some p) first =
      let here = first.1 in
      let inside = here.inside in
      (first.0, record { inside = omega arith; is_negative = here.is_negative; earlier = here.earlier }, first.2)

  signs : (n : ℕ) → Sign n (negative_at words n)
  unfolding negative_at
  signs zero = λ g h. absurd (omega arith)
  signs (suc n) = sign-next n (negative_at words n) (signs n)

  sound-is : (n : ℕ) → ((g : ℕ) → g < n → negative (erases words g) ≡ false) → (o : Option ℕ) → Sign n o → o ≡ None
  sound-is n sound None q = refl
  sound-is n sound (Some p) q = absurd (false≢true (sym (sound q.0 q.1.inside) ∙ q.1.is_negative))

pub picks-right : PicksRight
picks-right =
    record {
      pick = λ words n g e. subst (Best words n) e (best words n);
      picks = λ words n g p. found-is words n g p (picked words n) (best words n);
      none_left = λ words n e. subst (Best words n) e (best words n);
      no_pick = λ words n left. none_is words n left (picked words n) (best words n);
      sound = λ words n e. subst (Sign words n) e (signs words n);
      all_sound = λ words n sound. sound-is words n sound (negative_at words n) (signs words n);
      first = λ words n p e. subst (Sign words n) e (signs words n);
    }
