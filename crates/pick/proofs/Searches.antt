-- The two searches, a turn at a time: what is found among the first g groups, and what one more group makes of it.
use mathlib.Core.Bool.{Bool, true, false, cond}
use mathlib.Core.List.{List}
use mathlib.Core.Logic.{◌⊎◌, inl, inr}
use mathlib.Core.Path.{◌≡◌, refl}
use Prim.Native.Nat.{ℕ, zero, suc, ◌+◌, ◌*◌, ◌-◌, ◌<◌, ◌≤◌, ◌^◌}
use native.Mathlib.Numerals.{add-one}
use native.Mathlib.Omega.{arith}
use lib.Dec.{ltb}
use lib.ListN.{get_or}
use borrow.Author.Tests.{lt-ltb, le-ltb, le-leb, lt-leb, leb-true}
use Rattle.std.specs.Prelude.{Option, None, Some}
use Rattle.slot.specs.Logic.{◌and◌}
use Rattle.slot.proofs.Logic.{and-false}
use Rattle.pick.specs.Groups.{usable, erases, negative, last_count}
use Rattle.pick.specs.Pick.{negative_at, pickable, better, picked}
use Rattle.pick.proofs.PicksRight.{picks-right}

module _ (words : List ℕ) where
  -- what was found is found among more groups too
  found_among : (k more p : ℕ) → negative_at words k ≡ Some p → negative_at words (more + k) ≡ Some p
  unfolding negative_at
  found_among k zero p e = let here : 0 + k ≡ k = omega arith in rw here e
  found_among k (suc more) p e = let next : suc more + k ≡ suc (more + k) = omega arith in rw (next, found_among k more p e)

  -- none is found among no group
  pub negative_start : negative_at words 0 ≡ None
  unfolding negative_at
  negative_start = refl

  -- no count so far is negative, and that of group g is
  pub negative_found : (groups g : ℕ) → negative_at words g ≡ None → g < groups → 2 ^ 31 ≤ erases words g
      → Some (2 * g + 1) ≡ negative_at words groups
  unfolding negative_at negative
  negative_found groups g none_yet h low =
      let here : negative_at words (suc g) ≡ Some (2 * g + 1) = rw (none_yet, le-leb (2 ^ 31) (erases words g) low) in
      let far : groups - suc g + suc g ≡ groups = omega arith in
      let found : negative_at words groups ≡ Some (2 * g + 1) = rw (← far) (found_among (suc g) (groups - suc g) (2 * g + 1) here) in
      rw found

  -- .. nor is that of group g
  pub negative_next : (g : ℕ) → negative_at words g ≡ None → erases words g < 2 ^ 31 → negative_at words (g + 1) ≡ None
  unfolding negative_at negative
  negative_next g none_yet low = rw (add-one g, none_yet, lt-leb (2 ^ 31) (erases words g) low)

  -- the fewest erases so far, or the last count
  abbrev pub fewest_in : Option ℕ → ℕ
  fewest_in None = last_count
  fewest_in (Some g) = erases words g

  -- what the search knows once it has seen g groups
  pub record Sought (g fewest : ℕ) (best : Option ℕ) : Type 0 where
    pub best_is : best ≡ picked words g
    pub fewest_is : fewest ≡ fewest_in best

  pub sought-none : Sought 0 last_count None
  unfolding picked
  sought-none = record { best_is = refl; fewest_is = refl }

  -- group g is not better than the best of those before it
  not-better : (g : ℕ) (o : Option ℕ) → (usable words g ≡ true → fewest_in o ≤ erases words g) → better words g o ≡ o
  unfolding pickable ◌and◌
  not-better g None few = by (usable words g) refl
    where
      by : (b : Bool) → usable words g ≡ b → cond (usable words g and ltb (erases words g) last_count) (Some g) None ≡ None
      by true u = let few = few u in rw (u, le-ltb (erases words g) last_count few)
      by false u = rw u
  not-better g (Some best) few = by (usable words g) refl
    where
      by : (b : Bool) → usable words g ≡ b
          → cond ((usable words g and ltb (erases words g) last_count) and ltb (erases words g) (erases words best)) (Some g) (Some best) ≡ Some best
      by true u = rw (le-ltb (erases words g) (erases words best) (few u), and-false (usable words g and ltb (erases words g) last_count))
      by false u = rw u

  -- group g is better
  takes : (g : ℕ) (o : Option ℕ) → fewest_in o ≤ last_count → usable words g ≡ true → erases words g < fewest_in o → better words g o ≡ Some g
  unfolding pickable ◌and◌
  takes g None most u few = rw (u, lt-ltb (erases words g) last_count few)
  takes g (Some best) most u few = rw (u, lt-ltb (erases words g) last_count (omega arith), lt-ltb (erases words g) (erases words best) few)

  -- what is picked is below the last count
  most-picked : (g : ℕ) → fewest_in (picked words g) ≤ last_count
  most-picked g = by (picked words g) refl
    where
      by : (o : Option ℕ) → picked words g ≡ o → fewest_in o ≤ last_count
      by None e = omega arith
      by (Some best) e = let below = (picks-right.pick words g best e).below in omega arith

  module _ (g fewest : ℕ) (best : Option ℕ) (seen : Sought g fewest best) where
    pub sought-better : (get_or words (2 * g) 0 ≡ 0 → ⊥) → erases words g < fewest → Sought (g + 1) (erases words g) (Some g)
    unfolding picked
    sought-better u few =
        let less : erases words g < fewest_in (picked words g) = rw (← seen.best_is, ← seen.fewest_is) few in
        let is_usable = le-leb 1 (get_or words (2 * g) 0) (omega arith) in
        record { best_is = rw (add-one g, takes g (picked words g) (most-picked g) is_usable less); fewest_is = refl }

    -- .. or not: it has no fewer erases, or is not usable
    pub sought-other : ((get_or words (2 * g) 0 ≡ 0 → ⊥) × (fewest ≤ erases words g)) ⊎ (get_or words (2 * g) 0 ≡ 0) → Sought (g + 1) fewest best
    unfolding picked
    sought-other why =
        record { best_is = rw (add-one g, not-better g (picked words g) (most why)) seen.best_is; fewest_is = seen.fewest_is }
      where
        most : ((get_or words (2 * g) 0 ≡ 0 → ⊥) × (fewest ≤ erases words g)) ⊎ (get_or words (2 * g) 0 ≡ 0)
            → usable words g ≡ true → fewest_in (picked words g) ≤ erases words g
        most (inl (u, few)) e = rw (← seen.best_is, ← seen.fewest_is) few
        most (inr zero_word) e = let some_word = leb-true _ _ e in absurd (omega arith)
