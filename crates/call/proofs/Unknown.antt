-- A call has no step exactly where its step number is outside 1 to 14: the definition is a chain of tests for 1, 2, .. 14, none of whose answers is `Unknown`.
use mathlib.Core.Bool.{Bool, true, false, cond}
use mathlib.Core.List.{List, [], ◌∷◌}
use mathlib.Core.Path.{◌≡◌, refl}
use Prim.Native.Nat.{ℕ, zero, suc, ◌+◌, ◌≤◌, ◌<◌}
use native.Mathlib.Omega.{arith}
use borrow.Author.Tests.{eqb-false, leb-true, leb-false, ne_eqb}
use lib.Dec.{eqb, leb}
use lib.ListN.{length}
use Rattle.std.specs.Prelude.{Option, Some, None, Ok, Err}
use Rattle.value.specs.declared.CellValue.{CellValue}
use Rattle.value.specs.Value.{parsed}
use Rattle.call.specs.declared.Step.TheVariants.{Begin, Read, Close, Lock, Enter, Reread, Ask, Reload, Ignore, Finish, Publish, GiveUp}
use Rattle.call.specs.declared.Undecoded.TheVariants.{IllegalWrite, IllegalUpdate, Unknown}
use Rattle.call.specs.Decode.{Decoded, a_write, an_update, decoded}

-- ---- a chain of tests for n, n + 1, ..

abbrev chain : ℕ → ℕ → List Decoded → Decoded
chain step n [] = Err Unknown
chain step n (a ∷ ds) = cond (eqb step n) a (chain step (suc n) ds)

abbrev known : Decoded → Bool
known (Ok s) = true
known (Err (IllegalWrite c)) = true
known (Err (IllegalUpdate c)) = true
known (Err Unknown) = false

abbrev AllKnown : List Decoded → Type 0
AllKnown [] = Unit
AllKnown (a ∷ ds) = (known a ≡ true) × AllKnown ds

module _ (step : ℕ) where
  below : (ds : List Decoded) (n : ℕ) → step < n → chain step n ds ≡ Err Unknown
  below [] n h = refl
  below (a ∷ ds) n h = rw (ne_eqb step n (λ e. omega arith)) (below ds (suc n) (omega arith))

  above : (ds : List Decoded) (n : ℕ) → n + length ds ≤ step → chain step n ds ≡ Err Unknown
  above [] n h = refl
  above (a ∷ ds) n h = rw (ne_eqb step n (λ e. omega arith)) (above ds (suc n) (omega arith))

  by-test : (a b : Decoded) (n : ℕ) (t : Bool) → eqb step n ≡ t → known a ≡ true → ((step ≡ n → ⊥) → known b ≡ true) → known (cond (eqb step n) a b) ≡ true
  by-test a b n true e p q = rw e p
  by-test a b n false e p q = rw e (q (eqb-false step n e))

  within : (ds : List Decoded) (n : ℕ) → AllKnown ds → n ≤ step → step < n + length ds → known (chain step n ds) ≡ true
  within [] n k l h = absurd (omega arith)
  within (a ∷ ds) n k l h = by-test a (chain step (suc n) ds) n (eqb step n) refl k.0 (λ e. within ds (suc n) k.1 (omega arith) (omega arith))

by_size : (step : ℕ) → (1 ≤ step → step ≤ 14 → ⊥) → (t : Bool) → leb step 14 ≡ t → (ds : List Decoded) → length ds ≡ 14 → chain step 1 ds ≡ Err Unknown
by_size step out false e ds n = above step ds 1 (omega (arith, leb-false step 14 e))
by_size zero out true e ds n = below 0 ds 1 (omega arith)
by_size (suc m) out true e ds n = absurd (out (omega arith) (leb-true (suc m) 14 e))

-- ---- the last arm of a `match` on 1, 2, .. n

abbrev NoneTo : ℕ → ℕ → Type 0
NoneTo step zero = Unit
NoneTo step (suc n) = NoneTo step n × (step ≡ suc n → ⊥)

pub last_arm : (step n : ℕ) → NoneTo step n → 1 ≤ step → step ≤ n → ⊥
last_arm step zero r l h = omega arith
last_arm step (suc n) r l h = last_arm step n r.0 l (omega (arith, r.1))

-- ---- the fourteen steps

module _ (step cell kind word : ℕ) where
  steps : List Decoded
  steps =
      Ok Begin ∷ Ok (Read cell) ∷ a_write cell (parsed kind word) ∷ Ok Close ∷ Ok Lock ∷ Ok Enter ∷ Ok (Reread cell)
      ∷ an_update cell (parsed kind word) ∷ Ok (Ask cell) ∷ Ok Reload ∷ Ok Ignore ∷ Ok Finish ∷ Ok Publish ∷ Ok GiveUp ∷ []

  is-chain : decoded step cell kind word ≡ chain step 1 steps
  unfolding decoded steps
  is-chain = refl

  known-write : (p : Option CellValue) → known (a_write cell p) ≡ true
  known-write (Some v) = refl
  known-write None = refl

  known-update : (p : Option CellValue) → known (an_update cell p) ≡ true
  known-update (Some v) = refl
  known-update None = refl

  all_known : AllKnown steps
  unfolding steps
  all_known =
      (refl, (refl, (known-write (parsed kind word), (refl, (refl, (refl, (refl, (known-update (parsed kind word), (refl, (refl, (refl, (refl, (refl, (refl, tt))))))))))))))

  -- A step number outside 1 to 14 is unknown.
  pub unknown-outside : (1 ≤ step → step ≤ 14 → ⊥) → decoded step cell kind word ≡ Err Unknown
  unfolding steps
  unknown-outside out = rw is-chain (by_size step out (leb step 14) refl steps refl)

  -- A step number from 1 to 14 is known.
  pub known-within : 1 ≤ step → step ≤ 14 → decoded step cell kind word ≡ Err Unknown → ⊥
  unfolding steps
  known-within l h e =
      let k : known (decoded step cell kind word) ≡ true = rw is-chain (within step steps 1 all_known l (omega arith)) in
      let z : ◌≡◌ {A = ℕ} 0 1 = cc (rw e at k) in omega arith
