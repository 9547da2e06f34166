-- Tests over a table are tests over its places: a table grows at its end, and so do `every`, `all`, `any` and `pairwise` by one element more.
use mathlib.Core.Bool.{Bool, false}
use mathlib.Core.List.{List, [], ◌∷◌, ◌++◌}
use mathlib.Core.Path.{◌≡◌, refl, sym, ◌∙◌, ap, ap₂}
use Prim.Native.Nat.{ℕ, zero, suc, ◌+◌, ◌-◌, ◌<◌, ◌≤◌}
use native.Mathlib.Nat.{add-zero, add-suc}
use native.Mathlib.Numerals.{add-one}
use native.Mathlib.Omega.{arith}
use lib.ListN.{get_or, take}
use Rattle.wire.specs.Table.{cat, tab}
use Rattle.wire.proofs.Laws.Table.{length-tab, get_or-tab, tab-ext, tab-take}
use Rattle.slot.specs.Logic.{◌and◌, ◌or◌, every, all, any, pairwise}
use Rattle.slot.proofs.Logic.{and-true, true-and, and_assoc, or-false, any_snoc}
use Rattle.logcheck.proofs.Chains.{and_comm, and-swap, every-and}

module _ {A : Type 0} where
  -- one element more at the end
  all_snoc : (p : A → Bool) (l : List A) (x : A) → all p (l ++ (x ∷ [])) ≡ (all p l and p x)
  unfolding all
  all_snoc p [] x = and-true (p x) ∙ sym (true-and (p x))
  all_snoc p (y ∷ l) x = ap (λ (b : Bool). p y and b) (all_snoc p l x) ∙ sym (and_assoc (p y) (all p l) (p x))

  pairwise-snoc : (R : A → A → Bool) (l : List A) (x : A) → pairwise R (l ++ (x ∷ [])) ≡ (pairwise R l and all (λ y. R y x) l)
  unfolding all pairwise
  pairwise-snoc R [] x = refl
  pairwise-snoc R (y ∷ l) x =
      ap₂ ◌and◌ (all_snoc (R y) l x) (pairwise-snoc R l x) ∙ law (all (R y) l) (R y x) (pairwise R l) (all (λ z. R z x) l)
    where
      law : (a b c d : Bool) → ((a and b) and (c and d)) ≡ ((a and c) and (b and d))
      law a b c d = simp (and_assoc, and-swap, and_comm)

  module _ (g : ℕ → A) where
    -- the front of a table
    pub take-tab : (k n : ℕ) → k ≤ n → take k (tab n g) ≡ tab k g
    take-tab k n h =
        sym (tab-take k (tab n g) (g 0) (rw length-tab h))
        ∙ tab-ext k (λ i. get_or (tab n g) i (g 0)) g (λ i b. get_or-tab n g (g 0) i (omega arith))

    pub all-tab : (p : A → Bool) (n : ℕ) → all p (tab n g) ≡ every n (λ i. p (g i))
    unfolding all every tab cat
    all-tab p zero = refl
    all-tab p (suc n) = all_snoc p (tab n g) (g n) ∙ ap (λ (b : Bool). b and p (g n)) (all-tab p n)

    pub any_next : (p : A → Bool) (n : ℕ) → any p (tab (n + 1) g) ≡ (any p (tab n g) or p (g n))
    unfolding tab cat
    any_next p n = rw (add-one n) (any_snoc p (tab n g) (g n))

    -- a test that fails from `k` on is decided below `k`
    any-past : (p : A → Bool) (k m : ℕ) → ((i : ℕ) → k ≤ i → i < k + m → p (g i) ≡ false) → any p (tab (k + m) g) ≡ any p (tab k g)
    unfolding tab cat
    any-past p k zero f = rw add-zero
    any-past p k (suc m) f =
        let last : p (g (k + m)) ≡ false = f (k + m) (omega arith) (omega arith) in
        rw add-suc (any_snoc p (tab (k + m) g) (g (k + m)) ∙ ap₂ ◌or◌ (any-past p k m (λ i h b. f i h (omega arith))) last ∙ or-false _)

    pub any-cut : (p : A → Bool) (k n : ℕ) → k ≤ n → ((i : ℕ) → k ≤ i → i < n → p (g i) ≡ false) → any p (tab n g) ≡ any p (tab k g)
    any-cut p k n h f =
        let whole : k + (n - k) ≡ n = omega arith in
        ap (λ (x : ℕ). any p (tab x g)) (sym whole) ∙ any-past p k (n - k) (λ i a b. f i a (omega arith))

    pub pairwise-tab : (R : A → A → Bool) (n : ℕ) → pairwise R (tab n g) ≡ every n (λ j. every j (λ i. R (g i) (g j)))
    unfolding pairwise every tab cat
    pairwise-tab R zero = refl
    pairwise-tab R (suc n) =
        pairwise-snoc R (tab n g) (g n) ∙ ap₂ ◌and◌ (pairwise-tab R n) (all-tab (λ x. R x (g n)) n)

    -- a log in the front of a table: at each place its own test, and the test against every earlier one
    pub log-tab : (p : A → Bool) (R : A → A → Bool) (k n : ℕ) → k ≤ n
        → every k (λ j. p (g j) and every j (λ i. R (g i) (g j))) ≡ (all p (take k (tab n g)) and pairwise R (take k (tab n g)))
    log-tab p R k n h =
        sym (every-and k (λ j. p (g j)) (λ j. every j (λ i. R (g i) (g j))))
        ∙ rw (take-tab k n h, all-tab p k, pairwise-tab R k)
