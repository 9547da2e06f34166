-- The holder rule by what is due. Where each slot holds what it claims, no cell is claimed twice, so that what is due to a cell is the one slot that claims
-- it, or 0; a holder that is the slot due is then right, and no other one is.
use mathlib.Core.Bool.{Bool, true, false, not, cond, false≢true}
use mathlib.Core.Path.{◌≡◌, refl, sym, ◌∙◌, ap}
use Prim.Native.Nat.{ℕ, zero, suc, ◌+◌, ◌<◌, ◌≤◌}
use native.Mathlib.Omega.{arith}
use borrow.Author.Count.{below_more}
use borrow.Author.Tests.{eq-eqb, ne_eqb, eqb-true, le-leb, leb-true}
use lib.Dec.{eqb, leb}
use Rattle.slot.specs.Logic.{◌and◌, ◌or◌, same, every}
use Rattle.slot.proofs.Logic.{and_intro, and_left, and_right, or_right, or-when, both_ways, every-at, every_of}
use Rattle.logcheck.proofs.Chains.{either}
use Rattle.wellformed.specs.Claims.{claim_right}

same_true : (a b : Bool) → same a b ≡ true → a ≡ b
unfolding same
same_true true b p = sym p
same_true false true p = absurd (false≢true p)
same_true false false p = refl

true_same : (a b : Bool) → a ≡ b → same a b ≡ true
unfolding same
true_same true b p = sym p
true_same false b p = rw (← p)

-- a right claim, cell by cell
pub claim-at : (n : ℕ) (h : ℕ → ℕ) (H : ℕ → Bool) (slot : ℕ) → claim_right n h H slot ≡ true → (c : ℕ) → c < n → H c ≡ true → h c ≡ slot
unfolding claim_right
claim-at n h H slot p c b q =
    eqb-true _ _ (or_right (not (H c)) (eqb (h c) slot) (ap not q) (every-at n (λ x. not (H x) or eqb (h x) slot) p c b))

pub claim-of : (n : ℕ) (h : ℕ → ℕ) (H : ℕ → Bool) (slot : ℕ) → ((c : ℕ) → c < n → H c ≡ true → h c ≡ slot) → claim_right n h H slot ≡ true
unfolding claim_right
claim-of n h H slot p =
    every_of n (λ x. not (H x) or eqb (h x) slot) (λ c b. or-when (not (H c)) (eqb (h c) slot) (λ q. eq-eqb _ _ (p c b (borrow.Author.Tests.not-false _ q))))

module _ (n : ℕ) (h : ℕ → ℕ) (H : ℕ → ℕ → Bool) where
  -- d gives each cell the one of the first k slots that claims it, or 0
  pub record Due (k : ℕ) (d : ℕ → ℕ) : Type 0 where
    pub below : (c : ℕ) → c < n → d c ≤ k
    pub exact : (c : ℕ) → c < n → (s : ℕ) → s < k → eqb (d c) (suc s) ≡ H s c

  abbrev pub claim : ℕ → Bool
  claim k = claim_right n h (H k) (suc k)

  abbrev pub holders : ℕ → Bool
  holders slots = every n (λ c. leb (h c) slots and every slots (λ s. same (eqb (h c) (suc s)) (H s c)))

  pub due-start : (d : ℕ → ℕ) → ((c : ℕ) → c < n → d c ≡ 0) → Due 0 d
  due-start d z = record { below = λ c b. let e = z c b in omega arith; exact = λ c b s l. absurd (omega arith) }

  pub due-next : (k : ℕ) (d e : ℕ → ℕ) → every k claim ≡ true → claim k ≡ true → Due k d → ((c : ℕ) → c < n → e c ≡ cond (H k c) (suc k) (d c))
      → Due (k + 1) e
  due-next k d e before now due laid =
      record {
        below = λ c b. either (H k c) (λ q. let new = here c b q in omega arith) (λ q. let old = there c b q in omega (arith, due.below c b));
        exact = λ c b s l. either (H k c) (claimed c b s l) (unclaimed c b s l);
      }
    where
      here : (c : ℕ) → c < n → H k c ≡ true → e c ≡ suc k
      here c b q = laid c b ∙ rw q

      there : (c : ℕ) → c < n → H k c ≡ false → e c ≡ d c
      there c b q = laid c b ∙ rw q

      claimed : (c : ℕ) → c < n → (s : ℕ) → s < k + 1 → H k c ≡ true → eqb (e c) (suc s) ≡ H s c
      claimed c b s l q =
          below_more (λ j. eqb (e c) (suc j) ≡ H j c) k
          (λ j m. ne_eqb (e c) (suc j) (λ x. let new = here c b q in omega arith)
          ∙ sym (either (H j c)
          (λ p.
          let first = claim-at n h (H j) (suc j) (every-at k claim before j m) c b p in
          let second = claim-at n h (H k) (suc k) now c b q in
          absurd (omega arith))
          (λ p. p)))
          (eq-eqb (e c) (suc k) (here c b q) ∙ sym q) s l

      unclaimed : (c : ℕ) → c < n → (s : ℕ) → s < k + 1 → H k c ≡ false → eqb (e c) (suc s) ≡ H s c
      unclaimed c b s l q =
          below_more (λ j. eqb (e c) (suc j) ≡ H j c) k
          (λ j m. ap (λ (x : ℕ). eqb x (suc j)) (there c b q) ∙ due.exact c b j m)
          (ne_eqb (e c) (suc k) (λ x. let old = there c b q in omega (arith, due.below c b)) ∙ sym q) s l

  module _ (slots : ℕ) where
    -- right holders, cell by cell
    holder-at : holders slots ≡ true → (c : ℕ) → c < n → (h c ≤ slots) × ((s : ℕ) → s < slots → eqb (h c) (suc s) ≡ H s c)
    holder-at p c b =
        let q = every-at n (λ x. leb (h x) slots and every slots (λ s. same (eqb (h x) (suc s)) (H s x))) p c b in
        (leb-true _ _ (and_left _ _ q), λ s l. same_true _ _ (every-at slots (λ j. same (eqb (h c) (suc j)) (H j c)) (and_right _ _ q) s l))

    holder-of : ((c : ℕ) → c < n → (h c ≤ slots) × ((s : ℕ) → s < slots → eqb (h c) (suc s) ≡ H s c)) → holders slots ≡ true
    holder-of p =
        every_of n (λ x. leb (h x) slots and every slots (λ s. same (eqb (h x) (suc s)) (H s x)))
        (λ c b. and_intro _ _ (le-leb _ _ (p c b).0) (every_of slots (λ s. same (eqb (h c) (suc s)) (H s c)) (λ s l. true_same _ _ ((p c b).1 s l))))

    -- a wrong claim
    pub holders-no : (k : ℕ) → k < slots → claim k ≡ false → false ≡ holders slots
    holders-no k l p =
        both_ways false (holders slots) (λ q. absurd (false≢true q))
        (λ q. sym p ∙ claim-of n h (H k) (suc k) (λ c b x. eqb-true _ _ ((holder-at q c b).1 k l ∙ x)))

    -- right claims: each holder is the slot due
    pub holders-due : (d : ℕ → ℕ) → Due slots d → every n (λ c. eqb (h c) (d c)) ≡ holders slots
    holders-due d due =
        both_ways (every n (λ c. eqb (h c) (d c))) (holders slots)
        (λ p. holder-of (λ c b.
        let is : h c ≡ d c = eqb-true _ _ (every-at n (λ x. eqb (h x) (d x)) p c b) in
        (rw is (due.below c b), λ s l. ap (λ (x : ℕ). eqb x (suc s)) is ∙ due.exact c b s l)))
        (λ p. every_of n (λ c. eqb (h c) (d c)) (λ c b.
        eq-eqb _ _ (one (h c) (d c) (holder-at p c b).0 (due.below c b) (λ s l. (holder-at p c b).1 s l ∙ sym (due.exact c b s l)))))
      where
        -- two numbers up to `slots` that are the same of 1 to `slots`
        one : (x y : ℕ) → x ≤ slots → y ≤ slots → ((s : ℕ) → s < slots → eqb x (suc s) ≡ eqb y (suc s)) → x ≡ y
        one x zero p q r = two x p r
          where
            two : (x : ℕ) → x ≤ slots → ((s : ℕ) → s < slots → eqb x (suc s) ≡ eqb 0 (suc s)) → x ≡ 0
            two zero p r = refl
            two (suc x) p r = sym (eqb-true 0 (suc x) (sym (r x p) ∙ eq-eqb (suc x) (suc x) refl))
        one x (suc y) p q r = eqb-true x (suc y) (r y q ∙ eq-eqb (suc y) (suc y) refl)
