-- A slot's claims, entry by entry: one entry more claims one cell more, and what is due changes at that cell alone.
use mathlib.Core.Bool.{Bool, true, false, cond, false≢true}
use mathlib.Core.List.{List, [], ◌∷◌, ◌++◌}
use mathlib.Core.Path.{◌≡◌, refl, sym, ◌∙◌, ap, subst}
use Prim.Native.Nat.{ℕ, zero, suc, ◌+◌, ◌*◌, ◌<◌, ◌≤◌}
use native.Mathlib.Numerals.{add-one}
use native.Mathlib.Omega.{arith}
use borrow.Author.Count.{below_more}
use borrow.Author.Tests.{eq-eqb, eqb-true, eqb-false}
use lib.Dec.{eqb}
use lib.ListN.{length, get_or, drop, set, drop_of_length-le}
use lib.Seq.{drop-append-le, get_or-set_same, get_or-set_other}
use Rattle.wire.specs.Table.{cat, tab}
use Rattle.wire.proofs.Laws.Table.{length-tab}
use Rattle.slot.specs.declared.WriteEntry.{WriteEntry}
use Rattle.slot.specs.Layout.{write_of}
use Rattle.slot.specs.Logic.{◌or◌, any}
use Rattle.slot.specs.Logs.{writes_cell}
use Rattle.slot.proofs.Logic.{true-or, or-true, false-or, or-false, both_ways, any_snoc}
use Rattle.slot.proofs.Entry.{first_byte}
use Rattle.rules.specs.Layout.{count_in}
use Rattle.logcheck.proofs.Chains.{either}
use Rattle.wellformed.specs.Claims.{holder_in, in_part, claim_right, Claimed}
use Rattle.wellformed.proofs.HolderLaws.{claim-at, claim-of}

-- a part of a write log: no entry, one entry more, and each entry's cell
module _ (l : List ℕ) (from : ℕ) where
  pub part-start : (x : ℕ) → in_part l from from x ≡ false
  unfolding in_part writes_cell any
  part-start x =
      let g : ℕ → WriteEntry = λ i. write_of (drop (117 + 5 * i) l) in
      ap (any (λ (e : WriteEntry). eqb e.cell x)) (drop_of_length-le (tab from g) {i = from} (rw length-tab (omega arith)))

  pub part-next : (i : ℕ) → from ≤ i → (x : ℕ) → in_part l from (i + 1) x ≡ (in_part l from i x or eqb (get_or l (117 + 5 * i) 0) x)
  unfolding in_part writes_cell write_of tab cat
  part-next i h x =
      let g : ℕ → WriteEntry = λ j. write_of (drop (117 + 5 * j) l) in
      let longer : drop from (tab i g ++ (g i ∷ [])) ≡ drop from (tab i g) ++ (g i ∷ []) =
      drop-append-le from (tab i g) (g i ∷ []) (rw length-tab h) in
      rw (add-one i, first_byte l (117 + 5 * i))
      (ap (any (λ (e : WriteEntry). eqb e.cell x)) longer ∙ any_snoc (λ (e : WriteEntry). eqb e.cell x) (drop from (tab i g)) (g i))

  pub part-has : (to i : ℕ) → from ≤ i → i < to → in_part l from to (get_or l (117 + 5 * i) 0) ≡ true
  part-has zero i h b = absurd (omega arith)
  part-has (suc to) i h b =
      below_more (λ k. from ≤ k → in_part l from (suc to) (get_or l (117 + 5 * k) 0) ≡ true) to
      (λ k c f. rw (← add-one to, part-next to (omega arith) (get_or l (117 + 5 * k) 0), part-has to k f c) (true-or _))
      (λ f. rw (← add-one to, part-next to f (get_or l (117 + 5 * to) 0), eq-eqb (get_or l (117 + 5 * to) 0) _ refl) (or-true _))
      i (omega arith) h

module _ (a : List ℕ) (slot : ℕ) where
  -- no claim
  pub claimed-none : (H : ℕ → Bool) → ((c : ℕ) → H c ≡ false) → (due : List ℕ) → Claimed a H slot true due due
  claimed-none H none due =
      record {
        right = sym (claim-of (count_in a) (holder_in a) H slot (λ c b q. absurd (false≢true (sym (none c) ∙ q))));
        laid = λ p c b. rw (none c);
      }

  -- a claim of a cell that another slot holds, or none
  pub claimed-wrong : (H : ℕ → Bool) (c : ℕ) → c < count_in a → H c ≡ true → (holder_in a c ≡ slot → ⊥) → (before after : List ℕ)
      → Claimed a H slot false before after
  claimed-wrong H c b q other before after =
      record {
        right =
            both_ways false (claim_right (count_in a) (holder_in a) H slot) (λ p. absurd (false≢true p)) (λ p. absurd (other (claim-at (count_in a) (holder_in a) H slot p c b q)));
        laid = λ p. absurd (false≢true p);
      }

  -- one claim more
  pub claimed-next : (H K : ℕ → Bool) (c : ℕ) (before due : List ℕ) → ((x : ℕ) → K x ≡ (H x or eqb c x)) → c < length due → holder_in a c ≡ slot
      → Claimed a H slot true before due → Claimed a K slot true before (set due c slot)
  claimed-next H K c before due more room held claimed =
      record {
        right = sym (claim-of (count_in a) (holder_in a) K slot (λ x b q. either (H x) (claim-at (count_in a) (holder_in a) H slot (sym claimed.right) x b) (new x b q)));
        laid = λ p x b. either (eqb c x) (same x) (other x b);
      }
    where
      new : (x : ℕ) → x < count_in a → K x ≡ true → H x ≡ false → holder_in a x ≡ slot
      new x b q f =
          let is : c ≡ x = eqb-true _ _ (sym (more x ∙ rw f (false-or _)) ∙ q) in
          rw is at held

      same : (x : ℕ) → eqb c x ≡ true → get_or (set due c slot) x 0 ≡ cond (K x) slot (get_or before x 0)
      same x e =
          let is : c ≡ x = eqb-true _ _ e in
          let claims : K x ≡ true = more x ∙ rw e (or-true _) in
          rw claims (rw (← is) (get_or-set_same due c slot 0 room))

      other : (x : ℕ) → x < count_in a → eqb c x ≡ false → get_or (set due c slot) x 0 ≡ cond (K x) slot (get_or before x 0)
      other x b e =
          let kept : K x ≡ H x = more x ∙ rw e (or-false _) in
          get_or-set_other due c x slot 0 (λ s. eqb-false _ _ e (sym s)) ∙ claimed.laid refl x b ∙ rw kept

  -- the same claims
  pub claimed-ext : (H K : ℕ → Bool) (r : Bool) (before after : List ℕ) → ((c : ℕ) → H c ≡ K c)
      → Claimed a H slot r before after → Claimed a K slot r before after
  claimed-ext H K r before after e claimed = subst (λ (F : ℕ → Bool). Claimed a F slot r before after) (λ i c. e c i) claimed
