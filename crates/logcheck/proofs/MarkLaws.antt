-- The marks of a log gathered by a bitwise or: numbers up to 1 are bits, on which it is a disjunction, and no number above 1 gets lost in it. No entry past
-- the count is marked where unused entries are zero.
use mathlib.Core.Bool.{Bool, true, false, not}
use mathlib.Core.List.{List}
use mathlib.Core.Path.{◌≡◌, refl, sym, ◌∙◌, ap, ap₂}
use Prim.Native.Nat.{ℕ, zero, suc, ◌+◌, ◌*◌, ◌<◌, ◌≤◌}
use native.Mathlib.Numerals.{add-one}
use native.Mathlib.Omega.{arith}
use borrow.Author.Tests.{eq-eqb, ne_eqb, le-leb, lt-leb, leb-true, le-ltb}
use lib.Bits.{bit_or, or_add_and, and_le_l, and_le_r}
use lib.Dec.{eqb, ltb, leb}
use lib.ListN.{get_or, drop}
use lib.Seq.{get_or-drop}
use Rattle.wire.specs.Table.{cat, tab}
use Rattle.slot.specs.declared.ReadEntry.{ReadEntry}
use Rattle.slot.specs.Layout.{read_of, slot_of}
use Rattle.slot.specs.Logic.{◌and◌, ◌or◌, every, any}
use Rattle.slot.specs.Logs.{read_log, some_marked}
use Rattle.slot.proofs.Logic.{and_intro, and_left, and_right, and-true, and-false, or_right, false-or, or-false, true-or, or-true, true-and, both_ways, every-at}
use Rattle.rules.specs.AreaRight.{zeros, marks_right, ignoring_right, flags_right, unused_zero}
use Rattle.rules.proofs.Zeros.{zeros-at}
use Rattle.logcheck.specs.Logged.{Counted}
use Rattle.logcheck.specs.Marked.{MarksGathered, marked_right}
use Rattle.logcheck.proofs.Chains.{stop}
use Rattle.logcheck.proofs.Tables.{take-tab, any_next, any-cut}

-- bits: a bitwise or of two is a disjunction
or-bit : (a b : ℕ) → a ≤ 1 → b ≤ 1 → (bit_or a b ≤ 1) × (eqb (bit_or a b) 1 ≡ (eqb a 1 or eqb b 1))
unfolding ◌or◌
or-bit zero zero p q = (omega arith, refl)
or-bit zero (suc zero) p q = (omega arith, refl)
or-bit (suc zero) zero p q = (omega arith, refl)
or-bit (suc zero) (suc zero) p q = (omega arith, refl)
or-bit (suc (suc a)) b p q = absurd (omega arith)
or-bit zero (suc (suc b)) p q = absurd (omega arith)
or-bit (suc zero) (suc (suc b)) p q = absurd (omega arith)

or-fits : (a b : ℕ) → leb (bit_or a b) 1 ≡ (leb a 1 and leb b 1)
or-fits a b =
    both_ways (leb (bit_or a b) 1) (leb a 1 and leb b 1)
    (λ p.
    let both : bit_or a b ≤ 1 = leb-true _ _ p in
    and_intro _ _ (le-leb a 1 (omega (arith, or_add_and a b, and_le_r a b))) (le-leb b 1 (omega (arith, or_add_and a b, and_le_l a b))))
    (λ p. le-leb (bit_or a b) 1 (or-bit a b (leb-true _ _ (and_left _ _ p)) (leb-true _ _ (and_right _ _ p))).0)

module _ (l : List ℕ) where
  pub gathered-start : MarksGathered 0 0 l
  unfolding every some_marked any tab cat
  gathered-start = record { flags = refl; some = λ p. refl }

  pub gathered_next : (marks i : ℕ) → MarksGathered marks i l → MarksGathered (bit_or marks (get_or l (21 + 6 * i + 1) 0)) (i + 1) l
  unfolding every some_marked read_of
  gathered_next marks i g = record { flags = fits; some = marked }
    where
      mark : ℕ
      mark = get_or l (21 + 6 * i + 1) 0

      fits : leb (bit_or marks mark) 1 ≡ every (i + 1) (λ k. leb (get_or l (21 + 6 * k + 1) 0) 1)
      fits = or-fits marks mark ∙ rw (add-one i, g.flags)

      marked : leb (bit_or marks mark) 1 ≡ true → eqb (bit_or marks mark) 1 ≡ some_marked (tab (i + 1) (λ k. read_of (drop (21 + 6 * k) l)))
      marked p =
          let both = sym (or-fits marks mark) ∙ p in
          (or-bit marks mark (leb-true _ _ (and_left _ _ both)) (leb-true _ _ (and_right _ _ both))).1
          ∙ ap₂ ◌or◌ (g.some (and_left _ _ both)) (ap (λ (x : ℕ). eqb x 1) (sym (get_or-drop (21 + 6 * i) l 1 0)))
          ∙ sym (any_next (λ k. read_of (drop (21 + 6 * k) l)) (λ (e : ReadEntry). e.mark) i)

-- the clauses on marks, for whether one is set (m), the flag (g), phase 3 or later (p), phase 4 (q) and flags and marks 0 or 1 (f)
abbrev clauses : Bool → Bool → Bool → Bool → Bool → Bool
clauses m g p q f = (p or not m) and ((not g or m) and (not q or not m or g)) and f

no_bits : (m g p q f : Bool) → f ≡ false → false ≡ clauses m g p q f
no_bits m g p q f e = rw e (simp and-false)

none-set : (m g p q f : Bool) → m ≡ false → f ≡ true → not g ≡ clauses m g p q f
none-set m g p q f d e = rw (d, e) (simp (or-false, or-true, true-or, and-true, true-and))

one_set : (m g p q f : Bool) → m ≡ true → f ≡ true → (p and (not q or g)) ≡ clauses m g p q f
one_set m g p q f d e = rw (d, e) (simp (or-false, false-or, or-true, and-true, true-and))

-- a flag that is a bit
flag-zero : (x : ℕ) → x ≤ 1 → eqb x 0 ≡ not (eqb x 1)
flag-zero zero h = refl
flag-zero (suc zero) h = refl
flag-zero (suc (suc x)) h = absurd (omega arith)

-- the marks of a slot once they are gathered
module _ {l : List ℕ} {marks : ℕ} (counted : Counted l) (unused : unused_zero 8 l (slot_of 8 l) ≡ true) (gathered : MarksGathered marks 16 l) where
  -- no entry past the count is marked
  past-unmarked : (i : ℕ) → get_or l 3 0 ≤ i → i < 16 → (read_of (drop (21 + 6 * i) l)).mark ≡ false
  unfolding unused_zero slot_of read_of
  past-unmarked i h b =
      let zero : get_or (drop (21 + 6 * i) l) 1 0 ≡ 0 =
      zeros-at 6 (drop (21 + 6 * i) l)
      (or_right _ _ (le-ltb i (get_or l 3 0) h)
      (every-at 16 (λ j. ltb j (get_or l 3 0) or zeros 6 (drop (21 + 6 * j) l)) (and_left _ _ unused) i b))
      1 (omega arith) in
      ne_eqb (get_or (drop (21 + 6 * i) l) 1 0) 1 (λ e. omega arith)

  flags-fit : flags_right 8 l ≡ (leb (get_or l 1 0) 1 and leb marks 1)
  unfolding flags_right
  flags-fit = ap (λ (b : Bool). leb (get_or l 1 0) 1 and b) (sym gathered.flags)

  some-set : marks ≤ 1 → some_marked (read_log (slot_of 8 l)) ≡ eqb marks 1
  unfolding some_marked slot_of
  some-set h =
      let entry : ℕ → ReadEntry = λ i. read_of (drop (21 + 6 * i) l) in
      ap some_marked (take-tab entry (get_or l 3 0) 16 counted.reads)
      ∙ sym (any-cut entry (λ (e : ReadEntry). e.mark) (get_or l 3 0) 16 counted.reads past-unmarked)
      ∙ sym (gathered.some (le-leb marks 1 h))

  -- a flag or a mark above 1
  no-bit : flags_right 8 l ≡ false → false ≡ marked_right l
  unfolding marked_right marks_right ignoring_right slot_of
  no-bit = no_bits (some_marked (read_log (slot_of 8 l))) (eqb (get_or l 1 0) 1) (leb 3 (get_or l 0 0)) (eqb (get_or l 0 0) 4) (flags_right 8 l)

  pub marks-over : 1 < marks → false ≡ marked_right l
  marks-over h = no-bit (flags-fit ∙ rw (lt-leb marks 1 h) (and-false _))

  pub flag-over : 1 < get_or l 1 0 → false ≡ marked_right l
  flag-over h = no-bit (flags-fit ∙ sym (stop _ _ _ (lt-leb (get_or l 1 0) 1 h) refl))

  module _ (few : marks ≤ 1) (bit : get_or l 1 0 ≤ 1) where
    flags-right : flags_right 8 l ≡ true
    flags-right = flags-fit ∙ and_intro _ _ (le-leb (get_or l 1 0) 1 bit) (le-leb marks 1 few)

    pub no-mark : marks ≡ 0 → eqb (get_or l 1 0) 0 ≡ marked_right l
    unfolding marked_right marks_right ignoring_right slot_of
    no-mark e =
        flag-zero (get_or l 1 0) bit
        ∙ none-set (some_marked (read_log (slot_of 8 l))) (eqb (get_or l 1 0) 1) (leb 3 (get_or l 0 0)) (eqb (get_or l 0 0) 4) (flags_right 8 l)
        (some-set few ∙ ne_eqb marks 1 (λ d. omega arith)) flags-right

    pub some-mark : (marks ≡ 0 → ⊥) → (leb 3 (get_or l 0 0) and (not (eqb (get_or l 0 0) 4) or eqb (get_or l 1 0) 1)) ≡ marked_right l
    unfolding marked_right marks_right ignoring_right slot_of
    some-mark e =
        one_set (some_marked (read_log (slot_of 8 l))) (eqb (get_or l 1 0) 1) (leb 3 (get_or l 0 0)) (eqb (get_or l 0 0) 4) (flags_right 8 l)
        (some-set few ∙ eq-eqb marks 1 (omega arith)) flags-right
