-- Logs stay right: an entry of a new cell may join the read log, a legal entry may be put into the write log, which goes on ascending, and marks and legal
-- new words change no cell of a log.
use mathlib.Core.Bool.{Bool, true, false, not}
use mathlib.Core.List.{List, [], ◌∷◌, ◌++◌, map}
use mathlib.Core.Option.{none}
use mathlib.Core.Path.{◌≡◌, refl, sym, ◌∙◌, ap, ap₂}
use Prim.Native.Nat.{ℕ, suc, ◌<◌, ◌≤◌}
use native.Mathlib.Omega.{arith}
use lib.Dec.{eqb, ltb}
use lib.ListN.{length, get_or, take, drop, take-append-drop}
use lib.Seq.{take-suc, drop-cons}
use borrow.Author.Tests.{eqb-true, eqb-false, ltb-true, ltb-false, lt-ltb, ne_eqb, eq-eqb}
use Rattle.slot.specs.declared.ReadEntry.{ReadEntry}
use Rattle.slot.specs.declared.WriteEntry.{WriteEntry}
use Rattle.slot.specs.Layout.{no_write}
use Rattle.rules.specs.declared.Cell.{Cell}
use Rattle.slot.specs.Logic.{◌and◌, ◌or◌, all, any, pairwise}
use Rattle.slot.specs.Logs.{read_entry, writes_cell, marked_written, put_write}
use Rattle.rules.specs.LogsRight.{logged_right, reads_right, writes_right}
use Rattle.slot.proofs.Logic.{and_intro, and_left, and_right, false-or, or-false, true-or, or-true, all_map, any_append, pairwise_map, pairwise_drop}
use Rattle.history.proofs.Keeps.Lists.{same_or_not, cond-elim, or-neither, or-twice, or_swap, all-imp, all_snoc, pairwise-snoc, any_none, any_at, first-none}

abbrev pub above : ℕ → WriteEntry → Bool
above c y = ltb c y.cell

abbrev pub rises : WriteEntry → WriteEntry → Bool
rises e = above e.cell

-- the three ways to put an entry into a log: before the first, in its place, or further on
put-elim : (P : List WriteEntry → Type 0) (e x : WriteEntry) (l : List WriteEntry) → (e.cell < x.cell → P (e ∷ x ∷ l))
    → (e.cell ≡ x.cell → P (e ∷ l)) → (x.cell < e.cell → P (x ∷ put_write e l)) → P (put_write e (x ∷ l))
unfolding put_write
put-elim P e x l f g k =
    cond-elim P (ltb e.cell x.cell) (e ∷ x ∷ l) _ (λ h. f (ltb-true _ _ h))
    (λ h.
    cond-elim P (eqb e.cell x.cell) (e ∷ l) (x ∷ put_write e l) (λ q. g (eqb-true _ _ q))
    (λ q. k (omega (arith, ltb-false e.cell x.cell h, eqb-false e.cell x.cell q))))

-- a cell below every entry's is in none of them, nor is a lower one
above_more : (l : List WriteEntry) (c d : ℕ) → c ≤ d → all (above d) l ≡ true → all (above c) l ≡ true
above_more l c d h p = all-imp (above d) (above c) l (λ y q. lt-ltb c y.cell (omega (arith, ltb-true d y.cell q))) p

above-none : (l : List WriteEntry) (c : ℕ) → all (above c) l ≡ true → writes_cell l c ≡ false
unfolding writes_cell
above-none l c p =
    any_none (λ (y : WriteEntry). eqb y.cell c) l
    (all-imp (above c) _ l (λ y q. ap not (ne_eqb y.cell c (omega (arith, ltb-true c y.cell q)))) p)

module _ (e : WriteEntry) where
  put_all : (f : WriteEntry → Bool) (l : List WriteEntry) → f e ≡ true → all f l ≡ true → all f (put_write e l) ≡ true
  unfolding all put_write
  put_all f [] p q = and_intro _ _ p refl
  put_all f (x ∷ l) p q =
      put-elim (λ (m : List WriteEntry). all f m ≡ true) e x l (λ h. and_intro _ _ p q) (λ h. and_intro _ _ p (and_right _ _ q))
      (λ h. and_intro _ _ (and_left _ _ q) (put_all f l p (and_right _ _ q)))

  put-rises : (l : List WriteEntry) → pairwise rises l ≡ true → pairwise rises (put_write e l) ≡ true
  unfolding all pairwise put_write
  put-rises [] p = and_intro _ _ refl refl
  put-rises (x ∷ l) p =
      put-elim (λ (m : List WriteEntry). pairwise rises m ≡ true) e x l
      (λ h. and_intro _ _ (and_intro _ _ (lt-ltb _ _ h) (above_more l _ _ (omega arith) (and_left _ _ p))) p)
      (λ h. and_intro _ _ (above_more l _ _ (omega arith) (and_left _ _ p)) (and_right _ _ p))
      (λ h. and_intro _ _ (put_all (rises x) l (lt-ltb _ _ h) (and_left _ _ p)) (put-rises l (and_right _ _ p)))

  -- the cells of the log are the old ones and the entry's
  pub put-cells : (l : List WriteEntry) (c : ℕ) → writes_cell (put_write e l) c ≡ (eqb e.cell c or writes_cell l c)
  unfolding writes_cell any put_write
  put-cells [] c = refl
  put-cells (x ∷ l) c =
      put-elim (λ (m : List WriteEntry). writes_cell m c ≡ (eqb e.cell c or writes_cell (x ∷ l) c)) e x l (λ h. refl)
      (λ h. rw h (sym (or-twice (eqb x.cell c) (writes_cell l c))))
      (λ h. rw (put-cells l c) (or_swap (eqb x.cell c) (eqb e.cell c) (writes_cell l c)))

  -- where the cell is in the log already, the log keeps its cells
  pub put_same : (l : List WriteEntry) (c : ℕ) → writes_cell l e.cell ≡ true → writes_cell (put_write e l) c ≡ writes_cell l c
  put_same l c w =
      put-cells l c
      ∙ same_or_not ((eqb e.cell c or writes_cell l c) ≡ writes_cell l c) e.cell c
      (λ h. rw (← h, w) (or-true (eqb e.cell e.cell)))
      (λ n. rw (ne_eqb e.cell c n) (false-or (writes_cell l c)))

-- marked cells are in a log exactly if they are in one of the same cells
pub marked-same : (l m : List WriteEntry) → ((c : ℕ) → writes_cell m c ≡ writes_cell l c) → (reads : List ReadEntry) → marked_written reads m ≡ marked_written reads l
unfolding marked_written any
marked-same l m same [] = refl
marked-same l m same (e ∷ reads) = ap₂ ◌or◌ (ap (λ (b : Bool). e.mark and b) (same e.cell)) (marked-same l m same reads)

-- the cell of the entry at k is in the log
pub logged-there : (l : List WriteEntry) (k c : ℕ) → k < length l → c ≡ (get_or l k no_write).cell → writes_cell l c ≡ true
unfolding writes_cell
logged-there l k c h e = any_at (λ (y : WriteEntry). eqb y.cell c) l no_write k h (eq-eqb (get_or l k no_write).cell c (sym e))

-- one more entry taken, and one published
pub taken-one : (l : List WriteEntry) (k c : ℕ) → k < length l → writes_cell (take (suc k) l) c ≡ (writes_cell (take k l) c or eqb (get_or l k no_write).cell c)
unfolding writes_cell any
taken-one l k c h =
    ap (λ (m : List WriteEntry). writes_cell m c) (take-suc l k no_write h)
    ∙ any_append (λ (y : WriteEntry). eqb y.cell c) (take k l) (get_or l k no_write ∷ [])
    ∙ ap (λ (b : Bool). writes_cell (take k l) c or b) (or-false (eqb (get_or l k no_write).cell c))

pub published-one : (l : List WriteEntry) (k c : ℕ) → k < length l → writes_cell (drop k l) c ≡ (eqb (get_or l k no_write).cell c or writes_cell (drop (suc k) l) c)
unfolding writes_cell any
published-one l k c h = ap (λ (m : List WriteEntry). writes_cell m c) (drop-cons l k no_write h)

-- an entry's cell is in none of the later ones, since the log ascends
pub published-once : (l : List WriteEntry) (k : ℕ) → k < length l → pairwise rises l ≡ true → writes_cell (drop (suc k) l) (get_or l k no_write).cell ≡ false
unfolding pairwise
published-once l k h p =
    let from : pairwise rises (get_or l k no_write ∷ drop (suc k) l) ≡ true = rw (drop-cons l k no_write h) at (pairwise_drop rises k l p) in
    above-none (drop (suc k) l) (get_or l k no_write).cell (and_left _ _ from)

-- so the cell of the entry at k joins those taken and leaves those owed, and no other cell does
module _ (l : List WriteEntry) (k : ℕ) (h : k < length l) (c : ℕ) where
  pub taken-it : c ≡ (get_or l k no_write).cell → writes_cell (take (suc k) l) c ≡ true
  taken-it e = taken-one l k c h ∙ rw (eq-eqb (get_or l k no_write).cell c (sym e)) (or-true (writes_cell (take k l) c))

  pub taken-other : (c ≡ (get_or l k no_write).cell → ⊥) → writes_cell (take (suc k) l) c ≡ writes_cell (take k l) c
  taken-other n = taken-one l k c h ∙ rw (ne_eqb (get_or l k no_write).cell c (omega arith)) (or-false (writes_cell (take k l) c))

  pub owed-it : c ≡ (get_or l k no_write).cell → writes_cell (drop k l) c ≡ true
  owed-it e = published-one l k c h ∙ rw (eq-eqb (get_or l k no_write).cell c (sym e)) (true-or (writes_cell (drop (suc k) l) c))

  pub owed-other : (c ≡ (get_or l k no_write).cell → ⊥) → writes_cell (drop (suc k) l) c ≡ writes_cell (drop k l) c
  owed-other n = sym (published-one l k c h ∙ rw (ne_eqb (get_or l k no_write).cell c (omega arith)) (false-or (writes_cell (drop (suc k) l) c)))

-- a part of a log has only the log's cells
pub taken-within : (l : List WriteEntry) (k c : ℕ) → writes_cell l c ≡ false → (writes_cell (take k l) c ≡ false) × (writes_cell (drop k l) c ≡ false)
unfolding writes_cell
taken-within l k c p =
    or-neither _ _
    (sym (any_append (λ (y : WriteEntry). eqb y.cell c) (take k l) (drop k l))
    ∙ ap (λ (m : List WriteEntry). writes_cell m c) (take-append-drop k l)
    ∙ p)

module _ (cells : List Cell) where
  pub reads-joined : (l : List ReadEntry) (e : ReadEntry) → reads_right cells l ≡ true → logged_right cells e.cell e.word ≡ true → read_entry l e.cell ≡ none
      → reads_right cells (l ++ (e ∷ [])) ≡ true
  unfolding reads_right read_entry
  reads-joined l e p q new =
      and_intro _ _ (all_snoc _ l e (and_left _ _ p) q) (pairwise-snoc _ l e (and_right _ _ p) (first-none _ l new))

  pub reads-changed : (g : ReadEntry → ReadEntry) (l : List ReadEntry) → ((e : ReadEntry) → (g e).cell ≡ e.cell)
      → ((e : ReadEntry) → logged_right cells e.cell e.word ≡ true → logged_right cells (g e).cell (g e).word ≡ true)
      → reads_right cells l ≡ true → reads_right cells (map g l) ≡ true
  unfolding reads_right
  reads-changed g l cell legal p =
      and_intro _ _ (all_map _ g l ∙ all-imp _ _ l legal (and_left _ _ p))
      (pairwise_map _ _ g l (λ x y. rw (cell x, cell y)) ∙ and_right _ _ p)

  pub writes-put : (l : List WriteEntry) (e : WriteEntry) → writes_right cells l ≡ true → logged_right cells e.cell e.word ≡ true → writes_right cells (put_write e l) ≡ true
  unfolding writes_right
  writes-put l e p q = and_intro _ _ (put_all e _ l q (and_left _ _ p)) (put-rises e l (and_right _ _ p))
