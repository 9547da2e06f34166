-- The moves that take, publish or free cells keep a state well formed: after each of them the cells that the slot has to hold are the ones whose holder it
-- is, and no other slot's cell has changed hands.
use mathlib.Core.Bool.{Bool, true, false, not, false≢true}
use mathlib.Core.List.{List}
use mathlib.Core.Path.{◌≡◌, refl, sym, ◌∙◌, ap}
use Prim.Native.Nat.{ℕ, suc, ◌<◌, ◌≤◌}
use native.Mathlib.Omega.{arith}
use lib.Dec.{eqb, eqb-zero-suc}
use lib.ListN.{length, get_or, set}
use borrow.Author.Tests.{eqb-true, eq-eqb, ne_eqb, ltb-true, le-leb}
use Rattle.slot.specs.declared.ReadEntry.{ReadEntry}
use Rattle.slot.specs.declared.WriteEntry.{WriteEntry}
use Rattle.slot.specs.Layout.{no_write}
use Rattle.rules.specs.declared.Cell.{Cell}
use Rattle.rules.specs.Model.{Model}
use Rattle.rules.specs.State.{State, Slot, idle, locking, publishing, cell_count, cell_at, slot_at, turn, no_cell}
use Rattle.rules.specs.Cells.{held_by_other, taken_by, published_as, free_all}
use Rattle.rules.specs.LogsRight.{cell_right, logged_right, writes_right}
use Rattle.rules.specs.StateRight.{holds}
use Rattle.rules.specs.Steps.{publishing_or_idle}
use Rattle.slot.proofs.Logic.{and_intro, and_left, and_right, all-at}
use Rattle.rules.proofs.StateSized.{LogsHold}
use Rattle.history.proofs.Right.{Right}
use Rattle.history.proofs.Keeps.Lists.{set-elim}
use Rattle.history.proofs.Keeps.Logs.{taken-it, taken-other, owed-it, owed-other, published-once}
use Rattle.history.proofs.Keeps.Kinds.{kinds-set, free-elim, kinds-free}
use Rattle.history.proofs.Keeps.Slots.{SlotHolds, owing-right, owing-holds}
use Rattle.history.proofs.Keeps.Turn.{StampApart, turn-right, owing-stamp}
use Rattle.history.proofs.Keeps.Steady.{now-is}

-- a holder that is not another one's is nobody's or the slot's own
not-other : (i s : ℕ) (x : Cell) → held_by_other i x ≡ false → (s ≡ i → ⊥) → eqb x.holder (suc s) ≡ false
unfolding held_by_other
not-other i s x p n =
    ne_eqb x.holder (suc s)
    (λ q.
    let other = and_intro _ _ (ap not (ne_eqb x.holder 0 (omega arith))) (ap not (ne_eqb x.holder (suc i) (omega arith))) in
    false≢true (sym p ∙ other))

module _ (M : Model) (S : State) (right : Right M S) (i : ℕ) (inside : i < M.slots) where
  -- the logged cell is there, and may have its logged word
  logged-at : (start : ℕ) (reads : List ReadEntry) (writes : List WriteEntry) (k : ℕ) → LogsHold S.cells S.clock start reads writes → k < length writes
      → logged_right S.cells (get_or writes k no_write).cell (get_or writes k no_write).word ≡ true
  unfolding writes_right
  logged-at start reads writes k logs h =
      all-at (λ (e : WriteEntry). logged_right S.cells e.cell e.word) writes no_write (and_left _ _ logs.writes_hold) k h

  -- one cell changes, and with it what the slot has to hold
  one_cell : (c : ℕ) (y : Cell) (x : Slot) → c < cell_count S → y.kind ≡ (cell_at S c).kind → cell_right S.clock y ≡ true → y.holder ≤ M.slots → SlotHolds S.cells S.clock x
      → StampApart S i x → eqb y.holder (suc i) ≡ holds x c → ((d : ℕ) → (d ≡ c → ⊥) → holds x d ≡ holds (slot_at S i) d)
      → ((s : ℕ) → (s ≡ i → ⊥) → eqb y.holder (suc s) ≡ eqb (cell_at S c).holder (suc s)) → Right M (turn S i S.clock (set S.cells c y) x)
  one_cell c y x there kind legal holder slot apart mine same others =
      turn-right M S right i inside S.clock (set S.cells c y) x
      (record {
        rises = omega arith;
        last = right.clock_last;
        kinds = kinds-set S.cells c y kind;
        cell = set-elim (λ d (z : Cell). d < cell_count S → cell_right S.clock z ≡ true) S.cells c y no_cell there (λ h. legal) (λ d n. right.cell d);
        holder = set-elim (λ d (z : Cell). z.holder ≤ M.slots) S.cells c y no_cell there holder (λ d n. right.holder_slot d);
        slot = slot;
        apart = apart;
        mine =
            set-elim (λ d (z : Cell). d < cell_count S → eqb z.holder (suc i) ≡ holds x d) S.cells c y no_cell there (λ h. mine)
            (λ d n h. right.held d i h inside ∙ sym (same d n));
        others = λ d s h n.
            set-elim (λ d (z : Cell). eqb z.holder (suc s) ≡ eqb (cell_at S d).holder (suc s)) S.cells c y no_cell there (others s n) (λ d m. refl) d;
      })

  module _ (count start c : ℕ) (reads : List ReadEntry) (writes : List WriteEntry) (x : slot_at S i ≡ locking count start reads writes)
      (more : count < length writes) (e : c ≡ (get_or writes count no_write).cell) (free : held_by_other i (cell_at S c) ≡ false) where
    pub locked-right : Right M (turn S i S.clock (set S.cells c (taken_by i (cell_at S c))) (locking (suc count) start reads writes))
    unfolding holds logged_right cell_right
    locked-right =
        let (logs, taken, unmarked) = now-is M S right i inside (locking count start reads writes) x in
        let there : c < cell_count S = rw e (ltb-true _ _ (and_left _ _ (logged-at start reads writes count logs more))) in
        one_cell c (taken_by i (cell_at S c)) (locking (suc count) start reads writes) there refl
        (right.cell c there) inside
        (logs, more, unmarked) (λ s n q. refl)
        (eq-eqb (suc i) (suc i) refl ∙ sym (taken-it writes count more c e))
        (λ d n. taken-other writes count more d (λ p. n (p ∙ sym e)) ∙ sym (ap (λ (y : Slot). holds y d) x))
        (λ s n. ne_eqb (suc i) (suc s) (omega arith) ∙ sym (not-other i s (cell_at S c) free n))

  module _ (ignoring : Bool) (count start commit : ℕ) (e : WriteEntry) (reads : List ReadEntry) (writes : List WriteEntry)
      (x : slot_at S i ≡ publishing ignoring count start commit reads writes) (q : e ≡ get_or writes count no_write) where
    pub published-right : Right M (turn S i S.clock (set S.cells e.cell (published_as e.word commit (cell_at S e.cell)))
        (publishing_or_idle ignoring (suc count) start commit reads writes))
    unfolding holds logged_right cell_right writes_right
    published-right =
        let (logs, more, above, given, flag, kept) = now-is M S right i inside (publishing ignoring count start commit reads writes) x in
        let logged : logged_right S.cells e.cell e.word ≡ true = rw q (logged-at start reads writes count logs more) in
        let there : e.cell < cell_count S = ltb-true _ _ (and_left _ _ logged) in
        let named : e.cell ≡ (get_or writes count no_write).cell = ap (λ (f : WriteEntry). f.cell) q in
        let mine : (cell_at S e.cell).holder ≡ suc i =
        eqb-true _ _ (right.held e.cell i there inside ∙ rw x (owed-it writes count more e.cell named)) in
        one_cell e.cell (published_as e.word commit (cell_at S e.cell)) (publishing_or_idle ignoring (suc count) start commit reads writes) there refl
        (and_intro _ _ (and_right _ _ logged) (le-leb _ _ given)) (omega arith)
        (owing-right S.cells S.clock ignoring (suc count) start commit reads writes logs above given flag kept)
        (owing-stamp M S right i inside ignoring (suc count) start commit reads writes (rw x))
        (eqb-zero-suc i ∙ sym (owing-holds ignoring (suc count) start commit reads writes e.cell ∙ rw named (published-once writes count more (and_right _ _ logs.writes_hold))))
        (λ d n. owing-holds ignoring (suc count) start commit reads writes d ∙ owed-other writes count more d (λ p. n (p ∙ sym named)) ∙ sym (ap (λ (y : Slot). holds y d) x))
        (λ s n. rw mine (eqb-zero-suc s ∙ sym (ne_eqb (suc i) (suc s) (omega arith))))

  -- all that it holds is freed
  pub freed-right : Right M (turn S i S.clock (free_all i S.cells) idle)
  unfolding holds cell_right
  freed-right =
      turn-right M S right i inside S.clock (free_all i S.cells) idle
      (record {
        rises = omega arith;
        last = right.clock_last;
        kinds = kinds-free i S.cells;
        cell = λ c h. free-elim i S.cells c (λ y. cell_right S.clock y ≡ true) (λ p. right.cell c h) (λ p. right.cell c h);
        holder = λ c. free-elim i S.cells c (λ y. y.holder ≤ M.slots) (λ p. omega arith) (λ p. right.holder_slot c);
        slot = tt;
        apart = λ s n q. refl;
        mine = λ c h. free-elim i S.cells c (λ y. eqb y.holder (suc i) ≡ false) (λ p. eqb-zero-suc i) (λ p. p);
        others = λ c s h n.
            free-elim i S.cells c (λ y. eqb y.holder (suc s) ≡ eqb (cell_at S c).holder (suc s))
            (λ p. eqb-zero-suc s ∙ sym (ne_eqb (cell_at S c).holder (suc s) (omega (arith, eqb-true (cell_at S c).holder (suc i) p))))
            (λ p. refl);
      })
