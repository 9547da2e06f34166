-- The loops over the logs. What a loop keeps of the entries passed, `seen` or `least`, says of each cell whether it may come next: whether it is in the
-- log's relation to all of them.
use mathlib.Core.Bool.{Bool, true, false, not}
use mathlib.Core.List.{List}
use mathlib.Core.Path.{◌≡◌, refl, sym, ◌∙◌, ap, ap₂}
use Prim.Native.Nat.{ℕ, ◌+◌, ◌*◌, ◌<◌, ◌≤◌}
use native.Mathlib.Numerals.{add-one}
use native.Mathlib.Omega.{arith}
use borrow.Author.Tests.{eqb-true, eqb-false, le-leb, leb-true, lt-ltb, ltb-true}
use lib.Dec.{eqb, ltb, leb}
use lib.ListN.{length, get_or, take, drop, set, replicate, get_or-replicate}
use lib.Seq.{drop-drop, get_or-set_same, get_or-set_other}
use Rattle.wire.specs.Field.{be}
use Rattle.wire.specs.Table.{tab}
use Rattle.slot.specs.declared.ReadEntry.{ReadEntry}
use Rattle.slot.specs.declared.WriteEntry.{WriteEntry}
use Rattle.slot.specs.Layout.{read_of, write_of, slot_of}
use Rattle.slot.specs.Logic.{◌and◌, every, all, pairwise}
use Rattle.slot.specs.Logs.{read_log, write_log}
use Rattle.slot.proofs.Logic.{and_intro, and_left, and_right, and-true, and-false, both_ways, every-at, every-ext}
use Rattle.slot.proofs.Entry.{first_byte}
use Rattle.rules.specs.declared.Cell.{Cell}
use Rattle.rules.specs.LogsRight.{logged_right, reads_right, writes_right}
use Rattle.logcheck.proofs.Chains.{stop}
use Rattle.logcheck.proofs.Tables.{log-tab}

-- the cell and the word of entry i of a log at `at`, of entries of `size` bytes with the word at `off`
abbrev pub cell_in : List ℕ → ℕ → ℕ → ℕ → ℕ
cell_in l at size i = get_or l (at + size * i) 0

abbrev pub word_in : List ℕ → ℕ → ℕ → ℕ → ℕ → ℕ
word_in l at size off i = be 4 (drop (at + size * i + off) l)

-- what entry j has to meet: it is logged right, and each earlier entry's cell is in the relation R to its own
abbrev pub entry_test : List Cell → (ℕ → ℕ → Bool) → (ℕ → ℕ) → (ℕ → ℕ) → ℕ → Bool
entry_test cells R cell word j = logged_right cells (cell j) (word j) and every j (λ i. R (cell i) (cell j))

-- no cell twice
abbrev pub apart : ℕ → ℕ → Bool
apart x y = not (eqb x y)

-- a log of entries of any kind, said of its bytes
log-places : {A : Type 0} (decode : List ℕ → A) (cell word : A → ℕ) (at size off : ℕ)
    → ((l : List ℕ) → cell (decode l) ≡ get_or l 0 0) → ((l : List ℕ) → word (decode l) ≡ be 4 (drop off l))
    → (cells : List Cell) (R : ℕ → ℕ → Bool) (l : List ℕ) (k n : ℕ) → k ≤ n
    → every k (entry_test cells R (cell_in l at size) (word_in l at size off))
    ≡ (all (λ e. logged_right cells (cell e) (word e)) (take k (tab n (λ i. decode (drop (at + size * i) l))))
    and pairwise (λ e f. R (cell e) (cell f)) (take k (tab n (λ i. decode (drop (at + size * i) l)))))
log-places decode cell word at size off cell-first word_next cells R l k n h =
    let place : (i : ℕ) → cell_in l at size i ≡ cell (decode (drop (at + size * i) l)) =
    λ i. first_byte l (at + size * i) ∙ sym (cell-first (drop (at + size * i) l)) in
    let next : (i : ℕ) → word_in l at size off i ≡ word (decode (drop (at + size * i) l)) =
    λ i. ap (be 4) (sym (drop-drop off (at + size * i) l)) ∙ sym (word_next (drop (at + size * i) l)) in
    every-ext k (entry_test cells R (cell_in l at size) (word_in l at size off))
    (entry_test cells R (λ i. cell (decode (drop (at + size * i) l))) (λ i. word (decode (drop (at + size * i) l))))
    (λ j b.
    ap₂ ◌and◌ (ap₂ (logged_right cells) (place j) (next j))
    (every-ext j (λ i. R (cell_in l at size i) (cell_in l at size j))
    (λ i. R (cell (decode (drop (at + size * i) l))) (cell (decode (drop (at + size * j) l)))) (λ i c. ap₂ R (place i) (place j))))
    ∙ log-tab (λ i. decode (drop (at + size * i) l)) (λ e. logged_right cells (cell e) (word e)) (λ e f. R (cell e) (cell f)) k n h

-- the test of entry i of the read log, and of the write log
abbrev pub read_test : List Cell → List ℕ → ℕ → Bool
read_test cells l = entry_test cells apart (cell_in l 21 6) (word_in l 21 6 2)

abbrev pub write_test : List Cell → List ℕ → ℕ → Bool
write_test cells l = entry_test cells ltb (cell_in l 117 5) (word_in l 117 5 1)

pub reads-places : (cells : List Cell) (l : List ℕ) → get_or l 3 0 ≤ 16
    → every (get_or l 3 0) (read_test cells l) ≡ reads_right cells (read_log (slot_of 8 l))
unfolding reads_right slot_of read_of
reads-places cells l h =
    log-places read_of (λ (e : ReadEntry). e.cell) (λ (e : ReadEntry). e.word) 21 6 2 (λ k. refl) (λ k. refl) cells apart l (get_or l 3 0) 16 h

pub writes-places : (cells : List Cell) (l : List ℕ) → get_or l 4 0 ≤ 16
    → every (get_or l 4 0) (write_test cells l) ≡ writes_right cells (write_log (slot_of 8 l))
unfolding writes_right slot_of write_of
writes-places cells l h =
    log-places write_of (λ (e : WriteEntry). e.cell) (λ (e : WriteEntry). e.word) 117 5 1 (λ k. refl) (λ k. refl) cells ltb l (get_or l 4 0) 16 h

-- each entry of a right write log is logged right
pub writes_at : (cells : List Cell) (l : List ℕ) (i : ℕ) → get_or l 4 0 ≤ 16 → i < get_or l 4 0 → writes_right cells (write_log (slot_of 8 l)) ≡ true
    → logged_right cells (cell_in l 117 5 i) (word_in l 117 5 1 i) ≡ true
writes_at cells l i h b p = and_left _ _ (every-at (get_or l 4 0) (write_test cells l) (writes-places cells l h ∙ p) i b)

-- a turn of either loop: entry j has the cell c, and `free` says whether c may come next
module _ (cells : List Cell) (R : ℕ → ℕ → Bool) (cell word : ℕ → ℕ) (j c : ℕ) (here : c ≡ cell j) where
  pub entry-illegal : logged_right cells c (word j) ≡ false → entry_test cells R cell word j ≡ false
  entry-illegal p = sym (stop _ _ _ (rw here at p) refl)

  module _ (free : Bool) (says : free ≡ every j (λ i. R (cell i) c)) where
    next-free : free ≡ every j (λ i. R (cell i) (cell j))
    next-free = says ∙ ap (λ (x : ℕ). every j (λ i. R (cell i) x)) here

    pub entry-taken : free ≡ false → entry_test cells R cell word j ≡ false
    entry-taken q = ap (λ (b : Bool). logged_right cells (cell j) (word j) and b) (sym next-free ∙ q) ∙ and-false _

    pub entry-right : logged_right cells c (word j) ≡ true → free ≡ true → entry_test cells R cell word j ≡ true
    entry-right p q = and_intro _ _ (rw here at p) (sym next-free ∙ q)

-- `seen` has the cells of the entries passed
module _ (cell : ℕ → ℕ) where
  abbrev pub Seen : List Bool → ℕ → Type 0
  Seen seen i = (x : ℕ) → x < 64 → not (get_or seen x false) ≡ every i (λ k. apart (cell k) x)

  pub seen-none : Seen (replicate 64 false) 0
  unfolding every
  seen-none x h = ap not (get_or-replicate 64 x false false h)

  pub seen-next : (seen : List Bool) (i c : ℕ) → length seen ≡ 64 → c < 64 → c ≡ cell i → Seen seen i → Seen (set seen c true) (i + 1)
  unfolding every
  seen-next seen i c size below here before x h = rw (add-one i, ← here) (by (eqb c x) refl)
    where
      by : (b : Bool) → eqb c x ≡ b → not (get_or (set seen c true) x false) ≡ (every i (λ k. apart (cell k) x) and apart c x)
      by true e =
          let same : c ≡ x = eqb-true _ _ e in
          let now : get_or (set seen c true) x false ≡ true = rw (← same) (get_or-set_same seen c true false (omega arith)) in
          ap not now ∙ rw e (sym (and-false _))
      by false e =
          let kept : get_or (set seen c true) x false ≡ get_or seen x false = get_or-set_other seen c x true false (λ s. eqb-false _ _ e (sym s)) in
          ap not kept ∙ before x h ∙ rw e (sym (and-true _))

-- `least` is at most the cells that are above all that were passed
pub least_start : (cell : ℕ → ℕ) (x : ℕ) → leb 0 x ≡ every 0 (λ k. ltb (cell k) x)
unfolding every
least_start cell x = le-leb 0 x (omega arith)

pub least-next : (cell : ℕ → ℕ) (least i c : ℕ) → least ≤ c → c ≡ cell i
    → ((x : ℕ) → leb least x ≡ every i (λ k. ltb (cell k) x)) → (x : ℕ) → leb (c + 1) x ≡ every (i + 1) (λ k. ltb (cell k) x)
unfolding every
least-next cell least i c h here before x =
    rw (add-one i, ← here, ← before x)
    (both_ways (leb (c + 1) x) (leb least x and ltb c x)
    (λ p. let fits : c + 1 ≤ x = leb-true _ _ p in and_intro _ _ (le-leb least x (omega arith)) (lt-ltb c x (omega arith)))
    (λ p. let above : c < x = ltb-true _ _ (and_right _ _ p) in le-leb (c + 1) x (omega arith)))
