-- The table of marked cells, entry by entry, with a bound of them; and that it does not matter which log is gone through first.
use mathlib.Core.Bool.{Bool, true, false}
use mathlib.Core.List.{List, [], ◌∷◌, ◌++◌}
use mathlib.Core.Path.{◌≡◌, refl, sym, ◌∙◌, ap}
use Prim.Native.Nat.{ℕ, ◌+◌, ◌<◌, ◌≤◌}
use native.Mathlib.Numerals.{add-one}
use native.Mathlib.Omega.{arith}
use borrow.Author.Tests.{eqb-true, eqb-false, ne_eqb, ltb-true}
use lib.Dec.{eqb, ltb}
use lib.ListN.{length, get_or, take, set, replicate, length-set, get_or-replicate}
use lib.Seq.{take-suc, get_or-set_same, get_or-set_other}
use Rattle.wire.proofs.Laws.Table.{get_or-tab, tab-ext, tab-of}
use Rattle.slot.specs.declared.ReadEntry.{ReadEntry}
use Rattle.slot.specs.declared.WriteEntry.{WriteEntry}
use Rattle.slot.specs.Layout.{no_read}
use Rattle.slot.specs.Logic.{◌and◌, ◌or◌, any}
use Rattle.slot.specs.Logs.{writes_cell, marked_written}
use Rattle.slot.proofs.Logic.{and-false, or-false, or-true, any_snoc}
use Rattle.bothlogs.specs.BothLogs.{marks_cell, marked_table}

-- ---- the table

-- what the table has for each cell, and that no cell above the bound is marked, once the first i entries of the array are in
pub record Tabled (marked : List Bool) (bound : ℕ) (array : List ReadEntry) (i : ℕ) : Type 0 where
  pub size : length marked ≡ 64
  pub flag : (c : ℕ) → c < 64 → get_or marked c false ≡ marks_cell (take i array) c
  pub above : (c : ℕ) → bound < c → marks_cell (take i array) c ≡ false

pub tabled_start : {marked : List Bool} (array : List ReadEntry) → marked ≡ replicate 64 false → Tabled marked 0 array 0
unfolding marks_cell any
tabled_start array none = rw none record { size = refl; flag = λ c h. get_or-replicate 64 c false false h; above = λ c h. refl }

-- one entry more
next_marks : (array : List ReadEntry) (i : ℕ) {e : ReadEntry} → i < length array → e ≡ get_or array i no_read → (c : ℕ)
    → marks_cell (take (i + 1) array) c ≡ (marks_cell (take i array) c or (e.mark and eqb c e.cell))
unfolding marks_cell
next_marks array i {e} h there c =
    ap (any (λ (f : ReadEntry). f.mark and eqb c f.cell))
    (ap (λ (n : ℕ). take n array) (add-one i) ∙ take-suc array i no_read h ∙ ap (λ (f : ReadEntry). take i array ++ (f ∷ [])) (sym there))
    ∙ any_snoc (λ (f : ReadEntry). f.mark and eqb c f.cell) (take i array) e

module _ (array : List ReadEntry) (i : ℕ) (inside : i < length array) {marked : List Bool} {bound : ℕ} (so_far : Tabled marked bound array i) {e : ReadEntry}
    (there : e ≡ get_or array i no_read) where
  -- an entry without a mark changes nothing
  no_more : e.mark ≡ false → (c : ℕ) → marks_cell (take (i + 1) array) c ≡ marks_cell (take i array) c
  unfolding ◌and◌
  no_more off c = next_marks array i inside there c ∙ rw off (or-false (marks_cell (take i array) c))

  pub tabled-unmarked : e.mark ≡ false → Tabled marked bound array (i + 1)
  tabled-unmarked off =
      record {
        size = so_far.size;
        flag = λ c h. so_far.flag c h ∙ sym (no_more off c);
        above = λ c h. no_more off c ∙ so_far.above c h;
      }

  -- one with a mark puts its cell, and a new bound is below neither it nor the old one
  one_more : e.mark ≡ true → (c : ℕ) → marks_cell (take (i + 1) array) c ≡ (marks_cell (take i array) c or eqb c e.cell)
  unfolding ◌and◌
  one_more on c = next_marks array i inside there c ∙ rw on

  pub tabled-marked : {next : ℕ} → e.mark ≡ true → bound ≤ next → e.cell ≤ next → Tabled (set marked e.cell true) next array (i + 1)
  tabled-marked on high higher =
      record {
        size = simp length-set so_far.size;
        flag = λ c h. by c h (eqb c e.cell) refl ∙ sym (one_more on c);
        above = λ c h. one_more on c ∙ rw (so_far.above c (omega arith), ne_eqb c e.cell (omega arith)) (or-false false);
      }
    where
      by : (c : ℕ) → c < 64 → (b : Bool) → eqb c e.cell ≡ b → get_or (set marked e.cell true) c false ≡ (marks_cell (take i array) c or eqb c e.cell)
      by c h true s =
          let same : c ≡ e.cell = eqb-true _ _ s in
          let room : c < length marked = rw so_far.size h in
          ap (λ (k : ℕ). get_or (set marked k true) c false) (sym same) ∙ get_or-set_same marked c true false room ∙ rw (s, or-true)
      by c h false s = get_or-set_other marked e.cell c true false (eqb-false _ _ s) ∙ so_far.flag c h ∙ rw (s, or-false)

-- all entries are in
pub tabled-whole : {marked : List Bool} {bound : ℕ} {array : List ReadEntry} {n : ℕ} → Tabled marked bound array n → marked ≡ marked_table (take n array)
tabled-whole {marked} {bound} {array} {n} done =
    sym (tab-of 64 marked false done.size) ∙ tab-ext 64 (λ c. get_or marked c false) (marks_cell (take n array)) done.flag

-- what the table tells of an entry's cell
pub told : (reads : List ReadEntry) {marked : List Bool} → marked ≡ marked_table reads → {c here : ℕ} → c ≡ here → here < 64 → {b : Bool}
    → get_or marked c false ≡ b → marks_cell reads here ≡ b
told reads table {c} {here} same below is =
    sym (get_or-tab 64 (marks_cell reads) false here below) ∙ sym (λ i. get_or (table i) (same i) false) ∙ is

-- past a cell above the bound none is marked
pub none-past : (reads : List ReadEntry) {bound here : ℕ} → ((c : ℕ) → bound < c → marks_cell reads c ≡ false) → bound < here
    → (y : WriteEntry) → ltb here y.cell ≡ true → marks_cell reads y.cell ≡ false
none-past reads {bound} {here} above high y rises = above y.cell (omega (arith, ltb-true here y.cell rises))

-- ---- which log is gone through first

none_in : (writes : List WriteEntry) → any (λ (w : WriteEntry). false) writes ≡ false
unfolding any ◌or◌
none_in [] = refl
none_in (w ∷ writes) = none_in writes

law : (m a b c d : Bool) → (((m and a) or b) or ((m and c) or d)) ≡ ((m and (a or c)) or (b or d))
unfolding ◌and◌ ◌or◌
law false a b c d = refl
law true true b c d = refl
law true false true c d = sym (or-true c)
law true false false c d = refl

-- a test that holds for one of two reasons, the first of which has a part that does not depend on the element
split : (m : Bool) (f g : WriteEntry → Bool) (writes : List WriteEntry) → any (λ w. (m and f w) or g w) writes ≡ ((m and any f writes) or any g writes)
unfolding any
split m f g [] = sym (ap (λ (b : Bool). b or false) (and-false m) ∙ or-false false)
split m f g (w ∷ writes) = ap (λ (b : Bool). ((m and f w) or g w) or b) (split m f g writes) ∙ law m (f w) (g w) (any f writes) (any g writes)

pub either_way : (reads : List ReadEntry) (writes : List WriteEntry) → any (λ (w : WriteEntry). marks_cell reads w.cell) writes ≡ marked_written reads writes
unfolding marks_cell marked_written writes_cell any
either_way [] writes = none_in writes
either_way (e ∷ reads) writes =
    split e.mark (λ w. eqb w.cell e.cell) (λ w. marks_cell reads w.cell) writes
    ∙ ap (λ (b : Bool). (e.mark and writes_cell writes e.cell) or b) (either_way reads writes)
