-- A search and a test over a list agree: the first element that passes is there exactly if some element passes. A search goes from place to place: as long
-- as no element has passed, the whole list and what is left of it have the same first element that passes.
use mathlib.Core.Bool.{Bool, true, false, cond, false≢true}
use mathlib.Core.List.{List, [], ◌∷◌}
use mathlib.Core.Option.{Option, none, some}
use mathlib.Core.Path.{◌≡◌, refl, sym, ◌∙◌}
use Prim.Native.Nat.{ℕ, suc, ◌+◌, ◌<◌, ◌≤◌}
use native.Mathlib.Numerals.{add-one}
use native.Mathlib.Omega.{arith}
use lib.Dec.{eqb}
use lib.ListN.{length, get_or, take, drop, length-take, drop_of_length-le}
use lib.Seq.{drop-cons, get_or-take}
use Rattle.std.specs.List.{find}
use Rattle.std.specs.Prelude as code
use Rattle.slot.specs.Operations.{found}
use Rattle.slot.specs.Logic.{◌or◌, all, any, first, pairwise}
use Rattle.slot.specs.Logs.{read_entry, write_entry, reads_cell, writes_cell}
use Rattle.slot.specs.declared.ReadEntry.{ReadEntry}
use Rattle.slot.specs.declared.WriteEntry.{WriteEntry}
use Rattle.slot.proofs.Logic.{and_left, and_right, pairwise_drop}

-- one element in front: by its test, and by what is known of the rest
module _ {A : Type 0} (x : A) where
  none-front : (b rest : Bool) (o : Option A) → (rest ≡ false → o ≡ none) → (b or rest) ≡ false → cond b (some x) o ≡ none
  unfolding ◌or◌
  none-front true rest o f q = absurd (false≢true (sym q))
  none-front false rest o f q = f q

  front-none : (b rest : Bool) (o : Option A) → (o ≡ none → rest ≡ false) → cond b (some x) o ≡ none → (b or rest) ≡ false
  unfolding ◌or◌
  front-none true rest o f q = let z : ◌≡◌ {A = ℕ} 0 1 = cc in absurd (omega arith)
  front-none false rest o f q = f q

  front-some : (b rest : Bool) (o : Option A) (y : A) → (o ≡ some y → rest ≡ true) → cond b (some x) o ≡ some y → (b or rest) ≡ true
  unfolding ◌or◌
  front-some true rest o y f q = refl
  front-some false rest o y f q = f q

  front-passes : (f : A → Bool) (b : Bool) (o : Option A) (y : A) → f x ≡ b → (o ≡ some y → f y ≡ true) → cond b (some x) o ≡ some y → f y ≡ true
  front-passes f true o y e g q = let same : x ≡ y = cc in rw (← same) e
  front-passes f false o y e g q = g q

module _ {A : Type 0} (f : A → Bool) where
  pub none_of : (l : List A) → any f l ≡ false → first f l ≡ none
  unfolding any first
  none_of [] p = refl
  none_of (x ∷ l) p = none-front x (f x) (any f l) (first f l) (none_of l) p

  pub of_none : (l : List A) → first f l ≡ none → any f l ≡ false
  unfolding any first
  of_none [] p = refl
  of_none (x ∷ l) p = front-none x (f x) (any f l) (first f l) (of_none l) p

  pub of_some : (l : List A) (y : A) → first f l ≡ some y → any f l ≡ true
  unfolding any first
  of_some [] y p = let z : ◌≡◌ {A = ℕ} 0 1 = cc in absurd (omega arith)
  of_some (x ∷ l) y p = front-some x (f x) (any f l) (first f l) y (of_some l y) p

  -- nothing is found where all elements meet a test that what passes does not
  none-where : (g : A → Bool) (l : List A) → ((y : A) → g y ≡ true → f y ≡ false) → all g l ≡ true → first f l ≡ none
  unfolding all first
  none-where g [] h p = refl
  none-where g (x ∷ l) h p = rw (h x (and_left _ _ p)) (none-where g l h (and_right _ _ p))

  -- the search is std's
  pub find-listed : (l : List A) → find f l ≡ found (first f l)
  unfolding first
  find-listed [] = refl
  find-listed (x ∷ l) = by (f x) (find-listed l)
    where
      by : (b : Bool) → find f l ≡ found (first f l) → cond b (code.Some x) (find f l) ≡ found (cond b (some x) (first f l))
      by true e = refl
      by false e = e

  -- what is found passes the test
  pub found-passes : (l : List A) (y : A) → first f l ≡ some y → f y ≡ true
  unfolding first
  found-passes [] y p = let z : ◌≡◌ {A = ℕ} 0 1 = cc in absurd (omega arith)
  found-passes (x ∷ l) y p = front-passes x f (f x) (first f l) y refl (found-passes l y) p

-- a log has a cell exactly if it has an entry for it
pub read-lacks : (reads : List ReadEntry) (c : ℕ) → read_entry reads c ≡ none → reads_cell reads c ≡ false
unfolding read_entry reads_cell
read-lacks reads c = of_none (λ (e : ReadEntry). eqb e.cell c) reads

pub read_has : (reads : List ReadEntry) (c : ℕ) (e : ReadEntry) → read_entry reads c ≡ some e → reads_cell reads c ≡ true
unfolding read_entry reads_cell
read_has reads c = of_some (λ (e : ReadEntry). eqb e.cell c) reads

pub write-lacks : (writes : List WriteEntry) (c : ℕ) → write_entry writes c ≡ none → writes_cell writes c ≡ false
unfolding write_entry writes_cell
write-lacks writes c = of_none (λ (e : WriteEntry). eqb e.cell c) writes

pub write-has : (writes : List WriteEntry) (c : ℕ) (e : WriteEntry) → write_entry writes c ≡ some e → writes_cell writes c ≡ true
unfolding write_entry writes_cell
write-has writes c = of_some (λ (e : WriteEntry). eqb e.cell c) writes

-- a search through the first n elements of an array, at place i
module _ {A : Type 0} (f : A → Bool) (d : A) (array : List A) (n i : ℕ) (from : first f (take n array) ≡ first f (drop i (take n array))) where
  left_here : i < n → i < length array → drop i (take n array) ≡ get_or array i d ∷ drop (suc i) (take n array)
  left_here h k = drop-cons (take n array) i d (rw length-take (omega arith)) ∙ rw (get_or-take n array i d h)

  search-here : i < n → i < length array
      → first f (take n array) ≡ cond (f (get_or array i d)) (some (get_or array i d)) (first f (drop (suc i) (take n array)))
  unfolding first
  search-here h k = from ∙ rw (left_here h k)

  pub search-next : i < n → i < length array → f (get_or array i d) ≡ false → first f (take n array) ≡ first f (drop (i + 1) (take n array))
  search-next h k q = search-here h k ∙ rw (q, add-one)

  pub search-found : i < n → i < length array → f (get_or array i d) ≡ true → first f (take n array) ≡ some (get_or array i d)
  search-found h k q = search-here h k ∙ rw q

  pub search-end : length (take n array) ≤ i → first f (take n array) ≡ none
  unfolding first
  search-end h = from ∙ rw (drop_of_length-le (take n array) h)

  -- an element that stands in R to all that follow: where neither it nor any y that it stands in R to passes, nothing does
  pub search-past : (R : A → A → Bool) → pairwise R (take n array) ≡ true → i < n → i < length array → f (get_or array i d) ≡ false
      → ((y : A) → R (get_or array i d) y ≡ true → f y ≡ false) → first f (take n array) ≡ none
  unfolding pairwise
  search-past R ordered h k q past =
      let after = rw (left_here h k) at (pairwise_drop R i (take n array) ordered) in
      search-here h k ∙ rw q (none-where f (R (get_or array i d)) (drop (suc i) (take n array)) past (and_left _ _ after))
