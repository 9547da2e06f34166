-- What is asked of a set before the first read.
use mathlib.Core.Bool.{Bool, true, false, not}
use mathlib.Core.List.{List}
use mathlib.Core.Path.{◌≡◌, refl, sym, ◌∙◌, ap}
use Prim.Native.Nat.{ℕ, ◌+◌, ◌%◌, ◌<◌, ◌≤◌}
use native.Mathlib.Numerals.{add-one}
use native.Mathlib.Omega.{arith}
use borrow.Author.Tests.{lt-ltb, le-ltb, ltb-true, leb-true, eqb-true, eqb-false}
use lib.Dec.{eqb, ltb}
use lib.ListN.{length, get_or, set, replicate, get_or-replicate}
use lib.Seq.{get_or-set_same, get_or-set_other}
use Rattle.slot.specs.Logic.{◌and◌, every}
use Rattle.slot.proofs.Logic.{and_intro, and_left, and_right, and-true, and-false}
use Rattle.rules.specs.State.{State, cell_count, cell_at}
use Rattle.rules.specs.declared.Cell.{Cell}
use Rattle.rules.specs.Model.{controller}
use Rattle.rules.proofs.AreaRead.{count-read}
use Rattle.area.specs.Good.{Good, state_in}
use Rattle.logcheck.proofs.Chains.{pass, stop, every-no, every-yes}
use Rattle.logcheck.proofs.LogLaws.{apart}
use Rattle.wearset.specs.WearSet.{set_length_right, kind_due, cell_fits, place_right, set_right}

-- a cell of the right kind
module _ (S : State) (place c : ℕ) where
  pub no_cell : (n : ℕ) → n ≡ cell_count S → n ≤ c → ltb c n ≡ cell_fits S place c
  unfolding cell_fits
  no_cell n e h = stop _ _ _ (le-ltb c (cell_count S) (omega arith)) (le-ltb c n h)

  pub by_kind : (n kind : ℕ) (x : Cell) → n ≡ cell_count S → c < n → x ≡ cell_at S c → kind ≡ x.kind → eqb kind (kind_due place) ≡ cell_fits S place c
  unfolding cell_fits
  by_kind n kind x e h here k =
      pass _ _ _ (lt-ltb c (cell_count S) (omega arith)) (ap (λ m. eqb m (kind_due place)) (k ∙ ap (λ (y : Cell). y.kind) here))

  pub fits-inside : cell_fits S place c ≡ true → c < cell_count S
  unfolding cell_fits
  fits-inside p = ltb-true _ _ (and_left _ _ p)

-- a cell of a good area is one of 64
pub inside-64 : (l : List ℕ) (place c : ℕ) → Good l → cell_fits (state_in l) place c ≡ true → c < 64
inside-64 l place c good p =
    let inside = fits-inside (state_in l) place c p in
    let count = count-read controller l in
    let many = good.many in
    omega arith

-- `seen` has the cells of the places that were passed
module _ (cell : ℕ → ℕ) where
  abbrev pub Seen : List Bool → ℕ → Type 0
  Seen seen place = (x : ℕ) → x < 64 → not (get_or seen x false) ≡ every place (λ k. apart (cell k) x)

  pub seen-none : Seen (replicate 64 false) 0
  unfolding every
  seen-none x h = ap not (get_or-replicate 64 x false false h)

  pub seen-next : (seen : List Bool) (place c : ℕ) → length seen ≡ 64 → c < 64 → c ≡ cell place → Seen seen place → Seen (set seen c true) (place + 1)
  unfolding every
  seen-next seen place c size below here before x h = rw (add-one place, ← here) (by (eqb c x) refl)
    where
      by : (b : Bool) → eqb c x ≡ b → not (get_or (set seen c true) x false) ≡ (every place (λ k. apart (cell k) x) and apart c x)
      by true e =
          let same : c ≡ x = eqb-true _ _ e in
          let now : get_or (set seen c true) x false ≡ true = rw (← same) (get_or-set_same seen c true false (omega arith)) in
          ap not now ∙ rw e (sym (and-false _))
      by false e =
          let kept : get_or (set seen c true) x false ≡ get_or seen x false = get_or-set_other seen c x true false (λ s. eqb-false _ _ e (sym s)) in
          ap not kept ∙ before x h ∙ rw e (sym (and-true _))

-- a turn of the loop over the set: the cell at a place, and whether none before it is the same
module _ (S : State) (set : List ℕ) (place c : ℕ) (here : c ≡ get_or set place 0) where
  pub place-unfit : cell_fits S place c ≡ false → place_right S set place ≡ false
  unfolding place_right
  place-unfit p = sym (stop _ _ _ (rw here at p) refl)

  module _ (free : Bool) (says : free ≡ every place (λ k. apart (get_or set k 0) c)) where
    next-free : free ≡ every place (λ k. apart (get_or set k 0) (get_or set place 0))
    next-free = says ∙ ap (λ (x : ℕ). every place (λ k. apart (get_or set k 0) x)) here

    pub place_twice : free ≡ false → place_right S set place ≡ false
    unfolding place_right
    place_twice q = ap (λ (b : Bool). cell_fits S place (get_or set place 0) and b) (sym next-free ∙ q) ∙ and-false _

    pub place-fits : cell_fits S place c ≡ true → free ≡ true → place_right S set place ≡ true
    unfolding place_right
    place-fits p q = and_intro _ _ (rw here at p) (sym next-free ∙ q)

-- what a right set's length says
length-few : (n : ℕ) → set_length_right n ≡ true → (n % 2 ≡ 0) × (n ≤ 16)
unfolding set_length_right
length-few n p = (eqb-true _ _ (and_left _ _ p), leb-true _ _ (and_right _ _ (and_right _ _ p)))

-- the places of a set of a right length
module _ (S : State) (set : List ℕ) (right : set_length_right (length set) ≡ true) where
  pub set-wrong : (place : ℕ) → place < length set → place_right S set place ≡ false → false ≡ set_right S set
  unfolding set_right
  set-wrong place h p = pass _ _ _ right (every-no (length set) (place_right S set) place h p)

  pub set-whole : (place : ℕ) → place ≡ length set → every place (place_right S set) ≡ true → true ≡ set_right S set
  unfolding set_right
  set-whole place e p = pass _ _ _ right (every-yes (length set) (place_right S set) place e p)

-- what a right set says of its length
pub set-length : (S : State) (set : List ℕ) → set_right S set ≡ true → (length set % 2 ≡ 0) × (length set ≤ 16)
unfolding set_right
set-length S set p = length-few (length set) (and_left _ _ p)
