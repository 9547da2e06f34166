-- A sheet taken apart: the tests of the code are those of the definition, in its order, and what a good sheet is known by.
use mathlib.Core.Bool.{Bool, true, false, cond}
use mathlib.Core.List.{List}
use mathlib.Core.Path.{◌≡◌, refl, ap, ◌∙◌}
use Prim.Native.Nat.{ℕ, ◌+◌, ◌*◌, ◌-◌, ◌/◌, ◌≤◌}
use native.Mathlib.Omega.{arith}
use borrow.Author.Tests.{eqb-true, le-leb, leb-true}
use lib.Dec.{eqb}
use lib.ListN.{length, take, drop}
use Rattle.std.specs.Prelude.{Option, Some, None}
use Rattle.wire.specs.Field.{be}
use Rattle.slot.specs.Logic.{◌and◌}
use Rattle.slot.proofs.Logic.{and_left, and_right}
use Rattle.rules.specs.LogsRight.{cell_count_right}
use Rattle.fresh.specs.Parts.{described_legal}
use Rattle.apart.specs.declared.Parts.{Parts}
use Rattle.apart.specs.Apart.{version_of, described_length, steps_length, first_step, cells_of, steps_of, whole_sheet, pieces_of, described_right, steps_right, good_sheet, taken_apart}

-- what is there under a test alone tells of the test
module _ {A : Type 0} where
  pub found : (b : Bool) {x y : A} → Some x ≡ cond b (Some y) None → (b ≡ true) × (x ≡ y)
  found true e = (refl, cc)
  found false e = cc

  pub not-found : (b : Bool) (y : A) → None ≡ cond b (Some y) None → b ≡ false
  not-found true y e = cc
  not-found false y e = refl

  cond-and : (a b : Bool) (x y : A) → cond (a and b) x y ≡ cond a (cond b x y) y
  unfolding ◌and◌
  cond-and true b x y = refl
  cond-and false b x y = refl

-- pieces are those of the descriptions, and those of the steps
pub cell-pieces : (d : ℕ) → pieces_of d 5 1 64 ≡ cond (described_right d) (Some (d / 5)) None
unfolding pieces_of described_right cell_count_right
cell-pieces d = refl

pub step-pieces : (l : ℕ) → pieces_of l 8 0 4096 ≡ cond (steps_right l) (Some (l / 8)) None
unfolding pieces_of steps_right ◌and◌
step-pieces l = rw (le-leb 0 (l / 8) (omega arith))

-- the tests of the code, one after the other, with the lengths d and l that it read
module _ (s : List ℕ) (d l : ℕ) (described : d ≡ described_length s) (stepped : l ≡ be 2 (drop (3 + d) s)) where
  abbrev pub parts : Parts
  parts = record { cells = d / 5; first = 5 + d; steps = l / 8 }

  abbrev pub by_tests : Option Parts
  by_tests =
      cond (eqb (version_of s) 1)
      (cond (eqb (length s) (5 + d + l))
      (cond (described_right d)
      (cond (steps_right l)
      (cond (described_legal (take (3 + d - 3) (drop 3 s))) (Some parts) None) None) None) None) None

  pub by-tests : by_tests ≡ taken_apart s
  unfolding taken_apart good_sheet whole_sheet
  by-tests =
      let lengths : l ≡ steps_length s = stepped ∙ ap (λ (n : ℕ). be 2 (drop (3 + n) s)) described in
      let n : 3 + d - 3 ≡ d = omega arith in
      simp cond-and (rw (n, lengths, described) refl)

-- what a sheet that is taken apart is known by
pub record GoodParts (s : List ℕ) (cells first steps : ℕ) : Type 0 where
  pub right : good_sheet s ≡ true
  pub count : cells ≡ cells_of s
  pub size : 5 * cells ≡ described_length s
  pub few : 1 ≤ cells
  pub many : cells ≤ 64
  pub place : first ≡ first_step s
  pub stepped : 8 * steps ≡ steps_length s
  pub most : steps ≤ 4096
  pub long : length s ≡ 5 + described_length s + steps_length s

module _ (s : List ℕ) where
  pub good-parts : good_sheet s ≡ true → GoodParts s (cells_of s) (first_step s) (steps_of s)
  unfolding good_sheet whole_sheet described_right steps_right cell_count_right
  good-parts p =
      let whole = and_left _ _ (and_right _ _ p) in
      let cells = and_left _ _ (and_right _ _ (and_right _ _ p)) in
      let steps = and_left _ _ (and_right _ _ (and_right _ _ (and_right _ _ p))) in
      record {
        right = p;
        count = refl;
        size = eqb-true _ _ (and_left _ _ cells);
        few = leb-true _ _ (and_left _ _ (and_right _ _ cells));
        many = leb-true _ _ (and_right _ _ (and_right _ _ cells));
        place = refl;
        stepped = eqb-true _ _ (and_left _ _ steps);
        most = leb-true _ _ (and_right _ _ steps);
        long = eqb-true _ _ whole;
      }

  pub apart-good : {p : Parts} → Some p ≡ taken_apart s → GoodParts s p.cells p.first p.steps
  unfolding taken_apart
  apart-good e = let told = found (good_sheet s) e in rw told.1 (good-parts told.0)

  pub apart-bad : None ≡ taken_apart s → good_sheet s ≡ false
  unfolding taken_apart
  apart-bad e = not-found (good_sheet s) _ e
