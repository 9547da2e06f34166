-- The clauses of the header and of a cell, said of the bytes at their places: a record read from an offset on is its bytes there.
use mathlib.Core.Bool.{true, false}
use mathlib.Core.List.{List}
use mathlib.Core.Path.{◌≡◌, refl, sym, ◌∙◌}
use Prim.Native.Nat.{ℕ, ◌+◌, ◌*◌, ◌≤◌}
use native.Mathlib.Omega.{arith}
use borrow.Author.Tests.{leb-true, eqb-true, eq-eqb, ne_eqb}
use lib.Dec.{eqb, leb}
use lib.ListN.{length, get_or, drop}
use lib.Seq.{drop-drop, get_or-drop}
use Rattle.wire.specs.Field.{be}
use Rattle.value.specs.Legal.{legal_word}
use Rattle.slot.specs.Logic.{◌and◌}
use Rattle.slot.proofs.Logic.{and_assoc, and_left, and_right}
use Rattle.slot.proofs.Entry.{first_byte}
use Rattle.rules.specs.Model.{controller}
use Rattle.rules.specs.Layout.{cell_of, count_in}
use Rattle.rules.specs.LogsRight.{cell_count_right}
use Rattle.rules.specs.AreaRight.{lengths_agree, version_right}
use Rattle.rules.proofs.Controller.{controller-length}
use Rattle.logcheck.specs.Frame.{Framed}
use Rattle.logcheck.proofs.Chains.{stop, pass}
use Rattle.wellformed.specs.AreaParts.{header_right}
use Rattle.wellformed.specs.Claims.{cell_due}

-- the header's clauses, in their order
module _ (l : List ℕ) where
  header-places :
      (eqb (length l) (1590 + 14 * get_or l 5 0) and eqb (be 4 (drop 1 l)) (length l) and eqb (get_or l 0 0) 1 and cell_count_right controller (get_or l 5 0))
      ≡ header_right l
  unfolding header_right lengths_agree version_right
  header-places = rw (controller-length (get_or l 5 0)) (sym (and_assoc _ _ _))

  pub other_length : (length l ≡ 1590 + 14 * get_or l 5 0 → ⊥) → false ≡ header_right l
  other_length h = stop _ _ _ (ne_eqb _ _ h) refl ∙ header-places

  module _ (size : length l ≡ 1590 + 14 * get_or l 5 0) where
    pub other-field : (be 4 (drop 1 l) ≡ length l → ⊥) → false ≡ header_right l
    other-field h = pass _ _ _ (eq-eqb _ _ size) (stop _ _ _ (ne_eqb _ _ h) refl) ∙ header-places

    pub header-rest : be 4 (drop 1 l) ≡ length l → (eqb (get_or l 0 0) 1 and cell_count_right controller (get_or l 5 0)) ≡ header_right l
    header-rest h = pass _ _ _ (eq-eqb _ _ size) (pass _ _ _ (eq-eqb _ _ h) refl) ∙ header-places

pub framed : (n : ℕ) (l : List ℕ) → n ≡ get_or l 5 0 → header_right l ≡ true → Framed n l
unfolding cell_count_right
framed n l e p =
    let h = header-places l ∙ p in
    let size : length l ≡ 1590 + 14 * get_or l 5 0 = eqb-true _ _ (and_left _ _ h) in
    let few : get_or l 5 0 ≤ 64 = leb-true _ _ (and_right _ _ (and_right _ _ (and_right _ _ (and_right _ _ h)))) in
    record { count = sym e; size = omega arith; many = omega arith }

-- the count is the header's own
pub own-frame : {n : ℕ} {l : List ℕ} → Framed n l → Framed (count_in l) l
own-frame f = record { count = refl; size = omega arith; many = omega arith }

pub cell-places : (clock due at : ℕ) (l : List ℕ)
    → (eqb (get_or l (at + 1) 0) due and leb (be 8 (drop (at + 6) l)) clock and legal_word (get_or l at 0) (be 4 (drop (at + 2) l)))
    ≡ cell_due clock due (cell_of 8 (drop at l))
unfolding cell_due cell_of
cell-places clock due at l = rw (first_byte l at, ← get_or-drop at l 1 0, ← drop-drop 2 at l, ← drop-drop 6 at l)
