-- Where holders are right, they are slots.
use mathlib.Core.Bool.{Bool, true, false}
use mathlib.Core.List.{List}
use mathlib.Core.Path.{◌≡◌, refl}
use Prim.Native.Nat.{ℕ, suc, ◌≤◌}
use native.Mathlib.Omega.{arith}
use lib.Dec.{eqb, ltb, leb}
use lib.ListN.{length, get_or, get_or-eq_default}
use borrow.Author.Tests.{leb-true, ltb-true, ltb-false}
use Rattle.slot.specs.Logic.{◌and◌, same, every}
use Rattle.slot.proofs.Logic.{and_left, every-at}
use Rattle.rules.specs.State.{no_cell}
use Rattle.rules.specs.LogsRight.{holders_right}
use Rattle.rules.specs.declared.Cell.{Cell}

-- a cell's holder is no slot beyond the last, whether the cell is there or not
pub holder-within : (cells : List Cell) (slots : ℕ) (holding : ℕ → ℕ → Bool) → holders_right cells slots holding ≡ true → (c : ℕ) → (get_or cells c no_cell).holder ≤ slots
unfolding holders_right
holder-within cells slots holding p c = by (ltb c (length cells)) refl
  where
    by : (b : Bool) → ltb c (length cells) ≡ b → (get_or cells c no_cell).holder ≤ slots
    by true e =
        leb-true _ _
        (and_left _ _
        (every-at (length cells)
        (λ d. leb (get_or cells d no_cell).holder slots and every slots (λ s. same (eqb (get_or cells d no_cell).holder (suc s)) (holding s d))) p c (ltb-true _ _ e)))
    by false e = rw (get_or-eq_default cells no_cell {n = c} (ltb-false _ _ e)) (omega arith)
