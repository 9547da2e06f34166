-- A right log of either kind stands in the front of its array: so each entry of the array there is of a cell of the area.
use mathlib.Core.Bool.{true}
use mathlib.Core.List.{List}
use mathlib.Core.Path.{◌≡◌}
use Prim.Native.Nat.{ℕ, ◌<◌}
use borrow.Author.Tests.{ltb-true}
use lib.Dec.{ltb}
use lib.ListN.{length, get_or, take}
use lib.Seq.{get_or-take}
use Rattle.value.specs.Legal.{legal_word}
use Rattle.slot.specs.Logic.{◌and◌, all}
use Rattle.slot.proofs.Logic.{and_left, all-at}
use Rattle.rules.specs.State.{no_cell}
use Rattle.rules.specs.LogsRight.{logged_right}
use Rattle.rules.specs.declared.Cell.{Cell}

-- a log of any kind, as far as its count goes, in the front of its array: each entry is of a cell
pub front-inside : {A : Type 0} (cell word : A → ℕ) (d : A) (cells : List Cell) (array log : List A) (count : ℕ) → take count array ≡ log → count ≡ length log
    → all (λ e. logged_right cells (cell e) (word e)) log ≡ true → (k : ℕ) → k < count → cell (get_or array k d) < length cells
unfolding logged_right
front-inside cell word d cells array log count front size p k h =
    rw (← get_or-take count array k d h, front)
    (ltb-true _ _ (and_left _ _ (all-at (λ e. ltb (cell e) (length cells) and legal_word (get_or cells (cell e) no_cell).kind (word e)) log d p k (rw (← size) h))))
