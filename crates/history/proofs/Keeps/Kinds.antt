-- No step changes the number of cells or a cell's kind: it leaves the cells alone, or replaces one by one of the same kind, or frees some.
use mathlib.Core.Bool.{true, false}
use mathlib.Core.List.{List, map}
use mathlib.Core.Path.{◌≡◌, refl, sym, ◌∙◌, ap}
use Prim.Native.Nat.{ℕ, suc}
use lib.Dec.{eqb, eqb-zero-suc}
use lib.ListN.{length, get_or, set, length-set, length-map, get_or-map}
use Rattle.rules.specs.declared.Cell.{Cell}
use Rattle.rules.specs.State.{no_cell}
use Rattle.rules.specs.Cells.{freed, free_all}
use Rattle.rules.proofs.Freed.{freed_from}
use Rattle.history.proofs.Keeps.Lists.{cond-elim, set-each}

-- as many cells, each of the kind it was
pub record SameKinds (cells next : List Cell) : Type 0 where
  pub count : length next ≡ length cells
  pub kind : (c : ℕ) → (get_or next c no_cell).kind ≡ (get_or cells c no_cell).kind

pub kinds-same : (cells : List Cell) → SameKinds cells cells
kinds-same cells = record { count = refl; kind = λ c. refl }

pub kinds-set : (cells : List Cell) (c : ℕ) (x : Cell) → x.kind ≡ (get_or cells c no_cell).kind → SameKinds cells (set cells c x)
kinds-set cells c x e =
    record { count = length-set cells c x; kind = set-each (λ d (y : Cell). y.kind ≡ (get_or cells d no_cell).kind) cells c x no_cell e (λ d. refl) }

-- each cell after all that slot i holds is freed
pub free-cell : (i : ℕ) (cells : List Cell) (c : ℕ) → get_or (free_all i cells) c no_cell ≡ freed_from i (get_or cells c no_cell)
unfolding free_all
free-cell i cells c =
    let none : freed_from i no_cell ≡ no_cell = rw (eqb-zero-suc i) in
    ap (λ (d : Cell). get_or (map (freed_from i) cells) c d) (sym none) ∙ get_or-map (freed_from i) cells c no_cell

-- what holds of a freed cell where slot i is the holder, and of the cell as it is elsewhere, holds after all that slot i holds is freed
pub free-elim : (i : ℕ) (cells : List Cell) (c : ℕ) (P : Cell → Type 0) → (eqb (get_or cells c no_cell).holder (suc i) ≡ true → P (freed (get_or cells c no_cell)))
    → (eqb (get_or cells c no_cell).holder (suc i) ≡ false → P (get_or cells c no_cell)) → P (get_or (free_all i cells) c no_cell)
free-elim i cells c P f g =
    rw (free-cell i cells c) (cond-elim P (eqb (get_or cells c no_cell).holder (suc i)) (freed (get_or cells c no_cell)) (get_or cells c no_cell) f g)

pub kinds-free : (i : ℕ) (cells : List Cell) → SameKinds cells (free_all i cells)
unfolding free_all
kinds-free i cells =
    record {
      count = length-map cells (freed_from i);
      kind = λ c. free-elim i cells c (λ y. y.kind ≡ (get_or cells c no_cell).kind) (λ e. refl) (λ e. refl);
    }
