-- One cell of those that slot i may hold: `free_all` does this to each.
use mathlib.Core.Bool.{cond}
use Prim.Native.Nat.{ℕ, suc}
use lib.Dec.{eqb}
use Rattle.rules.specs.Cells.{freed}
use Rattle.rules.specs.declared.Cell.{Cell}

-- a cell that slot i holds freed, any other as it is
abbrev pub freed_from : ℕ → Cell → Cell
freed_from i x = cond (eqb x.holder (suc i)) (freed x) x
