-- `cell_at` meets its contract: the bytes at a cell's offset stand for the cell.
use mathlib.Core.Path.{sym, ap, ◌∙◌}
use Prim.Native.Nat.{ℕ}
use lib.ListN.{drop}
use Rattle.rules.specs.Model.{controller}
use Rattle.rules.specs.Layout.{cell_of}
use Rattle.rules.proofs.AreaRead.{cell-read}
use Rattle.area.proofs.cell_at.Goals as goal

pub returns : goal.returns
returns c =
    c.cell_of.ensures
    ∙ ap (λ (at : ℕ). cell_of 8 (drop at c.args.s.now)) c.cell_offset.ensures
    ∙ sym (cell-read controller c.args.s.now c.args.c c.requires.1)
