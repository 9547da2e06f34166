-- Each cell's test is its clause, with what is due to it.
use mathlib.Core.Path.{refl}
use Prim.Native.Nat.{◌+◌, ◌*◌}
use lib.ListN.{drop, get_or}
use Rattle.std.proofs.Common.{rules}
use Rattle.rules.specs.Layout.{cell_of}
use Rattle.logcheck.proofs.Alls.{range-all}
use Rattle.wellformed.specs.Claims.{cell_due}
use Rattle.wellformed.proofs.cells.cells_right.Goals as goal

pub returns : goal.returns
returns c =
    range-all c.args.area.cells (λ k. cell_due c.args.clock (get_or c.args.due.now k 0) (cell_of 8 (drop (14 + 14 * k) c.args.area.bytes.now))) c.all.ensures.ran refl (λ x b q k. search rules)
