use native.Mathlib.Omega.{arith}
use Rattle.rules.specs.Model.{controller}
use Rattle.rules.proofs.AreaRead.{count-read}
use Rattle.wearset.proofs.Before.{no_cell, by_kind}
use Rattle.wearset.proofs.cell_fits.Goals as goal

pub cell_at-requires : goal.cell_at-requires
cell_at-requires c =
    (c.requires, rw (← count-read controller _) (omega (arith, c.count.ensures)))

pub returns-then-c-count : goal.returns-then-c-count
returns-then-c-count c =
    by_kind _ _ _ _ _ _ c.count.ensures c.if-c-count.true c.cell_at.ensures c.from.ensures

pub returns-else-c-count : goal.returns-else-c-count
returns-else-c-count c = no_cell _ _ _ _ c.count.ensures c.if-c-count.false
