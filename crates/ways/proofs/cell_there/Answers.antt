-- The cells of the state are as many as the area's count says.
use native.Mathlib.Omega.{arith}
use Rattle.rules.proofs.AreaRead.{count-read}
use Rattle.rules.specs.Model.{controller}
use Rattle.ways.proofs.cell_there.Goals as goal

pub returns-then-cell-count-clause-inside : goal.returns-then-cell-count-clause-inside
returns-then-cell-count-clause-inside c = rw (← count-read controller _) (omega (arith, c.count.ensures))
