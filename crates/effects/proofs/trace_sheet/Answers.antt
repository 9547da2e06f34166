-- `trace_sheet` meets its contract: of a good sheet the steps are traced, and all lines fit.
use native.Mathlib.Omega.{arith}
use Rattle.stage.proofs.RunBy.{printed-by}
use Rattle.effects.specs.Steps.{AllTraced}
use Rattle.effects.proofs.Whole.{bad-trace, traced-on}
use Rattle.effects.proofs.trace_sheet.Goals as goal

pub returns : goal.returns
returns c = printed-by AllTraced _ _ _ _ (omega arith) (bad-trace _) (λ right room e b t run. traced-on _ right room run) c.run.ensures
