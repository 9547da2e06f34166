-- `run_sheet` meets its contract: of a good sheet the steps are run, and all lines fit.
use native.Mathlib.Omega.{arith}
use Rattle.stage.proofs.RunBy.{printed-by}
use Rattle.sheet.specs.Parts.{StepsRun}
use Rattle.sheet.proofs.Whole.{bad-output, ran_on}
use Rattle.sheet.proofs.run_sheet.Goals as goal

pub returns : goal.returns
returns c = printed-by StepsRun _ _ _ _ (omega arith) (bad-output _) (λ right room e b t run. ran_on _ right room run) c.run.ensures
