-- `make` meets its contract: what the run says it has written stands in the buffer.
use Rattle.stage.proofs.Printing.{written-within}
use Rattle.run.proofs.RunMakerTooShort.make.Goals as goal

pub returns-clause-within : goal.returns-clause-within
returns-clause-within c = written-within _ c.run_sheet.ensures
