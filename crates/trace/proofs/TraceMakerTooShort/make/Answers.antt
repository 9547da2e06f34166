-- `make` meets its contract: what the run says it has written stands in the buffer.
use Rattle.stage.proofs.Printing.{written-within}
use Rattle.trace.proofs.TraceMakerTooShort.make.Goals as goal

pub returns-clause-within : goal.returns-clause-within
returns-clause-within c = written-within _ c.trace_sheet.ensures
