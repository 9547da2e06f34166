-- `put_rest` meets its contract: a read, a commit, and what is neither.
use mathlib.Core.List.{[], ◌∷◌}
use Rattle.line.specs.Line.{field}
use Rattle.line.proofs.Gather.{writes-both, writes-one, writes_none}
use Rattle.telling.specs.Parts.{cell_parts}
use Rattle.telling.proofs.Fields.{no-rest}
use Rattle.telling.proofs.put_rest.Goals as goal

pub returns-in-Read : goal.returns-in-Read
returns-in-Read c =
    rw c.in-Read.is (rw c.from.ensures at (writes-one _ _ c.field.ensures))

pub returns-in-Committed : goal.returns-in-Committed
returns-in-Committed c =
    rw c.in-Committed.is (writes-both (field c.args.own.commit ∷ []) (cell_parts c.args.own) _ (writes-one _ _ c.field-in-Committed.ensures) c.put_cells.ensures)

pub returns-in_default : goal.returns-in_default
returns-in_default c =
    rw (no-rest c.args.effect c.args.cell c.args.own c.in_default.not-Read c.in_default.not-Committed) (writes_none c.args.out.now)
