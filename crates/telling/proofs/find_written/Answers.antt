-- `find_written` meets its contract: before each turn the log's entry of the cell is that of what is left.
use mathlib.Core.Path.{refl, ap, ◌∙◌}
use Rattle.slot.specs.Operations.{write_found}
use Rattle.telling.proofs.Looking.{none-sought, sought-here, sought-on}
use Rattle.telling.proofs.find_written.Goals as goal

pub loop-e-init : goal.loop-e-init
loop-e-init c =
    rw (c.into_iter-e-iterator.ensures.into_iter_gives, c.take-e-items.ensures.source, c.take-e-items.ensures.count, c.iter.ensures.rest, c.from-count.ensures) refl

pub returns-then-e-cell : goal.returns-then-e-cell
returns-then-e-cell c =
    let (cut, count) = c.in-Some.ensures.steps in
    sought-here c.args.cell _ _ cut count c.if-e-cell.true ∙ ap write_found c.loop-e.invariant

pub loop-e-preserved : goal.loop-e-preserved
loop-e-preserved c =
    let (cut, count) = c.in-Some.ensures.steps in
    sought-on c.args.cell _ _ cut count c.if-e-cell.false ∙ c.loop-e.invariant

pub returns : goal.returns
returns c = none-sought c.args.cell _ _ (λ h. (c.in-None.ensures.steps h).0) ∙ ap write_found c.loop-e.invariant
