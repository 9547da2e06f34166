-- `marked_entry` meets its contract: the cell read is the entry's, and its mark is what `outdated` says of it.
use mathlib.Core.Path.{ap, ◌∙◌}
use Rattle.slot.specs.Logic.{◌or◌}
use Rattle.rules.specs.Cells.{held_by_other, newer, with_mark}
use Rattle.rules.specs.declared.Cell.{Cell}
use Rattle.readlog.proofs.marked_entry.Goals as goal

pub returns : goal.returns
unfolding with_mark
returns c =
    let mark = c.outdated.ensures ∙ ap (λ (x : Cell). held_by_other c.args.slot.index x or newer c.args.start x) c.cell_at-x.ensures in
    λ j. record { cell = c.args.e.cell; mark = mark j; word = c.args.e.word }
