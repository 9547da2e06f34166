-- `look` meets its contract: the slot is looked at where the definition says.
use mathlib.Core.Path.{refl, sym, ◌∙◌}
use Rattle.telling.proofs.Looking.{none-looked, looked}
use Rattle.telling.proofs.look.Goals as goal

pub returns-then-area-at : goal.returns-then-area-at
returns-then-area-at c =
    none-looked c.args.area.now c.args.slot c.args.cell (c.from-cells.ensures ∙ c.byte.ensures) (c.from.ensures ∙ c.saturating_sub.ensures) refl c.if-area-at.true c.empty.ensures

pub returns-then-is_some : goal.returns-then-is_some
returns-then-is_some c =
    looked c.args.area.now c.args.slot c.args.cell (c.from-cells.ensures ∙ c.byte.ensures) (c.from.ensures ∙ c.saturating_sub.ensures) refl c.if-area-at.false c.with_writes-own.ensures c.find_written-written.ensures c.find_read-read.ensures (rw (sym c.is_some.ensures ∙ c.if-is_some.true) c.if-is_some.true)

pub returns-else-is_some : goal.returns-else-is_some
returns-else-is_some c =
    looked c.args.area.now c.args.slot c.args.cell (c.from-cells.ensures ∙ c.byte.ensures) (c.from.ensures ∙ c.saturating_sub.ensures) refl c.if-area-at.false c.with_writes-own.ensures c.find_written-written.ensures c.find_read-read.ensures (rw (sym c.is_some.ensures ∙ c.if-is_some.false) c.is_some-else-is_some.ensures)
