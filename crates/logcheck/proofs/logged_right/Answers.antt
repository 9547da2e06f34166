-- A cell below n stands at its place, and its kind is its first byte.
use mathlib.Core.Path.{◌∙◌}
use borrow.Author.Tests.{le-ltb}
use Rattle.logcheck.proofs.CellPlaces.{logged-place, logged-past}
use Rattle.logcheck.proofs.logged_right.Goals as goal

pub returns-then-c-area : goal.returns-then-c-area
returns-then-c-area c =
    c.legal_at.ensures ∙ logged-place c.args.area.cells c.args.area.bytes.now c.args.area.framed c.args.c _ c.if-c-area.true

pub returns-else-c-area : goal.returns-else-c-area
returns-else-c-area c =
    le-ltb _ _ c.if-c-area.false ∙ logged-past c.args.area.cells c.args.area.bytes.now c.args.area.framed c.args.c _ c.if-c-area.false
