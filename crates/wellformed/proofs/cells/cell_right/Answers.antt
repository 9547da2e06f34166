-- The clause of the cell at its place, its tests in their order.
use mathlib.Core.Bool.{true≢false}
use mathlib.Core.Path.{sym, ◌∙◌}
use borrow.Author.Tests.{eq-eqb, ne_eqb}
use Rattle.logcheck.proofs.Chains.{pass, stop}
use Rattle.wellformed.proofs.Places.{cell-places}
use Rattle.wellformed.proofs.cells.cell_right.Goals as goal
use Rattle.wellformed.proofs.cells.cell_right.Goals.{then-s-at, else-s-at}

pub returns-then-get-clock : goal.returns-then-get-clock
returns-then-get-clock c =
    elim c.if-s-at.branch [
      | then-s-at w ↦
          pass _ _ _ (eq-eqb _ _ w.if-s-at.true)
          (pass _ _ _ (rw w.get.ensures at (sym w.value-is ∙ c.if-get-clock.true)) c.legal_at.ensures)
      | else-s-at w ↦ absurd (true≢false (sym c.if-get-clock.true ∙ w.value-is ∙ ne_eqb _ _ w.if-s-at.false))
    ]
    ∙ cell-places c.args.clock c.args.due c.args.at c.args.s.now

pub returns-else-get-clock : goal.returns-else-get-clock
returns-else-get-clock c =
    elim c.if-s-at.branch [
      | then-s-at w ↦
          pass _ _ _ (eq-eqb _ _ w.if-s-at.true)
          (stop _ _ _ (rw w.get.ensures at (sym w.value-is ∙ c.if-get-clock.false)) c.if-get-clock.false)
      | else-s-at w ↦ stop _ _ _ (ne_eqb _ _ w.if-s-at.false) c.if-get-clock.false
    ]
    ∙ cell-places c.args.clock c.args.due c.args.at c.args.s.now
