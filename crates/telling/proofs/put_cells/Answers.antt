-- `put_cells` meets its contract: before each turn, what is put and then what is left of the log is all of it.
use mathlib.Core.Path.{refl, sym, ap, ◌∙◌}
use Rattle.line.specs.Gather.{Gathered, written}
use Rattle.telling.proofs.Fields.{none-left, one-put}
use Rattle.telling.proofs.put_cells.Goals as goal

pub loop-e-init : goal.loop-e-init
loop-e-init c =
    rw (c.into_iter-e-iterator.ensures.into_iter_gives, c.take-e-items.ensures.source, c.take-e-items.ensures.count, c.iter.ensures.rest, c.from-count.ensures) (record { same = refl; left = refl })

pub loop-e-preserved : goal.loop-e-preserved
loop-e-preserved c =
    let (cut, count) = c.in-Some.ensures.steps in
    let put = rw c.from.ensures at c.field.ensures.leaves in
    record { same = c.field.ensures.same ∙ c.loop-e.invariant.same; left = one-put _ _ _ cut count put ∙ c.loop-e.invariant.left }

pub returns : goal.returns
returns c =
    let all = sym (none-left _ _ (written c.loop-e.out) (λ h. (c.in-None.ensures.steps h).0)) ∙ c.loop-e.invariant.left in
    record { same = c.loop-e.invariant.same; leaves = record { end = ap (λ (g : Gathered). g.end) all; bytes = ap (λ (g : Gathered). g.bytes) all } }
