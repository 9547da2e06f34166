-- `put_effect` meets its contract: each part goes behind those before it.
use Rattle.line.proofs.Gather.{writes-both, writes-one}
use Rattle.telling.proofs.put_effect.Goals as goal

pub returns : goal.returns
returns c =
    let slot = rw c.from.ensures at c.field.ensures in
    writes-both _ _ _
    (writes-both _ _ _ (writes-both _ _ _ (writes-both _ _ _ c.put_word.ensures (writes-one _ _ slot)) (writes-one _ _ c.field-2.ensures)) c.put_rest.ensures)
    (writes-one _ _ c.put.ensures)
