-- `put_word` meets its contract: a word for each effect.
use mathlib.Core.List.{[], ◌∷◌}
use mathlib.Core.Path.{◌≡◌, refl}
use Rattle.line.proofs.Gather.{writes-one}
use Rattle.telling.specs.Parts.{word_parts}
use Rattle.telling.proofs.put_word.Goals as goal
use Rattle.telling.proofs.put_word.Goals.{in-Begun, in-Read, in-Reloaded, in-Committed, in-Aborted}

pub returns : goal.returns
returns c =
    let word : word_parts c.args.effect ≡ c.match-effect.word.now ∷ [] =
    elim c.match-effect.branch [
      | in-Begun w ↦ rw (w.in-Begun.is, w.word-is) refl
      | in-Read w ↦ rw (w.in-Read.is, w.word-is) refl
      | in-Reloaded w ↦ rw (w.in-Reloaded.is, w.word-is) refl
      | in-Committed w ↦ rw (w.in-Committed.is, w.word-is) refl
      | in-Aborted w ↦ rw (w.in-Aborted.is, w.word-is) refl
    ] in
    rw word (writes-one _ _ c.put.ensures)
