use Rattle.level.proofs.Reading.{was-read}
use Rattle.level.proofs.read_place.Goals as goal

pub returns-in-Ok : goal.returns-in-Ok
returns-in-Ok c =
    was-read _ _ _ _ c.requires.0 c.step.ensures _ (rw (c.in-Ok.is, c.word.ensures))

pub returns-in-Err : goal.returns-in-Err
returns-in-Err c =
    was-read _ _ _ _ c.requires.0 c.step.ensures _ (rw c.in-Err.is)
