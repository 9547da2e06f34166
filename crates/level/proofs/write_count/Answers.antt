use Rattle.level.proofs.Judging.{write-comes}
use Rattle.level.proofs.write_count.Goals as goal

pub returns : goal.returns
returns c =
    write-comes _ c.args.of.set.now c.args.words.now _ _ _ _ _ c.requires.good.0 c.decode.ensures c.step.ensures
