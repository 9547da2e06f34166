use Rattle.std.proofs.lemmas.Result.{err_from_is_err_and}
use Rattle.level.specs.Reached.{Comes}
use Rattle.level.proofs.Levels.{refusal-comes}
use Rattle.level.proofs.levelled.Goals as goal

pub returns-in_err-read_all : goal.returns-in_err-read_all
returns-in_err-read_all c =
    let p = err_from_is_err_and c.from_residual.result c.from_residual.ensures.1 in
    let q : Comes _ _ _ = refusal-comes _ c.args.of.set.now _ _ _ _ (rw c.in_err-read_all.was at c.read_all.ensures) in
    rw (p.1, p.2) q
