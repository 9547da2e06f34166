-- Each earlier stamp's test is its clause.
use native.Mathlib.Omega.{arith}
use Rattle.std.proofs.Common.{rules}
use lib.ListN.{get_or}
use Rattle.rules.specs.LogsRight.{stamps_apart}
use Rattle.logcheck.proofs.Alls.{front-all}
use Rattle.slotcheck.proofs.stamps.stamp_apart.Goals as goal

pub returns : goal.returns
returns c =
    front-all c.args.j c.args.stamps (λ k. stamps_apart k (get_or c.args.stamps c.args.j 0)) (omega arith) c.all.ensures.ran (search rules) (λ x b q k. search rules)
