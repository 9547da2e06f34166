-- Joined by `|`, two numbers have their sum less what they have in common, which is at most either of them.
use native.Mathlib.Omega.{arith}
use lib.Bits.{or_add_and, and_le_l, and_le_r}
use Rattle.bothlogs.proofs.covering.Goals as goal

pub returns : goal.returns
returns c =
    (omega (arith, or_add_and c.args.a c.args.b, and_le_r c.args.a c.args.b), omega (arith, or_add_and c.args.a c.args.b, and_le_l c.args.a c.args.b))
