-- `word_at` meets its contract: four bytes stand for less than 2 to the power 32.
use native.Mathlib.Omega.{arith}
use lib.ListN.{drop}
use Rattle.wire.proofs.Laws.Field.{be-bound, bytes_drop}
use Rattle.wire.proofs.word_at.Goals as goal

pub overflow_cast-result : goal.overflow_cast-result
overflow_cast-result c =
    omega (arith, be-bound 4 (drop c.args.at c.args.s.now) (bytes_drop c.args.at c.args.s.now (λ i. omega (arith, c.type_inv.s i))), c.get.ensures)
