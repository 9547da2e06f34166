-- `pieces` meets its contract: the tests are the definition's.
use Rattle.std.proofs.Common.{arith}
use Rattle.std.proofs.lemmas.Grind.{common_steps}
use Rattle.slot.specs.Logic.{◌and◌}
use Rattle.apart.specs.Apart.{pieces_of}
use Rattle.apart.proofs.pieces.Goals as goal

pub returns-then-piece-n : goal.returns-then-piece-n
unfolding pieces_of ◌and◌
returns-then-piece-n c = grind (arith, common_steps)

pub returns : goal.returns
unfolding pieces_of ◌and◌
returns c = grind (arith, common_steps)
