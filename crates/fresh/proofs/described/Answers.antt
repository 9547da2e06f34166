-- `described` meets its contract: kind and word are what the definition reads.
use lib.ListN.{get_or}
use Rattle.rules.specs.Area.{described_cell}
use Rattle.fresh.proofs.described.Goals as goal

pub returns : goal.returns
unfolding described_cell
returns c = λ i. record { kind = get_or c.args.d.now 0 0; holder = 0; word = c.word_at.ensures i; stamp = 0 }
