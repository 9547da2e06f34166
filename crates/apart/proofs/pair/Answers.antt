-- `pair` meets its contract: two bytes are a field, and past the end both are 0.
use native.Mathlib.Omega.{arith}
use Rattle.apart.proofs.Reading.{pair-at, pair-past}
use Rattle.apart.proofs.pair.Goals as goal

pub returns-then-s-at : goal.returns-then-s-at
returns-then-s-at c = pair-past c.args.s.now c.args.at (omega arith)

pub returns : goal.returns
returns c =
    rw (c.from_be_bytes.ensures, c.byte.ensures, c.byte-2.ensures) (pair-at c.args.s.now c.args.at)
