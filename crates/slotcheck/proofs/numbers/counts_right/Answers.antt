-- Both counts, in the order of the clause.
use mathlib.Core.Path.{ap}
use Prim.Native.Nat.{ℕ}
use native.Mathlib.Omega.{arith}
use borrow.Author.Tests.{le-leb, lt-leb}
use lib.Dec.{leb}
use lib.ListN.{get_or}
use Rattle.slot.specs.Layout.{slot_of}
use Rattle.rules.specs.AreaRight.{counts_right}
use Rattle.logcheck.proofs.Chains.{pass, stop}
use Rattle.slotcheck.proofs.numbers.counts_right.Goals as goal

pub returns-then-from-le-READS : goal.returns-then-from-le-READS
unfolding counts_right slot_of
returns-then-from-le-READS c =
    pass _ _ _ (le-leb (get_or c.args.t.bytes.now 3 0) 16 (omega arith)) (ap (λ (x : ℕ). leb x 16) c.from-then-from-le-READS.ensures)

pub returns-else-from-le-READS : goal.returns-else-from-le-READS
unfolding counts_right slot_of
returns-else-from-le-READS c =
    stop _ _ _ (lt-leb (get_or c.args.t.bytes.now 3 0) 16 (omega arith)) (lt-leb _ _ c.if-from-le-READS.false)
