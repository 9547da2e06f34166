-- `put_reads` meets its contract: the entries of the log are put one after the other.
use mathlib.Core.Path.{◌∙◌}
use native.Mathlib.Omega.{arith}
use lib.ListN.{get_or}
use Rattle.wire.specs.Part.{splice}
use Rattle.wire.specs.Table.{cat}
use Rattle.slot.specs.Layout.{no_read, read_bytes, read_capacity, reads_at}
use Rattle.packed.proofs.put_reads.Goals as goal
use mathlib.Core.Path.{◌≡◌}
use Prim.Native.Nat.{◌+◌, ◌*◌}
use lib.ListN.{length}

pub returns : goal.returns
returns c =
    let size : length c.args.v.reads ≡ read_capacity = omega arith in
    let place : c.args.at + 5 + 2 * c.args.width ≡ c.args.at + reads_at c.args.width = omega arith in
    c.put_log.ensures no_read ∙ (λ i. splice c.args.s.now (place i) (cat (size i) (λ k. read_bytes (get_or c.args.v.reads k no_read))))
