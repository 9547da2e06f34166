-- `put_writes` meets its contract: the entries of the log are put one after the other.
use mathlib.Core.Path.{◌≡◌, ◌∙◌}
use Prim.Native.Nat.{◌+◌, ◌*◌}
use native.Mathlib.Omega.{arith}
use lib.ListN.{length, get_or}
use Rattle.wire.specs.Part.{splice}
use Rattle.wire.specs.Table.{cat}
use Rattle.slot.specs.Layout.{no_write, write_bytes, write_capacity, writes_at}
use Rattle.packed.proofs.put_writes.Goals as goal

pub returns : goal.returns
returns c =
    let size : length c.args.v.writes ≡ write_capacity = omega arith in
    let place : c.args.at + 5 + 2 * c.args.width + 96 ≡ c.args.at + writes_at c.args.width = omega arith in
    c.put_log.ensures no_write ∙ (λ i. splice c.args.s.now (place i) (cat (size i) (λ k. write_bytes (get_or c.args.v.writes k no_write))))
