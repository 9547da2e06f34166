-- `with_writes` meets its contract: the fields, and the write log, which stands at its offset from `at` on.
use mathlib.Core.Path.{◌≡◌, ◌∙◌}
use Prim.Native.Nat.{◌+◌, ◌*◌}
use native.Mathlib.Omega.{arith}
use lib.ListN.{drop}
use Rattle.wire.specs.Table.{tab}
use Rattle.slot.specs.Layout.{write_capacity, write_of, write_size, writes_at, slot_of}
use Rattle.packed.proofs.Offset.{log-from}
use Rattle.packed.proofs.with_writes.Goals as goal

pub returns : goal.returns
unfolding slot_of
returns c =
    let writes-back : c.writes_of-writes.result ≡ tab write_capacity (λ i. write_of (drop (writes_at c.args.width + write_size * i) (drop c.args.at c.args.s.now))) =
    c.writes_of-writes.ensures ∙ log-from write_capacity write_size write_of c.args.s.now c.args.at (writes_at c.args.width) (c.args.at + 5 + 2 * c.args.width + 96) (omega arith) in
    λ i.
    record {
      phase = (c.fields-v.ensures i).phase;
      ignoring = (c.fields-v.ensures i).ignoring;
      taken = (c.fields-v.ensures i).taken;
      readcount = (c.fields-v.ensures i).readcount;
      writecount = (c.fields-v.ensures i).writecount;
      start = (c.fields-v.ensures i).start;
      commit = (c.fields-v.ensures i).commit;
      reads = (c.fields-v.ensures i).reads;
      writes = writes-back i;
    }
