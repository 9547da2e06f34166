-- `write_at` meets its contract: the entry that is read where it stands is the log's.
use mathlib.Core.Path.{◌∙◌}
use native.Mathlib.Omega.{arith}
use Rattle.slot.specs.Layout.{write_capacity, no_write, write_of, write_size, writes_at, slot_of}
use Rattle.packed.proofs.Offset.{entry-from}
use Rattle.packed.proofs.write_at.Goals as goal

pub returns : goal.returns
unfolding slot_of
returns c =
    c.read.ensures
    ∙ entry-from write_capacity write_size write_of c.args.s.now c.args.at (writes_at c.args.width) _ (omega arith) no_write c.args.k c.requires.2
