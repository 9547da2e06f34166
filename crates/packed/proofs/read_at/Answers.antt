-- `read_at` meets its contract: the entry that is read where it stands is the log's.
use mathlib.Core.Path.{◌∙◌}
use native.Mathlib.Omega.{arith}
use Rattle.slot.specs.Layout.{read_capacity, no_read, read_of, read_size, reads_at, slot_of}
use Rattle.packed.proofs.Offset.{entry-from}
use Rattle.packed.proofs.read_at.Goals as goal

pub returns : goal.returns
unfolding slot_of
returns c =
    c.read.ensures
    ∙ entry-from read_capacity read_size read_of c.args.s.now c.args.at (reads_at c.args.width) _ (omega arith) no_read c.args.k c.requires.2
