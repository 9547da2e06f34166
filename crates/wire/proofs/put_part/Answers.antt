-- `put_part` meets its contract: the bytes before the part and those past it stay.
use mathlib.Core.Path.{refl}
use lib.ListN.{length}
use Rattle.wire.proofs.Laws.Part.{splice-over}
use Rattle.wire.proofs.put_part.Goals as goal

pub returns : goal.returns
returns c = splice-over c.args.s.now c.args.at (length c.args.part.now) c.args.part.now _ (cc) refl
