-- `word` meets its contract: four bytes are a field.
use native.Mathlib.Omega.{arith}
use lib.Seq.{get_or-drop}
use Rattle.wire.specs.Field.{be}
use Rattle.apart.proofs.word.Goals as goal

pub returns : goal.returns
unfolding be
returns c = simp get_or-drop (omega arith)
