-- At each number the definition's chain of tests computes, and the last arm has none of them.
use mathlib.Core.Path.{sym}
use Rattle.call.proofs.Unknown.{last_arm, unknown-outside}
use Rattle.call.proofs.decode.Goals as goal

pub returns-in_default : goal.returns-in_default
returns-in_default c = sym (unknown-outside _ _ _ _ (last_arm _ 14 c.in_default.in_default-own.rest))
