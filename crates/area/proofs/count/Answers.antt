-- `count` meets its contract: the number of cells is the byte at 5.
use mathlib.Core.Path.{sym}
use Rattle.rules.specs.Model.{controller}
use Rattle.rules.proofs.AreaRead.{count-read}
use Rattle.area.proofs.count.Goals as goal

pub returns : goal.returns
returns c = sym (count-read controller c.args.s.now)
