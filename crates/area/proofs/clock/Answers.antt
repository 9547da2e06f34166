-- `clock` meets its contract: the clock is the field at 6.
use mathlib.Core.Path.{sym, ◌∙◌}
use Rattle.rules.specs.Model.{controller}
use Rattle.rules.proofs.AreaRead.{clock-read}
use Rattle.area.proofs.clock.Goals as goal

pub returns : goal.returns
returns c =
    c.get.ensures ∙ sym (clock-read controller c.args.s.now)
