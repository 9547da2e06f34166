-- Both bounds, in the order of the clause.
use Rattle.std.proofs.Common.{rules}
use Rattle.slot.specs.Logic.{◌and◌}
use Rattle.rules.specs.LogsRight.{cell_count_right}
use Rattle.wellformed.proofs.count_right.Goals as goal

pub returns : goal.returns
unfolding cell_count_right ◌and◌
returns c = search rules
