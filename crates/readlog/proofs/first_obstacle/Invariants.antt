use mathlib.Core.Path.{◌≡◌}
use lib.ListN.{take, drop}
use Rattle.std.specs.Prelude as code
use Rattle.rules.specs.Cells.{obstacle}
use Rattle.area.specs.Good.{state_in}
use Rattle.area.specs.InPlace.{record_at}
use Rattle.area.proofs.Logged.{Counted}
use Rattle.readlog.proofs.first_obstacle.Given as goal

abbrev pub invariant-loop-k : goal.invariant-loop-k
invariant-loop-k l =
    let a = l.slot.area.now in
    let log = take l.n (record_at a l.slot.index).reads in
    (l.obstacle ≡ code.None) × Counted a l.slot.index l.n × (obstacle (state_in a) l.slot.index log ≡ obstacle (state_in a) l.slot.index (drop l.k log))
