use mathlib.Core.Bool.{true}
use mathlib.Core.Path.{◌≡◌}
use lib.ListN.{length, get_or}
use Rattle.slot.specs.Logic.{every}
use Rattle.area.specs.Good.{state_in}
use Rattle.wearset.specs.WearSet.{place_right}
use Rattle.wearset.proofs.Before.{Seen}
use Rattle.wearset.proofs.set_right.Given as goal

abbrev pub invariant-loop-place : goal.invariant-loop-place
invariant-loop-place l = record {
  size : length l.seen ≡ 64;
  right : every l.place (place_right (state_in l.s) l.set) ≡ true;
  seen : Seen (λ k. get_or l.set k 0) l.seen l.place;
}
