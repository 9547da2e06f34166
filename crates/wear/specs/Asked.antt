-- Nothing stands against the operation: the area is well formed, the set right, the slot there, and its transaction open with empty logs.
use Rattle.std.specs.Prelude.{true, List, ◌≡◌, ℕ, pred, ◌≤◌}
use Rattle.rules.specs.State.{slot_at}
use Rattle.area.specs.Good.{Good, state_in}
use Rattle.wearset.specs.WearSet.{set_right}
use Rattle.wearset.specs.OpenEmpty.{open_and_empty}

pub record Asked (l set : List ℕ) (slot : ℕ) : Type 0 where
  pub good : Good l
  pub right : set_right (state_in l) set ≡ true
  pub low : 1 ≤ slot
  pub high : slot ≤ 8
  pub free : open_and_empty (slot_at (state_in l) (pred slot)) ≡ true
