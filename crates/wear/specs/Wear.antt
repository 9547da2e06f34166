-- The wear operation on a state. "Refusals: area not well formed, then bad set description (g outside 1 to 8, a cell not below n, twice or of the wrong kind), then slot out of
-- range, then transaction not open and empty, then core codes in reading order, then negative count, then none left."
use Rattle.std.specs.Prelude.{not, cond, List, ℕ, pred, leb, length}
use Rattle.slot.specs.Logic.{◌and◌}
use Rattle.rules.specs.Model.{Model}
use Rattle.rules.specs.State.{State, slot_at}
use Rattle.wearset.specs.WearSet.{set_right}
use Rattle.wearset.specs.OpenEmpty.{open_and_empty}
use Rattle.level.specs.Level.{read_first, Levelled, refusing, levelling}

-- 32: bad set; 3: slot outside 1 to 8; 4: the slot's transaction is not open with empty logs
unfoldable pub wear : Model → State → List ℕ → ℕ → Levelled
wear M S set slot =
    cond (not (set_right S set)) (refusing 0 32 S)
    (cond (not (leb 1 slot and leb slot M.slots)) (refusing 0 3 S)
    (cond (not (open_and_empty (slot_at S (pred slot)))) (refusing 0 4 S)
    (levelling M slot set (read_first M S slot set (length set)))))
