-- The effects of a history: "`at`, `r`, `rl`, `co`, `ab`, followed by slot and transaction number, then the cell for `r`, or the stamp and the written cells in ascending order
-- for `co`".
use Rattle.std.specs.Prelude.{Bool, cond, List, [], ◌∷◌, ◌++◌, map, ℕ, suc, eqb}
use Rattle.call.specs.Answer.{reply_code}
use Rattle.slot.specs.Logic.{◌and◌, ◌or◌}
use Rattle.slot.specs.declared.WriteEntry.{WriteEntry}
use Rattle.rules.specs.State.{writes_of, commit_of}
use Rattle.history.specs.History.{Event, own_slot, accepts, from_shared}

-- at, r, rl, co, ab
pub data Effect : Type 0 where
  begun : (slot number : ℕ) → Effect
  read_shared : (slot number cell : ℕ) → Effect
  reloaded : (slot number : ℕ) → Effect
  committed : (slot number stamp : ℕ) (cells : List ℕ) → Effect
  aborted : (slot number : ℕ) → Effect

-- "Transaction numbers count accepted begins from 1." `past` is what has happened, the latest first.
unfoldable pub begins : List Event → ℕ
begins [] = 0
begins (e ∷ past) = cond (accepts 1 e) (suc (begins past)) (begins past)

-- the number of a slot's transaction: it was given at the slot's last accepted begin
unfoldable pub number_of : List Event → ℕ → ℕ
number_of [] slot = 0
number_of (e ∷ past) slot = cond (accepts 1 e and eqb e.call.slot slot) (begins (e ∷ past)) (number_of past slot)

-- the cells of a write log, which ascends
abbrev pub written_cells : List WriteEntry → List ℕ
written_cells writes = map (λ (e : WriteEntry). e.cell) writes

-- "`ab` give up or outcome 13"
abbrev pub aborts : Event → Bool
aborts e = accepts 14 e or eqb (reply_code e.reply) 13

-- The effect of one call, for the number of its slot's transaction: "A read answered from a log has no line. `rl` is an accepted reload, `co` the committing finish, `ab` give up or
-- outcome 13. Other accepted steps and all refused ones are silent."
unfoldable pub effect_of : ℕ → Event → List Effect
effect_of number e =
    let slot = e.call.slot in
    cond (accepts 1 e) (begun slot number ∷ [])
    (cond (from_shared e) (read_shared slot number e.call.cell ∷ [])
    (cond (accepts 10 e) (reloaded slot number ∷ [])
    (cond (accepts 12 e) (committed slot number (commit_of (own_slot e)) (written_cells (writes_of (own_slot e))) ∷ [])
    (cond (aborts e) (aborted slot number ∷ [])
    []))))

-- .. of the calls that come after `past`
unfoldable pub effects_after : List Event → List Event → List Effect
effects_after past [] = []
effects_after past (e ∷ events) = effect_of (number_of (e ∷ past) e.call.slot) e ++ effects_after (e ∷ past) events

abbrev pub effects : List Event → List Effect
effects events = effects_after [] events
