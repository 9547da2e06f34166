-- Each public function's contract leaves one answer: it says that the answer is one value.
use mathlib.Core.Bool.{Bool}
use mathlib.Core.List.{List}
use mathlib.Core.Path.{◌≡◌}
use Prim.Native.Nat.{ℕ}
use Rattle.wire.proofs.Unique.{unique}
use Rattle.rules.specs.State.{slot_at}
use Rattle.area.specs.Good.{state_in}
use Rattle.wearset.specs.WearSet.{set_right}
use Rattle.wearset.specs.OpenEmpty.{open_and_empty}

module _ (l : List ℕ) where
  pub set-right-unique : (set : List ℕ) (r₁ r₂ : Bool) → r₁ ≡ set_right (state_in l) set → r₂ ≡ set_right (state_in l) set → r₁ ≡ r₂
  set-right-unique set r₁ r₂ = unique

  pub open-and-empty-unique : (i : ℕ) (r₁ r₂ : Bool) → r₁ ≡ open_and_empty (slot_at (state_in l) i) → r₂ ≡ open_and_empty (slot_at (state_in l) i) → r₁ ≡ r₂
  open-and-empty-unique i r₁ r₂ = unique
