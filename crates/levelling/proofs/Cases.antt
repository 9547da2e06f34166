-- The ways out of the operation: refused before the first read, with the state as it was, or begun.
use mathlib.Core.Bool.{Bool, true, false, not, cond, false≢true}
use mathlib.Core.List.{List}
use mathlib.Core.Path.{◌≡◌, refl}
use Prim.Native.Nat.{ℕ, pred}
use lib.Dec.{leb}
use lib.ListN.{length}
use Rattle.slot.specs.Logic.{◌and◌}
use Rattle.rules.specs.Model.{Model}
use Rattle.rules.specs.State.{State, slot_at}
use Rattle.wearset.specs.WearSet.{set_right}
use Rattle.wearset.specs.OpenEmpty.{open_and_empty}
use Rattle.level.specs.Level.{Levelled, refusing, levelling, read_first}
use Rattle.wear.specs.Wear.{wear}
use Rattle.levelling.specs.AsCalls.{admitted}

module _ (M : Model) (S : State) (set : List ℕ) (slot : ℕ) where
  -- what the operation comes to once it has begun
  abbrev pub begun : Levelled
  begun = levelling M slot set (read_first M S slot set (length set))

  -- what holds of each way out holds of the operation, and of whether it was admitted
  pub wear-case : (P : Levelled → Bool → Type 0) → P (refusing 0 32 S) false → P (refusing 0 3 S) false → P (refusing 0 4 S) false → P begun true
      → P (wear M S set slot) (admitted M S set slot)
  unfolding wear admitted ◌and◌
  wear-case P p q r f = by (set_right S set) (leb 1 slot and leb slot M.slots) (open_and_empty (slot_at S (pred slot)))
    where
      by : (a b c : Bool) → P (cond (not a) (refusing 0 32 S) (cond (not b) (refusing 0 3 S) (cond (not c) (refusing 0 4 S) begun))) (a and b and c)
      by true true true = f
      by true true false = r
      by true false c = q
      by false b c = p

  -- admitted, it is what the reads lead to
  pub begins : admitted M S set slot ≡ true → wear M S set slot ≡ begun
  begins =
      wear-case (λ w b. b ≡ true → w ≡ begun) (λ e. absurd (false≢true e)) (λ e. absurd (false≢true e)) (λ e. absurd (false≢true e)) (λ e. refl)
