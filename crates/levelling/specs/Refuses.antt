-- "With all cells read and no count negative, usable or not, it refuses exactly if no usable group below that count exists."
use Rattle.std.specs.Prelude.{true, false, List, ◌≡◌, ℕ, ◌<◌, length}
use Rattle.rules.specs.Model.{Model}
use Rattle.rules.specs.State.{State}
use Rattle.pick.specs.Groups.{erases_place, erases, negative}
use Rattle.pick.specs.PicksRight.{NoneLeft, LeastWorn, FirstNegative}
use Rattle.wearset.specs.WearSet.{group_count}
use Rattle.level.specs.Level.{going, read_first}
use Rattle.wear.specs.Wear.{wear}
use Rattle.levelling.specs.AsCalls.{admitted}

-- all cells of the set are read, with these words and this state after them ..
pub record AllRead (M : Model) (S : State) (set : List ℕ) (slot : ℕ) (words : List ℕ) (T : State) : Type 0 where
  pub begun : admitted M S set slot ≡ true
  pub words_are : read_first M S slot set (length set) ≡ going words T

-- .. and no count is negative
pub record SoundRead (M : Model) (S : State) (set : List ℕ) (slot : ℕ) (words : List ℕ) (T : State) : Type 0 where
  pub all_read : AllRead M S set slot words T
  pub sound : (g : ℕ) → g < group_count set → negative (erases words g) ≡ false

pub record RefusesExactly (M : Model) : Type 0 where
  -- 34 exactly if no usable group is below 2^31 − 1 ..
  pub refuses : (S : State) (set : List ℕ) (slot : ℕ) (words : List ℕ) (T : State) → SoundRead M S set slot words T
      → NoneLeft words (group_count set) → (wear M S set slot).code ≡ 34
  pub exactly : (S : State) (set : List ℕ) (slot : ℕ) (words : List ℕ) (T : State) → SoundRead M S set slot words T
      → (wear M S set slot).code ≡ 34 → NoneLeft words (group_count set)
  -- .. else it picks a usable group with the fewest erases, the lowest on a tie.
  pub picks : (S : State) (set : List ℕ) (slot : ℕ) (words : List ℕ) (T : State) → SoundRead M S set slot words T
      → ((wear M S set slot).code ≡ 34 → ⊥) → ((wear M S set slot).code ≡ 0) × LeastWorn words (group_count set) (wear M S set slot).word

pub record NegativeExactly (M : Model) : Type 0 where
  -- 33 exactly if a count is negative ..
  pub refuses : (S : State) (set : List ℕ) (slot : ℕ) (words : List ℕ) (T : State) → AllRead M S set slot words T
      → (g : ℕ) → g < group_count set → negative (erases words g) ≡ true → (wear M S set slot).code ≡ 33
  -- .. and the place is that of the first such count's cell in the set: 2 × group + 1.
  pub exactly : (S : State) (set : List ℕ) (slot : ℕ) (words : List ℕ) (T : State) → AllRead M S set slot words T
      → (wear M S set slot).code ≡ 33 → (g : ℕ) × FirstNegative words (group_count set) g × ((wear M S set slot).place ≡ erases_place g)
