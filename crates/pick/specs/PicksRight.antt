-- What the pick rule comes to, said of all groups at once.
use Rattle.std.specs.Prelude.{true, false, List, None, Some, ◌≡◌, ℕ, ◌<◌, ◌≤◌}
use Rattle.pick.specs.Groups.{erases_place, usable, erases, negative, last_count}
use Rattle.pick.specs.Pick.{negative_at, picked}

-- no group of the n is usable with a count below 2^31 − 1
abbrev pub NoneLeft : List ℕ → ℕ → Type 0
NoneLeft words n = (g : ℕ) → g < n → usable words g ≡ true → erases words g < last_count → ⊥

-- group g is one of the n, usable and below 2^31 − 1; no such group has fewer erases, and none of a lower number has as few
pub record LeastWorn (words : List ℕ) (n g : ℕ) : Type 0 where
  pub inside : g < n
  pub is_usable : usable words g ≡ true
  pub below : erases words g < last_count
  pub fewest : (h : ℕ) → h < n → usable words h ≡ true → erases words h < last_count → erases words g ≤ erases words h
  pub lowest : (h : ℕ) → h < g → usable words h ≡ true → erases words h < last_count → erases words g < erases words h

-- group g is the first of the n whose count is negative, usable or not
pub record FirstNegative (words : List ℕ) (n g : ℕ) : Type 0 where
  pub inside : g < n
  pub is_negative : negative (erases words g) ≡ true
  pub earlier : (h : ℕ) → h < g → negative (erases words h) ≡ false

pub record PicksRight : Type 0 where
  -- a group is picked exactly if it is the least worn, and none exactly if none is left
  pub pick : (words : List ℕ) (n g : ℕ) → picked words n ≡ Some g → LeastWorn words n g
  pub picks : (words : List ℕ) (n g : ℕ) → LeastWorn words n g → picked words n ≡ Some g
  pub none_left : (words : List ℕ) (n : ℕ) → picked words n ≡ None → NoneLeft words n
  pub no_pick : (words : List ℕ) (n : ℕ) → NoneLeft words n → picked words n ≡ None
  -- no count is negative exactly if none is found, and the place that is found is that of the first
  pub sound : (words : List ℕ) (n : ℕ) → negative_at words n ≡ None → (g : ℕ) → g < n → negative (erases words g) ≡ false
  pub all_sound : (words : List ℕ) (n : ℕ) → ((g : ℕ) → g < n → negative (erases words g) ≡ false) → negative_at words n ≡ None
  pub first : (words : List ℕ) (n p : ℕ) → negative_at words n ≡ Some p → (g : ℕ) × FirstNegative words n g × (p ≡ erases_place g)
