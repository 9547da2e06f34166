-- The frame of an area: what its header says of it, on which every reader past the header relies.
use Rattle.std.specs.Prelude.{List, ◌≡◌, ℕ, ◌+◌, ◌*◌, ◌≤◌, length}
use Rattle.rules.specs.Layout.{count_in}

-- an area of n cells: what a right header shows
pub record Framed (n : ℕ) (a : List ℕ) : Type 0 where
  pub count : count_in a ≡ n
  pub size : length a ≡ 1590 + 14 * n
  pub many : n ≤ 64
