-- What the functions that read and store in place ask of an area: that it is well formed, with the lengths that follow.
use Rattle.std.specs.Prelude.{true, List, ◌≡◌, ℕ, ◌+◌, ◌*◌, ◌≤◌, length}
use Rattle.wire.specs.Field.{Bytes}
use Rattle.rules.specs.Model.{controller}
use Rattle.rules.specs.State.{State}
use Rattle.rules.specs.Layout.{count_in, state_of}
use Rattle.rules.specs.AreaRight.{well_formed}

pub record Good (l : List ℕ) : Type 0 where
  pub right : well_formed controller l ≡ true
  pub bytes : Bytes l
  pub few : 1 ≤ count_in l
  pub many : count_in l ≤ 64
  pub long : length l ≡ 1590 + 14 * count_in l

-- the state that an area's bytes stand for
abbrev pub state_in : List ℕ → State
state_in l = state_of controller l
