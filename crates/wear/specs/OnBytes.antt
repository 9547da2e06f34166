-- The wear operation on the bytes of an area: total for any bytes.
use Rattle.std.specs.Prelude.{cond, List, ℕ}
use Rattle.rules.specs.Model.{Model}
use Rattle.rules.specs.Layout.{pack, state_of}
use Rattle.rules.specs.AreaRight.{well_formed}
use Rattle.level.specs.Level.{Levelled, refusing, levelled_number}
use Rattle.wear.specs.Wear.{wear}

-- an answer, and the area after it
pub record LevelledArea : Type 0 where
  pub number : ℕ
  pub bytes : List ℕ

abbrev pub packed : Model → Levelled → LevelledArea
packed M w = record { number = levelled_number w; bytes = pack M w.state }

-- code 1: the area is not well formed
unfoldable pub wear_on_bytes : Model → List ℕ → List ℕ → ℕ → LevelledArea
wear_on_bytes M a set slot =
    cond (well_formed M a) (packed M (wear M (state_of M a) set slot))
    (record { number = levelled_number (refusing 0 1 (state_of M a)); bytes = a })
