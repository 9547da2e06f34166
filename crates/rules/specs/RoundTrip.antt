-- What is claimed of packing, unpacking and the lay-out. `Bytes a` says that each number of a list is below 256, as in any slice.
use Rattle.std.specs.Prelude.{true, List, ◌≡◌, ℕ}
use Rattle.std.proofs.Math.Option.{some}
use Rattle.wire.specs.Field.{Bytes}
use Rattle.rules.specs.Model.{Model}
use Rattle.rules.specs.State.{State}
use Rattle.rules.specs.StateRight.{state_right}
use Rattle.rules.specs.Layout.{pack}
use Rattle.rules.specs.Area.{unpack, at_rest, lay_out, fresh, described_cells}

-- Packing a well-formed state and unpacking it lose nothing either way.
pub record RoundTrip (M : Model) : Type 0 where
  pub unpack_pack : (S : State) → state_right M S ≡ true → unpack M (pack M S) ≡ some S
  pub pack_unpack : (a : List ℕ) (S : State) → Bytes a → unpack M a ≡ some S → pack M S ≡ a
  pub unpack_right : (a : List ℕ) (S : State) → Bytes a → unpack M a ≡ some S → state_right M S ≡ true
  pub pack_bytes : (S : State) → state_right M S ≡ true → Bytes (pack M S)

-- A laid-out area is at rest, and is what `pack` gives of a fresh state.
pub record LaysOut (M : Model) : Type 0 where
  pub packed : (a ds : List ℕ) → (lay_out M a ds).code ≡ 0 → (lay_out M a ds).bytes ≡ pack M (fresh M (described_cells ds))
  pub rests : (a ds : List ℕ) → (lay_out M a ds).code ≡ 0 → at_rest M (lay_out M a ds).bytes ≡ true
