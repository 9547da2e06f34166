-- Packing a well-formed state and unpacking it lose nothing either way, for every model whose numbers fit their bytes.
use mathlib.Core.Bool.{Bool, true, false, cond}
use mathlib.Core.List.{List}
use mathlib.Core.Option.{none, some}
use mathlib.Core.Path.{◌≡◌, refl, sym, ◌∙◌, ap}
use Prim.Native.Nat.{ℕ}
use native.Mathlib.Omega.{arith}
use Rattle.wire.specs.Field.{Bytes}
use Rattle.rules.specs.Model.{Model, FitsBytes}
use Rattle.rules.specs.State.{State}
use Rattle.rules.specs.StateRight.{state_right_but_holders, state_holders_right, state_right}
use Rattle.rules.specs.Layout.{pack, state_of}
use Rattle.rules.specs.AreaRight.{well_formed_but_holders, well_formed}
use Rattle.rules.specs.Area.{unpack}
use Rattle.rules.specs.RoundTrip.{RoundTrip}
use Rattle.slot.proofs.Logic.{and_left, and_right}
use Rattle.rules.proofs.Places.{Sized, state-packed}
use Rattle.rules.proofs.Agree.{packed-right}
use Rattle.rules.proofs.AreaKept.{area-kept, area-sized}
use Rattle.rules.proofs.StateSized.{state-sized}
use Rattle.rules.proofs.PackBytes.{pack-bytes}

-- what an area unpacks to is its state, and then it is well formed
unpacked : (b : Bool) (T S : State) → cond b (some T) none ≡ some S → (b ≡ true) × (T ≡ S)
unpacked true T S e = (refl, cc)
unpacked false T S e = let z : ◌≡◌ {A = ℕ} 0 1 = cc in absurd (omega arith)

module _ (M : Model) where
  pub right-but-holders : (a : List ℕ) → well_formed M a ≡ true → well_formed_but_holders M a ≡ true
  unfolding well_formed
  right-but-holders a p = and_left _ _ p

  -- the state of a well-formed area packs to it, and is well formed
  pub pack-state : (a : List ℕ) → Bytes a → well_formed M a ≡ true → pack M (state_of M a) ≡ a
  pack-state a bytes p = area-kept M a bytes (right-but-holders a p)

  pub state-right : (a : List ℕ) → Bytes a → well_formed M a ≡ true → state_right M (state_of M a) ≡ true
  state-right a bytes p =
      sym (packed-right M (state_of M a) (area-sized M a bytes (right-but-holders a p)))
      ∙ ap (well_formed M) (pack-state a bytes p)
      ∙ p

  pub state-but-holders : (S : State) → state_right M S ≡ true → state_right_but_holders M S ≡ true
  unfolding state_right
  state-but-holders S right = and_left _ _ right

  pub state-holders : (S : State) → state_right M S ≡ true → state_holders_right S ≡ true
  unfolding state_right
  state-holders S right = and_right _ _ right

  module _ (fits : FitsBytes M) (S : State) (right : state_right M S ≡ true) where
    pub sized : Sized M S
    sized = state-sized M fits S (state-but-holders S right)

    -- a well-formed state packs to a well-formed area, which has that state
    pub pack-right : well_formed M (pack M S) ≡ true
    pack-right = packed-right M S sized ∙ right

    pub state-back : state_of M (pack M S) ≡ S
    state-back = state-packed M S sized

pub round_trip : (M : Model) → FitsBytes M → RoundTrip M
unfolding unpack
round_trip M fits =
    record {
      unpack_pack = λ S right. rw (pack-right M fits S right, state-back M fits S right);
      pack_unpack = λ a S bytes e.
          let both = unpacked (well_formed M a) (state_of M a) S e in
          rw (← both.1) (pack-state M a bytes both.0);
      unpack_right = λ a S bytes e.
          let both = unpacked (well_formed M a) (state_of M a) S e in
          rw (← both.1) (state-right M a bytes both.0);
      pack_bytes = λ S right. pack-bytes M fits S (state-but-holders M S right) (state-holders M S right);
    }
