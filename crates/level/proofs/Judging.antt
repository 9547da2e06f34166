-- What the words of all cells say: a law for each way out.
use mathlib.Core.List.{List}
use mathlib.Core.Path.{◌≡◌, refl, sym, ◌∙◌, ap}
use Prim.Native.Nat.{ℕ, suc, ◌+◌, ◌*◌, ◌/◌, ◌<◌}
use native.Mathlib.Numerals.{add-one}
use native.Mathlib.Omega.{arith}
use lib.ListN.{length, get_or}
use Rattle.std.specs.Prelude.{None, Some}
use Rattle.call.specs.Answer.{Reply}
use Rattle.call.specs.Decode.{Decoded, decoded}
use Rattle.rules.specs.Model.{controller}
use Rattle.rules.specs.Step.{step_of}
use Rattle.rules.specs.Layout.{pack}
use Rattle.area.specs.Good.{Good, state_in}
use Rattle.area.proofs.Good.{good-kept}
use Rattle.ways.specs.Did.{Did}
use Rattle.pick.specs.Groups.{erases, last_count}
use Rattle.pick.specs.Pick.{negative_at, picked}
use Rattle.pick.proofs.PicksRight.{picks-right}
use Rattle.wearset.specs.WearSet.{group_count}
use Rattle.level.specs.Level.{write_of, writing, judged, levelled_number}
use Rattle.level.specs.Answer.{at_place}
use Rattle.level.specs.Reached.{Comes}
use Rattle.level.proofs.CoreStep.{stepping}

-- the count plus one is written, and the group's number answered
pub write-comes : (l set words : List ℕ) (slot g : ℕ) (d : Decoded) (reply : Reply) (l' : List ℕ) → Good l
    → d ≡ decoded 3 (get_or set (2 * g + 1) 0) 2 (get_or words (2 * g + 1) 0 + 1) → Did (step_of controller (state_in l) slot d) l reply l'
    → Comes (writing controller (state_in l) slot set words (Some g)) (at_place 0 0 2 g) l'
unfolding levelled_number
write-comes l set words slot g d reply l' good e did =
    let call = write_of slot (get_or set (2 * g + 1) 0) (suc (erases words g)) in
    let made = stepping l good call {reply = reply} {l' = l'} (rw (e, add-one (get_or words (2 * g + 1) 0)) at did) in
    record { answer = omega arith; bytes = good-kept l' made.good ∙ ap (pack controller) made.state }

-- the words are those of a set's cells, as many as it has
module _ (set words : List ℕ) (size : length words ≡ length set) where
  groups-are : length words / 2 ≡ group_count set
  groups-are = ap (λ (n : ℕ). n / 2) size

  -- the place of a negative count, and the group that is picked, are inside the set, and the count of that group can be raised
  pub place-inside : (place : ℕ) → Some place ≡ negative_at words (length words / 2) → place < length set
  place-inside place e =
      let first = picks-right.first words (length words / 2) place (sym e) in
      let inside = first.1.inside in
      let there = first.2 in
      omega arith

  module _ (g : ℕ) (e : Some g ≡ picked words (length words / 2)) where
    pub group-inside : 2 * g + 1 < length set
    group-inside = let inside = (picks-right.pick words (length words / 2) g (sym e)).inside in omega arith

    pub picked-below : erases words g < last_count
    picked-below = (picks-right.pick words (length words / 2) g (sym e)).below

  module _ (l : List ℕ) (slot : ℕ) where
    -- 33
    pub negative-comes : (place : ℕ) → Some place ≡ negative_at words (length words / 2) → Good l
        → Comes (judged controller (state_in l) slot set words) (at_place place 33 0 0) l
    unfolding levelled_number
    negative-comes place e good = rw (← groups-are, ← e) (record { answer = omega arith; bytes = good-kept l good })

    module _ (sound : None ≡ negative_at words (length words / 2)) where
      -- 34
      pub none-comes : None ≡ picked words (length words / 2) → Good l → Comes (judged controller (state_in l) slot set words) (at_place 0 34 0 0) l
      unfolding levelled_number
      none-comes e good = rw (← groups-are, ← sound, ← groups-are, ← e) (record { answer = refl; bytes = good-kept l good })

      -- picked
      pub picked-comes : (g r : ℕ) (l' : List ℕ) → Some g ≡ picked words (length words / 2) → Comes (writing controller (state_in l) slot set words (Some g)) r l'
          → Comes (judged controller (state_in l) slot set words) r l'
      picked-comes g r l' e comes = rw (← groups-are, ← sound, ← groups-are, ← e) comes
