-- The searches over n groups see the first 2 × n words alone.
use mathlib.Core.List.{List}
use Rattle.std.specs.Prelude.{Option, None, Some}
use mathlib.Core.Path.{◌≡◌, refl}
use Prim.Native.Nat.{ℕ, zero, suc, ◌+◌, ◌*◌, ◌<◌}
use native.Mathlib.Omega.{arith}
use lib.ListN.{get_or}
use Rattle.pick.specs.Groups.{erases}
use Rattle.pick.specs.Pick.{negative_at, pickable, better, picked}
use Rattle.pick.proofs.PicksRight.{picks-right}

module _ (words others : List ℕ) where
  abbrev pub Alike : ℕ → Type 0
  Alike n = (k : ℕ) → k < 2 * n → get_or words k 0 ≡ get_or others k 0

  pub erases-alike : (n g : ℕ) → Alike n → g < n → erases words g ≡ erases others g
  erases-alike n g alike h = alike (2 * g + 1) (omega arith)

  fewer : (n : ℕ) → Alike (suc n) → Alike n
  fewer n alike k h = alike k (omega arith)

  pub negative-alike : (n : ℕ) → Alike n → negative_at words n ≡ negative_at others n
  unfolding negative_at
  negative-alike zero alike = refl
  negative-alike (suc n) alike = rw (negative-alike n (fewer n alike), erases-alike (suc n) n alike (omega arith))

  pickable-alike : (n g : ℕ) → Alike n → g < n → pickable words g ≡ pickable others g
  unfolding pickable
  pickable-alike n g alike h = rw (alike (2 * g) (omega arith), alike (2 * g + 1) (omega arith))

  better-alike : (n : ℕ) → Alike (suc n) → (o : Option ℕ) → ((best : ℕ) → o ≡ Some best → best < n) → better words n o ≡ better others n o
  better-alike n alike None inside = rw (pickable-alike (suc n) n alike (omega arith))
  better-alike n alike (Some best) inside =
      let low = inside best refl in
      rw (
        pickable-alike (suc n) n alike (omega arith),
        erases-alike (suc n) n alike (omega arith),
        erases-alike (suc n) best alike (omega arith),
      )

  pub picked-alike : (n : ℕ) → Alike n → picked words n ≡ picked others n
  unfolding picked
  picked-alike zero alike = refl
  picked-alike (suc n) alike =
      rw (picked-alike n (fewer n alike))
      (better-alike n alike (picked others n) (λ best e. (picks-right.pick others n best e).inside))
