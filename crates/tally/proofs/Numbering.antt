-- The numbers after a step: the ways out of `after`.
use mathlib.Core.Bool.{Bool, false, not}
use mathlib.Core.Path.{◌≡◌}
use Prim.Native.Nat.{ℕ, ◌+◌, ◌-◌, ◌^◌, ◌<◌}
use borrow.Author.Tests.{eq-eqb, ne_eqb, lt-ltb}
use lib.Dec.{eqb, ltb}
use lib.ListN.{set}
use Rattle.slot.specs.Logic.{◌and◌}
use Rattle.slot.proofs.Logic.{and-false}
use Rattle.tally.specs.declared.Numbers.{Numbers}
use Rattle.tally.specs.Numbering.{places, numbers_after}

module _ (v : Numbers) (step slot code : ℕ) where
  -- the four tests
  counts : Bool
  counts = eqb step 1 and eqb code 0 and ltb slot places and not (eqb v.begun (2 ^ 64 - 1))

  same : counts ≡ false → v ≡ numbers_after v step slot code
  unfolding numbers_after counts
  same h = rw h

  -- one test that fails is enough
  pub no-begin : (step ≡ 1 → ⊥) → v ≡ numbers_after v step slot code
  unfolding counts ◌and◌
  no-begin n = same (rw (ne_eqb step 1 n))

  pub refused-begin : (code ≡ 0 → ⊥) → v ≡ numbers_after v step slot code
  unfolding counts ◌and◌
  refused-begin n = same (simp (ne_eqb code 0 n, and-false))

  pub one_more : step ≡ 1 → code ≡ 0 → slot < 9 → (v.begun ≡ 18446744073709551615 → ⊥)
      → record { begun = v.begun + 1; last = set v.last slot (v.begun + 1) } ≡ numbers_after v step slot code
  unfolding numbers_after ◌and◌
  one_more p q r n = rw (eq-eqb step 1 p, eq-eqb code 0 q, lt-ltb slot 9 r, ne_eqb v.begun 18446744073709551615 n)
