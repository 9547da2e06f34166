-- Each public function's contract leaves one answer.
use mathlib.Core.Bool.{Bool}
use mathlib.Core.Path.{◌≡◌}
use Prim.Native.Nat.{ℕ}
use lib.ListN.{get_or}
use Rattle.std.specs.Prelude.{Option}
use Rattle.wire.proofs.Unique.{unique}
use Rattle.tally.specs.declared.Numbers.{Numbers}
use Rattle.tally.specs.declared.Effect.{Effect}
use Rattle.tally.specs.Numbering.{no_numbers, numbers_after}
use Rattle.tally.specs.Showing.{shown_by}

pub none-unique : (r₁ r₂ : Numbers) → r₁ ≡ no_numbers → r₂ ≡ no_numbers → r₁ ≡ r₂
none-unique r₁ r₂ = unique

pub of-unique : (v : Numbers) (slot r₁ r₂ : ℕ) → r₁ ≡ get_or v.last slot 0 → r₂ ≡ get_or v.last slot 0 → r₁ ≡ r₂
of-unique v slot r₁ r₂ = unique

pub after-unique : (v : Numbers) (step slot code : ℕ) (r₁ r₂ : Numbers) → r₁ ≡ numbers_after v step slot code → r₂ ≡ numbers_after v step slot code → r₁ ≡ r₂
after-unique v step slot code r₁ r₂ = unique

pub shown-by-unique : (step code : ℕ) (logged : Bool) (r₁ r₂ : Option Effect) → r₁ ≡ shown_by step code logged → r₂ ≡ shown_by step code logged → r₁ ≡ r₂
shown-by-unique step code logged r₁ r₂ = unique
