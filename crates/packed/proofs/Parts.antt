-- Parts put one after the other are one part.
use mathlib.Core.Path.{◌≡◌}
use mathlib.Core.List.{List, ◌++◌}
use Prim.Native.Nat.{ℕ, ◌+◌, ◌≤◌}
use native.Mathlib.Omega.{arith}
use lib.ListN.{length, length-append}
use Rattle.wire.specs.Part.{splice}
use Rattle.wire.proofs.Laws.Part.{splice-next}

pub three : (a : List ℕ) (at : ℕ) (p q r : List ℕ) (k₂ k₃ : ℕ) (x₁ x₂ x₃ : List ℕ) → at ≤ length a
    → k₂ ≡ at + length p → k₃ ≡ k₂ + length q
    → x₁ ≡ splice a at p → x₂ ≡ splice x₁ k₂ q → x₃ ≡ splice x₂ k₃ r
    → x₃ ≡ splice a at (p ++ q ++ r)
three a at p q r k₂ k₃ x₁ x₂ x₃ h at₂ at₃ e₁ e₂ e₃ =
    let two = splice-next a at p q x₁ x₂ k₂ h at₂ e₁ e₂ in
    splice-next a at (p ++ q) r x₂ x₃ k₃ h (rw length-append (omega arith)) two e₃
