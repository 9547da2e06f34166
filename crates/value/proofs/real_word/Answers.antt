-- Only a NaN differs from itself, and `to_bits` writes 7fc00000 for it.
use mathlib.Core.Bool.{Bool, true, false, beq}
use mathlib.Core.Path.{◌≡◌, refl}
use Prim.Native.Nat.{ℕ, ◌*◌}
use native.Mathlib.Omega.{arith}
use borrow.Author.Tests.{eq-eqb}
use lib.Ieee.{Float, nan, inf, fin, binary32, to_bits, is_nan, ne, eq, up, down}
use Rattle.value.proofs.real_word.Goals as goal

itself : (b : Bool) → beq b b ≡ true
itself true = refl
itself false = refl

nan_differs : (x : Float) → ne x x ≡ is_nan x
unfolding ne eq is_nan
nan_differs nan = refl
nan_differs (inf s) = rw (itself s)
nan_differs (fin s m e) = rw (eq-eqb (m * up e * down e) (m * up e * down e) refl, itself s)

nan-word : (x : Float) → is_nan x ≡ true → 2143289344 ≡ to_bits binary32 x
unfolding to_bits is_nan
nan-word nan t = refl
nan-word (inf s) t = absurd (let q : ◌≡◌ {A = ℕ} 0 1 = cc in omega arith)
nan-word (fin s m e) t = absurd (let q : ◌≡◌ {A = ℕ} 0 1 = cc in omega arith)

pub returns-then-number : goal.returns-then-number
returns-then-number c = nan-word _ (rw nan_differs at c.if-number.true)

pub float_to_bits-result : goal.float_to_bits-result
float_to_bits-result c = rw (rw nan_differs at c.if-number.false) tt
