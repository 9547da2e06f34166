-- The test is the library's own for a NaN's pattern, and 0 / 0 is its NaN.
use mathlib.Core.Bool.{true}
use mathlib.Core.Path.{◌≡◌, refl, sym, ◌∙◌}
use borrow.Author.Tests.{lt-ltb, le-ltb}
use lib.Ieee.{Float, nan, inf, fin, binary32, of_bits, of_fields, odd, div, is_nan}
use lib.Ieee.Bits.{nan_bits_is, nan_bits_above}
use Rattle.value.proofs.real.Goals as goal

nan-of : (x : Float) → is_nan x ≡ true → nan ≡ x
unfolding is_nan
nan-of nan e = refl
nan-of (inf s) e = cc
nan-of (fin s m x) e = cc

zero_by_zero : div binary32 (of_bits binary32 0) (of_bits binary32 0) ≡ nan
unfolding div of_bits of_fields odd
zero_by_zero = refl

pub returns-then-word-gt2139095040 : goal.returns-then-word-gt2139095040
returns-then-word-gt2139095040 c = zero_by_zero ∙ nan-of _ (sym (nan_bits_is binary32 _) ∙ nan_bits_above binary32 _ ∙ lt-ltb _ _ c.if-word-gt2139095040.true)

pub float_from_bits-result : goal.float_from_bits-result
float_from_bits-result c = rw (nan_bits_above, le-ltb _ _ c.if-word-gt2139095040.false) tt
