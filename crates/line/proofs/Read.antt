-- Every number of 64 bits is written in full: reading its digits gives the number back.
use mathlib.Core.Bool.{Bool, true, false, cond, false≢true}
use mathlib.Core.List.{List, [], ◌∷◌, ◌++◌}
use mathlib.Core.Path.{◌≡◌, refl, sym, ◌∙◌}
use Prim.Native.Nat.{ℕ, zero, suc, ◌+◌, ◌*◌, ◌/◌, ◌%◌, ◌^◌, ◌≤◌, ◌<◌}
use native.Mathlib.Nat.{pow-zero, pow-suc, mod-lt, div-add-mod', div-lt_iff_lt-mul, lt_of_lt_of_le}
use native.Mathlib.Omega.{arith}
use borrow.Author.Count.{below_more}
use borrow.Author.Tests.{eqb-true}
use lib.Dec.{eqb, lit<, lit≤}
use Rattle.line.specs.declared.Style.{Style}
use Rattle.line.specs.declared.Style.TheVariants.{Decimal, Hex}
use Rattle.line.specs.Number.{digit, digits, base_of, numeral}
use Rattle.line.specs.Read.{digit_value, read_from}

-- a test of every number below n, and what it shows of each
unfoldable tested : ℕ → Bool
unfolding digit
tested zero = true
tested (suc n) = cond (eqb (digit_value (digit n)) n) (tested n) false

-- one digit more
read_next : (base high : ℕ) (text : List ℕ) (byte : ℕ) → read_from base high (text ++ (byte ∷ [])) ≡ read_from base high text * base + digit_value byte
unfolding read_from
read_next base high [] byte = refl
read_next base high (x ∷ text) byte = read_next base (high * base + digit_value x) text byte

module _ where
  shown : (n : ℕ) (b : Bool) (P : Type 0) → cond b (tested n) false ≡ true → (b ≡ true → tested n ≡ true → P) → P
  shown n true P e f = f refl e
  shown n false P e f = absurd (false≢true e)

  digit-back : (n : ℕ) → tested n ≡ true → (d : ℕ) → d < n → digit_value (digit d) ≡ d
  unfolding tested
  digit-back zero e d h = absurd (omega arith)
  digit-back (suc n) e d h =
      shown n (eqb (digit_value (digit n)) n) (digit_value (digit d) ≡ d) e
      (λ here below. below_more (λ k. digit_value (digit k) ≡ k) n (digit-back n below) (eqb-true (digit_value (digit n)) n here) d (omega arith))

module _ (base : ℕ) (pos : 0 < base) (small : base ≤ 16) where
  -- the last digit after those of the rest
  last : (n : ℕ) (text : List ℕ) → read_from base 0 text ≡ n / base → read_from base 0 (text ++ (digit (n % base) ∷ [])) ≡ n
  unfolding tested digit
  last n text e =
      let byte : digit_value (digit (n % base)) ≡ n % base = digit-back 16 refl (n % base) (lt_of_lt_of_le (mod-lt n pos) small) in
      read_next base 0 text (digit (n % base)) ∙ rw (e, byte) (div-add-mod' n base)

  either : (b : Bool) (n : ℕ) (text : List ℕ) → eqb n 0 ≡ b → read_from base 0 text ≡ n → read_from base 0 (cond b [] text) ≡ n
  unfolding read_from
  either true n text e h = sym (eqb-true n 0 e)
  either false n text e h = h

  read-digits : (least most n : ℕ) → n < base ^ most → read_from base 0 (digits base least most n) ≡ n
  unfolding digits read_from
  read-digits least zero n h = let one : n < 1 = rw pow-zero at h in omega arith
  read-digits zero (suc most) n h =
      either (eqb n 0) n (digits base zero most (n / base) ++ (digit (n % base) ∷ [])) refl
      (last n (digits base zero most (n / base)) (read-digits zero most (n / base) ((div-lt_iff_lt-mul pos).1 (rw pow-suc at h))))
  read-digits (suc least) (suc most) n h =
      last n (digits base least most (n / base)) (read-digits least most (n / base) ((div-lt_iff_lt-mul pos).1 (rw pow-suc at h)))

pub numeral-back : (style : Style) (n : ℕ) → n < 2 ^ 64 → read_from (base_of style) 0 (numeral style n) ≡ n
numeral-back Decimal n h = read-digits 10 (lit< tt) (omega arith) 1 20 n (lt_of_lt_of_le h (lit≤ tt))
numeral-back Hex n h = read-digits 16 (lit< tt) (omega arith) 8 20 n (lt_of_lt_of_le h (lit≤ tt))
