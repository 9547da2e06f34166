-- Kind and word to value and back, and value to kind and word and back. A legal word is of one of three kinds, and at each of them the library's laws of
-- two's complement and of bit patterns carry both ways; a pattern is finite exactly where its exponent's field is not all ones.
use mathlib.Core.Bool.{Bool, true, false, not, cond}
use mathlib.Core.Path.{◌≡◌, refl, sym, ap, ◌∙◌, subst}
use Prim.Native.Nat.{ℕ, zero, suc, ◌+◌, ◌/◌, ◌%◌, ◌^◌, ◌<◌, ◌≤◌}
use native.Mathlib.Omega.{arith}
use borrow.Author.Tests.{eqb-true, ltb-true, lt-ltb, not-true}
use lib.Dec.{T, eqb, leb, ltb}
use lib.Ieee.{Float, nan, inf, fin, binary32, fits, is_nan, odd, of_fields, of_bits, to_bits}
use lib.Ieee.Bits.{is_true, to_bits-of_bits, of_bits-to_bits, to_bits-lt, of_bits-fits}
use mir.Syntax.{w32}
use mir.Val.{of_z}
use mir.ValLaws.{to_z-of_z, of_z-to_z, to_z-Fits, of_z_fits}
use Rattle.value.specs.declared.CellValue.{CellValue}
use Rattle.value.specs.declared.CellValue.TheVariants.{Truth, Whole, Real}
use Rattle.value.specs.Legal.{legal_word, endless}
use Rattle.value.specs.Value.{kind_of, word_of, value_of, finite, Holdable}

-- ---- a legal word is of one of three kinds

module _ (P : ℕ → ℕ → Type 0)
    (one : (word : ℕ) → word < 2 → P 1 word)
    (two : (word : ℕ) → word < 2 ^ 32 → P 2 word)
    (three : (word : ℕ) → word < 2 ^ 32 → endless word ≡ false → P 3 word)
    (kind word : ℕ) where
  by-pattern : (t : Bool) → ltb word (2 ^ 32) ≡ t → cond (ltb word (2 ^ 32)) (not (endless word)) false ≡ true → P 3 word
  by-pattern true e h = three word (ltb-true word (2 ^ 32) e) (not-true (endless word) (rw e at h))
  by-pattern false e h = absurd (let q : ◌≡◌ {A = ℕ} 0 1 = cc (rw e at h) in omega arith)

  at : {k : ℕ} → kind ≡ k → P k word → P kind word
  at e p = subst (λ (k : ℕ). P k word) (sym e) p

  by_kind : (a b c : Bool) → eqb kind 1 ≡ a → eqb kind 2 ≡ b → eqb kind 3 ≡ c → legal_word kind word ≡ true → P kind word
  unfolding legal_word
  by_kind true b c ea eb ec h = at (eqb-true kind 1 ea) (one word (ltb-true word 2 (rw ea at h)))
  by_kind false true c ea eb ec h = at (eqb-true kind 2 eb) (two word (ltb-true word (2 ^ 32) (rw (ea, eb) at h)))
  by_kind false false true ea eb ec h = at (eqb-true kind 3 ec) (by-pattern (ltb word (2 ^ 32)) refl (rw (ea, eb, ec) at h))
  by_kind false false false ea eb ec h = absurd (let q : ◌≡◌ {A = ℕ} 0 1 = cc (rw (ea, eb, ec) at h) in omega arith)

  by-legal : legal_word kind word ≡ true → P kind word
  by-legal h = by_kind (eqb kind 1) (eqb kind 2) (eqb kind 3) refl refl refl h

-- A legal kind is 1, 2 or 3.
pub legal-kind : (kind word : ℕ) → legal_word kind word ≡ true → (1 ≤ kind) × (kind ≤ 3)
legal-kind = by-legal (λ kind word. (1 ≤ kind) × (kind ≤ 3)) (λ w h. (omega arith, omega arith)) (λ w h. (omega arith, omega arith)) (λ w h e. (omega arith, omega arith))

-- A legal word has 32 bits.
pub legal-bound : (kind word : ℕ) → legal_word kind word ≡ true → word < 2 ^ 32
legal-bound = by-legal (λ kind word. word < 2 ^ 32) (λ w h. omega arith) (λ w h. h) (λ w h e. h)

-- ---- a pattern is finite exactly where its exponent's field is not all ones

odd-finite : (d : ℕ) (s : Bool) (q k l : ℕ) → finite (odd d s q k l) ≡ true
unfolding odd
odd-finite d s zero k l = refl
odd-finite d s (suc q) k l = refl

by_field : (a b s : Bool) (x : Float) → finite x ≡ true → finite (cond a (cond b (inf s) nan) x) ≡ not a
by_field true true s x h = refl
by_field true false s x h = refl
by_field false b s x h = h

finite-fields : (s : Bool) (x t : ℕ) → finite (of_fields binary32 s x t) ≡ not (eqb x 255)
unfolding of_fields
finite-fields s zero t = odd-finite 24 s t 0 149
finite-fields s (suc x) t = by_field (eqb (suc x) 255) (eqb t 0) s (odd 24 s (2 ^ 23 + t) x 149) (odd-finite 24 s (2 ^ 23 + t) x 149)

pub finite-bits : (word : ℕ) → finite (of_bits binary32 word) ≡ not (endless word)
unfolding of_bits endless
finite-bits word =
    let e : word % 2147483648 / 8388608 ≡ word / 8388608 % 256 = omega arith in
    finite-fields (leb 2147483648 word) (word % 2147483648 / 8388608) (word % 8388608) ∙ ap (λ (x : ℕ). not (eqb x 255)) e

finite-here : (word : ℕ) → endless word ≡ false → finite (of_bits binary32 word) ≡ true
finite-here word e = finite-bits word ∙ ap not e

no_nan : (x : Float) → finite x ≡ true → T (not (is_nan x))
unfolding is_nan
no_nan nan h = let q : ◌≡◌ {A = ℕ} 0 1 = cc in absurd (omega arith)
no_nan (inf s) h = tt
no_nan (fin s m e) h = tt

holds : {b : Bool} → b ≡ true → T b
holds e = rw e tt

-- ---- words to value to words

-- The value of a legal kind and word has that kind.
pub kind-back : (kind word : ℕ) → legal_word kind word ≡ true → kind_of (value_of kind word) ≡ kind
unfolding value_of
kind-back = by-legal (λ kind word. kind_of (value_of kind word) ≡ kind) (λ w h. refl) (λ w h. refl) (λ w h e. refl)

truth-back : (word : ℕ) → word < 2 → cond (eqb word 1) 1 0 ≡ word
truth-back zero h = refl
truth-back (suc zero) h = refl
truth-back (suc (suc n)) h = absurd (omega arith)

-- The value of a legal kind and word has that word.
pub word_back : (kind word : ℕ) → legal_word kind word ≡ true → word_of (value_of kind word) ≡ word
unfolding value_of
word_back =
    by-legal (λ kind word. word_of (value_of kind word) ≡ word) truth-back (λ w h. of_z-to_z w32 w (record { fits = h }))
    (λ w h e. to_bits-of_bits binary32 w h (no_nan _ (finite-here w e)))

-- The value of a legal kind and word can stand in a cell.
pub legal-holdable : (kind word : ℕ) → legal_word kind word ≡ true → Holdable (value_of kind word)
unfolding value_of
legal-holdable =
    by-legal (λ kind word. Holdable (value_of kind word)) (λ w h. tt) (λ w h. to_z-Fits w32 w (record { fits = h }))
    (λ w h e. (of_bits-fits binary32 w, holds (finite-here w e)))

-- ---- value to word to value

-- A value that a cell can hold is the value of its kind and word.
pub value-back : (v : CellValue) → Holdable v → value_of (kind_of v) (word_of v) ≡ v
unfolding value_of
value-back (Truth true) h = refl
value-back (Truth false) h = refl
value-back (Whole z) h = ap Whole (to_z-of_z w32 z h)
value-back (Real x) h = ap Real (of_bits-to_bits binary32 x h.0)

finite-word : (x : Float) → T (fits binary32 x) → T (finite x) → endless (to_bits binary32 x) ≡ false
finite-word x f h = not-true _ (sym (finite-bits (to_bits binary32 x)) ∙ ap finite (of_bits-to_bits binary32 x f) ∙ is_true _ h)

-- A value that a cell can hold has a legal word of its kind.
pub holdable-legal : (v : CellValue) → Holdable v → legal_word (kind_of v) (word_of v) ≡ true
unfolding legal_word
holdable-legal (Truth true) h = refl
holdable-legal (Truth false) h = refl
holdable-legal (Whole z) h = lt-ltb (of_z w32 z) (2 ^ 32) (of_z_fits w32 z h).fits
holdable-legal (Real x) h = rw (lt-ltb (to_bits binary32 x) (2 ^ 32) (to_bits-lt binary32 x h.0), finite-word x h.0 h.1)

-- ---- at the edges

-- Both zeros are legal.
pub zeros-legal : (legal_word 3 0 ≡ true) × (legal_word 3 2147483648 ≡ true)
unfolding legal_word endless
zeros-legal = (refl, refl)

-- The two zeros are kept apart.
pub zeros-apart : value_of 3 0 ≡ value_of 3 2147483648 → ⊥
unfolding value_of of_bits of_fields odd
zeros-apart e = let q : ◌≡◌ {A = ℕ} 0 1 = cc in omega arith

-- A NaN's word is illegal.
pub nan-illegal : legal_word 3 (word_of (Real nan)) ≡ false
unfolding legal_word endless to_bits
nan-illegal = refl

-- An infinity's word is illegal, of either sign.
pub infinity-illegal : (s : Bool) → legal_word 3 (word_of (Real (inf s))) ≡ false
unfolding legal_word endless to_bits
infinity-illegal true = refl
infinity-illegal false = refl

-- E7: real word 7f7fffff is legal, 7f800000 is not.
pub e7 : (legal_word 3 0x7f7fffff ≡ true) × (legal_word 3 0x7f800000 ≡ false)
unfolding legal_word endless
e7 = (refl, refl)
