-- A number's digits: they are taken off from the last one on, as the loop writes them, and are as few as the number needs.
use mathlib.Core.Bool.{Bool, true, false, cond, false≢true}
use mathlib.Core.List.{List, [], ◌∷◌, ◌++◌, append_assoc, append-nil}
use mathlib.Core.Logic.{◌⊎◌, inl, inr}
use mathlib.Core.Path.{◌≡◌, refl, sym, ◌∙◌}
use Prim.Native.Nat.{ℕ, zero, suc, ◌-◌, ◌/◌, ◌%◌, ◌^◌, ◌≤◌, ◌<◌}
use native.Mathlib.Nat.{pow-zero, pow-suc, div-lt_iff_lt-mul}
use native.Mathlib.Omega.{arith}
use borrow.Author.Tests.{ne_eqb}
use lib.Dec.{eqb}
use lib.ListN.{length, take, drop, set, length-append, length-drop, length-set, take-append-drop}
use lib.Seq.{length-take-le, set_at, drop_at, take_all, drop-cons, get_or-set_same, drop-set-lt}
use Rattle.line.specs.declared.Style.{Style}
use Rattle.line.specs.declared.Style.TheVariants.{Decimal, Hex}
use Rattle.line.specs.Number.{digit, digits, base_of, least_of, numeral}
use Rattle.line.specs.Line.{field}
use Rattle.line.specs.Spelt.{digits_for, Spelt}

pub base-positive : (style : Style) → 1 ≤ base_of style
base-positive Decimal = omega arith
base-positive Hex = omega arith

-- whether nothing is left to write
abbrev over : ℕ → ℕ → Bool
over least n = cond (eqb least 0) (eqb n 0) false

pub over-when : {least n : ℕ} → least ≡ 0 → n ≡ 0 → over least n ≡ true
over-when p q = rw (p, q)

pub not-over : {least n : ℕ} → ((least ≡ 0) × (n ≡ 0 → ⊥)) ⊎ (least ≡ 0 → ⊥) → over least n ≡ false
not-over {least} {n} (inl (p, q)) = rw (p, ne_eqb n 0 q)
not-over {least} {n} (inr p) = rw (ne_eqb least 0 p)

pub digits-over : (base least most n : ℕ) → over least n ≡ true → digits base least most n ≡ []
unfolding digits
digits-over base least zero n e = refl
digits-over base zero (suc most) n e = rw e
digits-over base (suc least) (suc most) n e = absurd (false≢true (rw (ne_eqb (suc least) 0 (λ q. omega arith)) at e))

pub digits-none : (base least most n : ℕ) → most ≤ 0 → digits base least most n ≡ []
unfolding digits
digits-none base least zero n h = refl
digits-none base least (suc most) n h = absurd (omega arith)

pub digits-next : (base least most n : ℕ) → over least n ≡ false
    → digits base least (suc most) n ≡ digits base (least - 1) most (n / base) ++ (digit (n % base) ∷ [])
unfolding digits
digits-next base zero most n e = rw e
digits-next base (suc least) most n e = let one : suc least - 1 ≡ least = omega arith in rw one

-- never more digits than `most`; and as few as the number needs, where those are `least` or more
module _ (base : ℕ) where
  bound : (b : Bool) (l : List ℕ) (d k : ℕ) → length l ≤ k → length (cond b [] (l ++ (d ∷ []))) ≤ suc k
  bound true l d k h = omega arith
  bound false l d k h = rw length-append (omega arith)

  pub digits-most : (least most n : ℕ) → length (digits base least most n) ≤ most
  unfolding digits
  digits-most least zero n = omega arith
  digits-most zero (suc most) n = bound (eqb n 0) (digits base zero most (n / base)) (digit (n % base)) most (digits-most zero most (n / base))
  digits-most (suc least) (suc most) n = bound false (digits base least most (n / base)) (digit (n % base)) most (digits-most least most (n / base))

  pub digits-few : 0 < base → (k least most n : ℕ) → n < base ^ k → least ≤ k → length (digits base least most n) ≤ k
  unfolding digits
  digits-few pos k least zero n h fit = omega arith
  digits-few pos zero zero (suc most) n h fit =
      let none : n ≡ 0 = let one : n < 1 = rw pow-zero at h in omega arith in rw none (omega arith)
  digits-few pos (suc k) zero (suc most) n h fit =
      bound (eqb n 0) (digits base zero most (n / base)) (digit (n % base)) k
      (digits-few pos k zero most (n / base) ((div-lt_iff_lt-mul pos).1 (rw pow-suc at h)) (omega arith))
  digits-few pos zero (suc least) (suc most) n h fit = absurd (omega arith)
  digits-few pos (suc k) (suc least) (suc most) n h fit =
      bound false (digits base least most (n / base)) (digit (n % base)) k
      (digits-few pos k least most (n / base) ((div-lt_iff_lt-mul pos).1 (rw pow-suc at h)) (omega arith))

-- a number below the base to the power k has at most k digits
pub few : (style : Style) (k n : ℕ) → n < base_of style ^ k → least_of style ≤ k → length (numeral style n) ≤ k
few style k n h least = digits-few (base_of style) (base-positive style) k (least_of style) 20 n h least

pub most : (style : Style) (n : ℕ) → length (numeral style n) ≤ 20
most style n = digits-most (base_of style) (least_of style) 20 n

-- a digit is stored before those that are there
back : (text : List ℕ) (j v : ℕ) → j < length text → drop j (set text j v) ≡ v ∷ drop (suc j) text
back text j v h =
    drop-cons (set text j v) j 0 (rw length-set (omega arith)) ∙ rw (get_or-set_same text j v 0 h, drop-set-lt (suc j) text j v (omega arith))

-- a turn of the loop: the whole is what is left to write, and then what is written
pub turn : (whole text : List ℕ) (base least i rest : ℕ) → 0 < i → i ≤ length text → over least rest ≡ false
    → whole ≡ digits base least i rest ++ drop i text
    → whole ≡ digits base (least - 1) (i - 1) (rest / base) ++ drop (i - 1) (set text (i - 1) (digit (rest % base)))
turn whole text base least zero rest h fits e so = absurd (omega arith)
turn whole text base least (suc j) rest h fits e so =
    let one : suc j - 1 ≡ j = omega arith in
    rw (one, back text j (digit (rest % base)) (omega arith))
    (so ∙ rw (digits-next base least j rest e) (append_assoc (digits base (least - 1) j (rest / base)) (digit (rest % base) ∷ []) (drop (suc j) text)))

-- the loop's end, both ways: nothing is left to write, so the whole is written
pub ending : (text : List ℕ) (style : Style) (n base least i rest : ℕ) (now : List ℕ) → i ≤ length text → length now ≡ length text → take i now ≡ take i text
    → digits base least i rest ≡ [] → digits_for text style n ≡ digits base least i rest ++ drop i now → Spelt text style n i now
ending text style n base least i rest now h long front none so =
    let whole : digits_for text style n ≡ drop i now = so ∙ rw none in
    record {
      first = rw (whole, length-drop) (omega arith);
      bytes = rw (whole, ← front) (sym (take-append-drop i now));
    }

-- a number spelt to the end of 20 bytes, and a byte after them: what stands from its first digit on
pub spelt-field : (z e : List ℕ) (style : Style) (n r after : ℕ) → length z ≡ 20 → Spelt z style n r e
    → take (21 - r) (drop r (set (e ++ (0 ∷ [])) 20 after)) ≡ numeral style n ++ (after ∷ [])
spelt-field z e style n r after long spelt =
    let d = digits_for z style n in
    let begins : r ≤ length z = omega (arith, spelt.first) in
    let size : length e ≡ 20 = rw (spelt.bytes, length-append, length-take-le r z begins) (spelt.first ∙ long) in
    let text : set (e ++ (0 ∷ [])) 20 after ≡ take r z ++ (d ++ (after ∷ [])) =
    set_at e 0 [] after 20 size ∙ rw spelt.bytes (append_assoc (take r z) d (after ∷ [])) in
    let count : length (d ++ (after ∷ [])) ≤ 21 - r = rw length-append (omega (arith, spelt.first)) in
    rw (text, drop_at (take r z) (d ++ (after ∷ [])) r (length-take-le r z begins), take_all (21 - r) (d ++ (after ∷ [])) count, long)

-- a number spelt to the end of 20 bytes that stand behind one more, and a space before its first digit
pub spelt-spaced : (z e : List ℕ) (n r : ℕ) → length z ≡ 20 → Spelt z Decimal n r e → take (21 - r) (drop r (set (0 ∷ (e ++ [])) r 32)) ≡ field n
spelt-spaced z e n r long spelt =
    let d = digits_for z Decimal n in
    let begins : r ≤ length z = omega (arith, spelt.first) in
    let size : length e ≡ 20 = rw (spelt.bytes, length-append, length-take-le r z begins) (spelt.first ∙ long) in
    let count : length (32 ∷ d) ≤ 21 - r = omega (arith, spelt.first) in
    let rest : drop r e ≡ d = rw spelt.bytes (drop_at (take r z) d r (length-take-le r z begins)) in
    rw (append-nil, back (0 ∷ e) r 32 (omega arith), rest, take_all (21 - r) (32 ∷ d) count, long)
