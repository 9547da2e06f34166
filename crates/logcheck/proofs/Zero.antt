-- Runs of zero bytes: a bitwise or gathers bytes without a test for each, and the unused entries of a log are one run.
use mathlib.Core.Bool.{Bool, false}
use mathlib.Core.List.{List}
use mathlib.Core.Path.{◌≡◌, refl, sym, ◌∙◌, ap, ap₂}
use Prim.Native.Nat.{ℕ, zero, suc, ◌+◌, ◌*◌, ◌-◌, ◌≤◌}
use native.Mathlib.Nat.{add-zero, mul-zero, mul-suc, mul-add, add-suc, add_assoc}
use native.Mathlib.Numerals.{add-one}
use native.Mathlib.Omega.{arith}
use borrow.Author.Tests.{eq-eqb, eqb-true, lt-ltb, le-ltb}
use lib.Bits.{bit_or, or_add_and, and_le_l, and_le_r}
use lib.Dec.{eqb, ltb}
use lib.ListN.{length, get_or, take, drop, length-drop}
use lib.Seq.{get_or-drop, get_or-take, length-take-le, drop-drop}
use Rattle.slot.specs.Layout.{slot_of}
use Rattle.slot.specs.Logic.{◌and◌, ◌or◌, every}
use Rattle.slot.proofs.Logic.{and_intro, and_left, and_right, and-true, and_assoc, false-or, true-or, both_ways, every_of, every-ext}
use Rattle.rules.specs.AreaRight.{zeros, unused_zero}
use Rattle.logcheck.specs.Logged.{Counted, zeros_from}

-- a bitwise or is 0 exactly if both sides are
pub or-zero : (a b : ℕ) → eqb (bit_or a b) 0 ≡ (eqb a 0 and eqb b 0)
or-zero a b =
    both_ways (eqb (bit_or a b) 0) (eqb a 0 and eqb b 0)
    (λ p.
    let none : bit_or a b ≡ 0 = eqb-true _ _ p in
    and_intro _ _ (eq-eqb a 0 (omega (arith, or_add_and a b, and_le_r a b))) (eq-eqb b 0 (omega (arith, or_add_and a b, and_le_l a b))))
    (λ p.
    let left : a ≡ 0 = eqb-true _ _ (and_left _ _ p) in
    let right : b ≡ 0 = eqb-true _ _ (and_right _ _ p) in
    eq-eqb (bit_or a b) 0 (omega (arith, or_add_and a b)))

pub zero-start : (l : List ℕ) → eqb 0 0 ≡ zeros 0 l
unfolding zeros every
zero-start l = refl

pub zero-next : (l : List ℕ) (i any : ℕ) → eqb any 0 ≡ zeros i l → eqb (bit_or any (get_or l i 0)) 0 ≡ zeros (i + 1) l
unfolding zeros every
zero-next l i any p = or-zero any (get_or l i 0) ∙ rw (add-one i, p)

-- the bytes of a part are zero
abbrev pub zeros_of : List ℕ → ℕ → ℕ → Bool
zeros_of l from to = zeros_from (take (to - from) (drop from l)) 0 (length (take (to - from) (drop from l)))

-- a part is zero if as many bytes from its place on are
pub zeros-part : (count from : ℕ) (l : List ℕ) → from + count ≤ length l
    → zeros_from (take count (drop from l)) 0 (length (take count (drop from l))) ≡ zeros count (drop from l)
unfolding zeros
zeros-part count from l h =
    ap (λ (k : ℕ). zeros k (take count (drop from l))) (length-take-le count (drop from l) (rw length-drop (omega arith)))
    ∙ every-ext count (λ i. eqb (get_or (take count (drop from l)) i 0) 0) (λ i. eqb (get_or (drop from l) i 0) 0)
    (λ i b. ap (λ (x : ℕ). eqb x 0) (get_or-take count (drop from l) i 0 b))

-- a run that goes on
pub zeros-add : (a b : ℕ) (l : List ℕ) → zeros (a + b) l ≡ (zeros a l and zeros b (drop a l))
unfolding zeros every
zeros-add a zero l = rw add-zero (sym (and-true (zeros a l)))
zeros-add a (suc b) l =
    let next : get_or l (a + b) 0 ≡ get_or (drop a l) b 0 = sym (get_or-drop a l b 0) in
    rw add-suc (ap₂ ◌and◌ (zeros-add a b l) (ap (λ (x : ℕ). eqb x 0) next) ∙ and_assoc (zeros a l) (zeros b (drop a l)) (eqb (get_or (drop a l) b 0) 0))

-- the entries from `count` on, of `size` bytes each, are zero: one run
module _ (size at count : ℕ) (l : List ℕ) where
  used-or-zero : ℕ → Bool
  used-or-zero i = ltb i count or zeros size (drop (at + size * i) l)

  unused-from : (m : ℕ) → every (count + m) used-or-zero ≡ zeros (size * m) (drop (at + size * count) l)
  unfolding every used-or-zero zeros
  unused-from zero = rw (add-zero, mul-zero) (every_of count used-or-zero (λ i h. rw (lt-ltb i count h) (true-or _)))
  unused-from (suc m) =
      let past : ltb (count + m) count ≡ false = le-ltb (count + m) count (omega arith) in
      let place : at + size * count + size * m ≡ at + size * (count + m) = rw mul-add (add_assoc at (size * count) (size * m)) in
      let last : zeros size (drop (at + size * (count + m)) l) ≡ zeros size (drop (size * m) (drop (at + size * count) l)) =
      ap (zeros size) (ap (λ (k : ℕ). drop k l) (sym place) ∙ sym (drop-drop (size * m) (at + size * count) l)) in
      rw (add-suc, mul-suc, zeros-add (size * m) size (drop (at + size * count) l))
      (ap₂ ◌and◌ (unused-from m) (ap (λ (b : Bool). b or zeros size (drop (at + size * (count + m)) l)) past ∙ false-or _ ∙ last))

  unused-zero : (n m : ℕ) → n ≡ count + m
      → zeros (size * m) (drop (at + size * count) l) ≡ every n (λ i. ltb i count or zeros size (drop (at + size * i) l))
  unfolding used-or-zero
  unused-zero n m e = rw e (sym (unused-from m))

-- the unused entries of both logs
pub unused-places : (l : List ℕ) (reads writes : ℕ) → Counted l → reads ≡ get_or l 3 0 → writes ≡ get_or l 4 0
    → (zeros_of l (21 + 6 * reads) 117 and zeros_of l (117 + 5 * writes) 197) ≡ unused_zero 8 l (slot_of 8 l)
unfolding unused_zero slot_of
unused-places l reads writes counted d e =
    let r : 117 - (21 + 6 * reads) ≡ 6 * (16 - reads) = omega (arith, counted.reads) in
    let w : 197 - (117 + 5 * writes) ≡ 5 * (16 - writes) = omega (arith, counted.writes) in
    ap₂ ◌and◌
    (zeros-part (117 - (21 + 6 * reads)) (21 + 6 * reads) l (omega (arith, counted.size, counted.reads))
    ∙ ap (λ (k : ℕ). zeros k (drop (21 + 6 * reads) l)) r)
    (zeros-part (197 - (117 + 5 * writes)) (117 + 5 * writes) l (omega (arith, counted.size, counted.writes))
    ∙ ap (λ (k : ℕ). zeros k (drop (117 + 5 * writes) l)) w)
    ∙ rw (← d, ← e)
    (ap₂ ◌and◌ (unused-zero 6 21 reads l 16 (16 - reads) (omega (arith, counted.reads))) (unused-zero 5 117 writes l 16 (16 - writes) (omega (arith, counted.writes))))
