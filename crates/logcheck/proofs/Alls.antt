-- A chain that ends in `all` decides `every`, where each call of its closure decides the test of its item and leaves the closure as it was.
use mathlib.Core.Bool.{Bool, true, false}
use mathlib.Core.List.{List}
use mathlib.Core.Path.{◌≡◌, sym, ap, ◌∙◌}
use Prim.Native.Nat.{ℕ, ◌<◌, ◌≤◌}
use native.Mathlib.Omega.{arith}
use lib.ListN.{length, get_or, take}
use lib.Seq.{length-take-le, get_or-take}
use denote.Param.Members.{Mut}
use denote.Ref.{Bor}
use Rattle.std.specs.Bool.{MatchBool}
use Rattle.std.specs.Fn.{Called}
use Rattle.std.specs.Iterator.{ChecksAll}
use Rattle.std.specs.List.{AllWithin, HoldsAt, range_with_len}
use Rattle.std.specs.declared.ops.Range.{Range}
use Rattle.std.specs.declared.slice.Iter.{Iter}
use Rattle.std.specs.Slice.Iter.{iter_rest}
use Rattle.std.proofs.iter.Yields.{nat_range_steps, fronts}
use Rattle.std.proofs.lemmas.Iterator.{YieldsList-from_range, YieldsList-from_slice, cases_from_all}
use Rattle.std.proofs.lemmas.List.FromFn.{length-range_with_len, get_or-range_with_len}
use Rattle.slot.specs.Logic.{every}
use Rattle.slot.proofs.Logic.{every_of, every-ext}
use Rattle.logcheck.proofs.Chains.{every-no}

-- over the items that come
items-all : {B : Type 0} (l : List B) (d : B) (test : B → Bool) (r : Bool)
    → MatchBool r (AllWithin (λ y. test y ≡ true) l 0 (length l)) ((k : ℕ) × (k < length l) × HoldsAt (λ y. test y ≡ false) l k)
    → r ≡ every (length l) (λ i. test (get_or l i d))
items-all l d test true w = sym (every_of (length l) (λ i. test (get_or l i d)) (λ i h. w i d (omega arith) h))
items-all l d test false w = every-no (length l) (λ i. test (get_or l i d)) w.0 w.1 (w.2 d)

-- `(0..n).all(..)`
pub range-all : {F : Type 0} {g : Mut F (ℕ × Unit {0}) Bool} {s u : Range ℕ} {f : F} {r : Bool} (n : ℕ) (test : ℕ → Bool)
    → ChecksAll nat_range_steps g s f r u → s ≡ record { start = 0; end = n }
    → ((x : ℕ) (b : Bool) (q : F) → Called g f (x, tt) b q → (q ≡ f) × (b ≡ test x)) → r ≡ every n test
range-all {u = u} {f = f} {r = r} n test ran e does =
    items-all (range_with_len 0 n) 0 test r
    (cases_from_all u f r (λ y. test y ≡ true) (λ y. test y ≡ false) ran (YieldsList-from_range 0 n n e (omega arith))
    (λ x q c. ((does x true q c).0, sym (does x true q c).1)) (λ x q c. sym (does x false q c).1))
    ∙ ap (λ (k : ℕ). every k (λ i. test (get_or (range_with_len 0 n) i 0))) (length-range_with_len 0 n)
    ∙ every-ext n (λ i. test (get_or (range_with_len 0 n) i 0)) test (λ i h. let e : get_or (range_with_len 0 n) i 0 ≡ i = omega (arith, get_or-range_with_len 0 n i 0 h) in ap test e)

-- `l[..n].iter().all(..)`
pub front-all : {F : Type 0} {g : Mut F (Bor ℕ × Unit {0}) Bool} {s u : Iter ℕ} {f : F} {r : Bool} (n : ℕ) (l : List ℕ) (test : ℕ → Bool)
    → n ≤ length l → ChecksAll fronts g s f r u → iter_rest s ≡ take n l
    → ((x : Bor ℕ) (b : Bool) (q : F) → Called g f (x, tt) b q → (q ≡ f) × (b ≡ test x.now)) → r ≡ every n (λ i. test (get_or l i 0))
front-all {u = u} {f = f} {r = r} n l test h ran e does =
    items-all (take n l) 0 test r
    (cases_from_all u f r (λ y. test y ≡ true) (λ y. test y ≡ false) ran (YieldsList-from_slice (take n l) e)
    (λ x q c. ((does x true q c).0, sym (does x true q c).1)) (λ x q c. sym (does x false q c).1))
    ∙ ap (λ (k : ℕ). every k (λ i. test (get_or (take n l) i 0))) (length-take-le n l h)
    ∙ every-ext n (λ i. test (get_or (take n l) i 0)) (λ i. test (get_or l i 0)) (λ i b. ap test (get_or-take n l i 0 b))
