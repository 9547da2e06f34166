-- What a caller of `set_up` knows by its answer: a sheet that is ready, a bad one, or an area that is too short.
use mathlib.Core.Bool.{Bool, true, false}
use mathlib.Core.List.{List, ◌++◌}
use mathlib.Core.Path.{◌≡◌, refl, sym, ap, subst, ◌∙◌}
use Prim.Native.Nat.{ℕ, ◌+◌, ◌-◌, ◌<◌, ◌≤◌}
use native.Mathlib.Omega.{arith}
use borrow.Author.Tests.{leb-true, leb-false}
use lib.ListN.{length, take, drop, length-drop}
use lib.Seq.{length-take-le}
use Rattle.std.specs.Prelude.{Result, Ok, Err}
use Rattle.wire.specs.Part.{splice}
use Rattle.wire.proofs.Laws.Part.{drop-splice, length-splice}
use Rattle.slot.specs.Logic.{◌and◌}
use Rattle.line.proofs.Gather.{front-taken}
use Rattle.rules.specs.Model.{controller, area_length}
use Rattle.apart.specs.Apart.{steps_length, first_step, steps, cells_of, good_sheet}
use Rattle.apart.proofs.Apart.{good-parts}
use Rattle.stage.specs.declared.Ready.{Ready}
use Rattle.stage.specs.declared.Unready.{Unready}
use Rattle.stage.specs.declared.Unready.TheVariants.{Bad, Short}
use Rattle.stage.specs.Calls.{step_count, area_after}
use Rattle.stage.specs.First.{first_area}
use Rattle.stage.specs.SetUp.{staged, area_fits, SetUp}
use Rattle.stage.proofs.First.{Kept, kept-after, first-long, first-kept}
use Rattle.stage.proofs.Front.{front-back}

-- the area of a good sheet `s` stands in the first n bytes of `b`, and its steps are its bytes from `first` to `end`
pub record ReadySheet (s a : List ℕ) (n first end : ℕ) (b : List ℕ) : Type 0 where
  pub right : good_sheet s ≡ true
  pub room : 2486 ≤ length a
  -- the steps
  pub order : first ≤ end
  pub inside : end ≤ length s
  pub steps_there : take (end - first) (drop first s) ≡ steps s
  -- the area
  pub fits : n ≤ length b
  pub laid : take n b ≡ first_area s
  -- a changed front put back
  pub put_back : (x : List ℕ) → length x ≡ n → x ++ drop n b ≡ splice a 0 x

-- the steps of a good sheet: they are few, and its area stays well formed
pub record GoodSteps (s : List ℕ) : Type 0 where
  pub few : step_count (steps s) ≤ 4096
  pub kept : (k : ℕ) → Kept (area_after (first_area s) (steps s) k)

-- nothing was laid out, since the sheet is bad
pub record BadSheet (s a b : List ℕ) : Type 0 where
  pub bad : good_sheet s ≡ false
  pub room : 2486 ≤ length a
  pub same : b ≡ a

-- nothing was laid out, since the area is too short
pub record ShortArea (a b : List ℕ) : Type 0 where
  pub short : length a < 2486
  pub same : b ≡ a

pub good-steps : (s : List ℕ) → good_sheet s ≡ true → GoodSteps s
good-steps s right =
    let good = good-parts s right in
    let count : length (steps s) ≡ steps_length s = length-take-le (steps_length s) (drop (first_step s) s) (rw length-drop (omega (arith, good.long))) in
    record { few = omega (arith, count, good.stepped, good.most); kept = kept-after (first_area s) (steps s) (first-kept good) }

module _ (s a : List ℕ) where
  ready_of : {b : List ℕ} → good_sheet s ≡ true → 2486 ≤ length a → b ≡ splice a 0 (first_area s)
      → ReadySheet s a (area_length controller (cells_of s)) (first_step s) (first_step s + steps_length s) b
  ready_of {b} right room laid =
      let good = good-parts s right in
      let n = area_length controller (cells_of s) in
      let long : length (first_area s) ≡ n = first-long good ∙ omega arith in
      let fits : length (first_area s) ≤ length a = omega (arith, good.many, long) in
      let size : first_step s + steps_length s - first_step s ≡ steps_length s = omega arith in
      let past : drop n b ≡ drop n a = ap (drop n) laid ∙ drop-splice a 0 (first_area s) n (omega arith) (omega (arith, long)) in
      record {
        right = right;
        room = room;
        order = omega arith;
        inside = omega (arith, good.long);
        steps_there = rw size;
        fits = rw laid (omega (arith, long, fits, length-splice a 0 (first_area s) (omega (arith, fits))));
        laid = rw (laid, ← long) (front-taken a (first_area s) fits);
        put_back = λ x e. ap (λ (y : List ℕ). x ++ y) past ∙ front-back n a x e;
      }

-- what each answer tells
abbrev Told : List ℕ → List ℕ → List ℕ → Result Ready Unready → Type 0
Told s a b (Ok ready) = ReadySheet s a ready.length ready.first ready.end b
Told s a b (Err Bad) = BadSheet s a b
Told s a b (Err Short) = ShortArea a b

module _ {s a : List ℕ} {r : Result Ready Unready} {b : List ℕ} (set : SetUp s a r b) where
  told : Told s a b r
  unfolding staged ◌and◌
  told = by (area_fits a) refl (good_sheet s) refl
    where
      by : (room : Bool) → area_fits a ≡ room → (good : Bool) → good_sheet s ≡ good → Told s a b r
      by true p true q =
          let answer : r ≡ Ok (record { length = area_length controller (cells_of s); first = first_step s; end = first_step s + steps_length s }) = rw (p, q) at set.answer in
          subst (Told s a b) (sym answer) (ready_of s a q (leb-true _ _ p) (rw (p, q) at set.bytes))
      by true p false q =
          let answer : r ≡ Err Bad = rw (p, q) at set.answer in
          subst (Told s a b) (sym answer) (record { bad = q; room = leb-true _ _ p; same = rw (p, q) at set.bytes })
      by false p good q =
          let answer : r ≡ Err Short = rw p at set.answer in
          subst (Told s a b) (sym answer) (record { short = leb-false _ _ p; same = rw p at set.bytes })

  pub when-ready : {ready : Ready} → r ≡ Ok ready → ReadySheet s a ready.length ready.first ready.end b
  when-ready e = subst (Told s a b) e told

  pub when-bad : r ≡ Err Bad → BadSheet s a b
  when-bad e = subst (Told s a b) e told

  pub when-short : r ≡ Err Short → ShortArea a b
  when-short e = subst (Told s a b) e told
