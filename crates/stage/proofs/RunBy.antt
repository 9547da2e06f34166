-- A run by what makes the steps: its ways out, and what it prints, where the making prints the lines of a good sheet.
use mathlib.Core.Bool.{Bool, true, false}
use mathlib.Core.List.{List, ◌++◌}
use mathlib.Core.Path.{◌≡◌, refl, ap, ◌∙◌}
use Prim.Native.Nat.{ℕ, ◌-◌, ◌<◌, ◌≤◌}
use native.Mathlib.Omega.{arith}
use borrow.Author.Tests.{le-leb, lt-leb, leb-true}
use lib.ListN.{length, take, drop}
use lib.Seq.{length-take-le}
use Rattle.std.specs.Prelude.{Result, Ok, Err}
use Rattle.wire.specs.Part.{splice}
use Rattle.slot.proofs.Logic.{and_right, and_intro, and-false}
use Rattle.line.specs.Gather.{gathered, added, Leaves}
use Rattle.line.proofs.Gather.{front}
use Rattle.apart.specs.Apart.{steps, good_sheet}
use Rattle.apart.proofs.Tests.{fails}
use Rattle.stage.specs.declared.TooShort.{TooShort}
use Rattle.stage.specs.Calls.{end_area}
use Rattle.stage.specs.First.{first_area, bad_sheet, most_area}
use Rattle.stage.specs.SetUp.{area_fits}
use Rattle.stage.specs.Printed.{roomy, area_left, too_short, Printed}
use Rattle.stage.specs.RunBy.{Makes, RunBy}
use Rattle.stage.proofs.Front.{bad-front}
use Rattle.stage.proofs.SetUp.{ReadySheet, BadSheet, ShortArea}

module _ (makes : Makes) (most : ℕ) (s a out : List ℕ) where
  -- too little room
  short : roomy most a out ≡ false → RunBy makes most s a out (Err too_short) a out
  short test = record { short = λ p. (refl, refl, refl); bad = λ p q. cc (p, test); good = λ p q. cc (p, test) }

  pub short-out : length out < most → RunBy makes most s a out (Err too_short) a out
  unfolding roomy
  short-out h = let full = lt-leb most (length out) h in short (rw full (and-false (area_fits a)))

  pub short-area : {b : List ℕ} → ShortArea a b → RunBy makes most s a out (Err too_short) b out
  unfolding roomy
  short-area told = rw told.same (short (fails _ _ (lt-leb most_area (length a) told.short)))

  module _ (enough : most ≤ length out) where
    roomy-both : 2486 ≤ length a → roomy most a out ≡ true
    unfolding roomy
    roomy-both h = and_intro _ _ (le-leb most_area (length a) h) (le-leb most (length out) enough)

    -- a bad sheet
    pub bad-run : {r : ℕ} {b t : List ℕ} → BadSheet s a b → Leaves (added (gathered 0 out) bad_sheet) r t → RunBy makes most s a out (Ok r) b t
    bad-run {r} told put =
        let room = roomy-both told.room in
        record {
          short = λ p. cc (p, room);
          bad = λ p q. record { end = r; said = put; answer = refl; area = told.same };
          good = λ p q. cc (q, told.bad);
        }

    -- a good sheet, run on the front of the area
    pub good-run : {n first end r : ℕ} {b t l x x' : List ℕ} → ReadySheet s a n first end b
        → makes l x out r x' t → length x' ≡ length (take n b)
        → l ≡ take (end - first) (drop first s) → x ≡ take n b → RunBy makes most s a out (Ok r) (x' ++ drop n b) t
    good-run {n} {r = r} {b = b} {t} {l} {x} {x'} told met size steps area =
        let room = roomy-both told.room in
        record {
          short = λ p. cc (p, room);
          bad = λ p q. cc (q, told.right);
          good = λ p q. record {
            end = r;
            own = x';
            made = rw (steps ∙ told.steps_there, area ∙ told.laid) at met;
            size = size ∙ ap length told.laid;
            answer = refl;
            area = told.put_back x' (size ∙ length-take-le n b told.fits);
          };
        }

  room : roomy most a out ≡ true → most ≤ length out
  unfolding roomy
  room p = leb-true _ _ (and_right _ _ p)

  -- what a run prints, where a call of the function prints the lines of a good sheet
  pub printed-by : {text b t : List ℕ} {r : Result ℕ TooShort} → 10 ≤ most → (good_sheet s ≡ false → text ≡ bad_sheet)
      → (good_sheet s ≡ true → most ≤ length out → (e : ℕ) (c u : List ℕ) → makes (steps s) (first_area s) out e c u → (c ≡ end_area (first_area s) (steps s)) × Leaves (front out text) e u)
      → RunBy makes most s a out r b t → Printed most text s a out r b t
  unfolding area_left
  printed-by {text} {b} {t} {r} ten said made run = by (roomy most a out) refl (good_sheet s) refl
    where
      by : (room : Bool) → roomy most a out ≡ room → (right : Bool) → good_sheet s ≡ right → Printed most text s a out r b t
      by false p right q = let told = run.short p in record { answer = rw p told.0; area = rw p told.1; bytes = rw p told.2 }
      by true p false q =
          let told = run.bad p q in
          let all = bad-front out (omega (arith, room p)) told.said in
          record { answer = rw (p, said q) (told.answer ∙ ap Ok all.end); area = rw p (rw q told.area); bytes = rw (p, said q) all.bytes }
      by true p true q =
          let told = run.good p q in
          let all = made q (room p) told.end told.own t told.made in
          record { answer = rw p (told.answer ∙ ap Ok all.1.end); area = rw p (rw q (told.area ∙ ap (splice a 0) all.0)); bytes = rw p all.1.bytes }
