-- The ways out of `set_up`: too little room, a bad sheet, and a good one, whose area is laid out at the front of the one that is lent.
use mathlib.Core.Bool.{true, false}
use mathlib.Core.List.{List, ◌++◌}
use mathlib.Core.Path.{◌≡◌, ap, ◌∙◌}
use Prim.Native.Nat.{ℕ, ◌+◌, ◌*◌, ◌-◌, ◌<◌, ◌≤◌}
use native.Mathlib.Omega.{arith}
use borrow.Author.Tests.{le-leb, lt-leb}
use lib.ListN.{length, take, drop}
use lib.Seq.{length-take-le}
use Rattle.std.specs.Prelude.{Result, Ok, Err, IsErrAnd}
use Rattle.std.proofs.lemmas.Result.{err_from_is_err_and}
use Rattle.wire.specs.Part.{splice}
use Rattle.slot.proofs.Logic.{and_intro}
use Rattle.rules.specs.Model.{controller, area_length}
use Rattle.fresh.specs.LaidOut.{LaidOut}
use Rattle.apart.specs.Apart.{described_length, good_sheet}
use Rattle.apart.proofs.Tests.{fails, goes_on}
use Rattle.apart.proofs.Apart.{GoodParts}
use Rattle.stage.specs.declared.Unready.TheVariants.{Bad, Short}
use Rattle.stage.specs.First.{first_area, most_area}
use Rattle.stage.specs.SetUp.{staged, area_fits, SetUp}
use Rattle.stage.proofs.First.{same_first}
use Rattle.stage.proofs.Front.{front-back}

-- the refusal that a `?` hands on
pub handed_on : {T U E : Type 0} (r : Result T E) {x e : E} → IsErrAnd r (λ y. y ≡ x) → ◌≡◌ {A = Result U E} (Err x) (Err e) → r ≡ Err e
handed_on r {x} {e} told why =
    let got = err_from_is_err_and r told in
    let same : x ≡ e = cc in
    got.1 ∙ ap Err (got.2 ∙ same)

module _ (s a : List ℕ) where
  pub short-area : length a < 2486 → SetUp s a (Err Short) a
  short-area h =
      let room = lt-leb most_area (length a) h in
      let none = fails (area_fits a) (good_sheet s) room in
      record { answer = rw room; bytes = rw none }

  module _ (h : 2486 ≤ length a) where
    room : area_fits a ≡ true
    room = le-leb most_area (length a) h

    pub bad-sheet : good_sheet s ≡ false → SetUp s a (Err Bad) a
    unfolding staged
    bad-sheet bad = let none = goes_on (area_fits a) (good_sheet s) room bad in record { answer = rw (room, bad); bytes = rw none }

    pub good-sheet : {cells first count r : ℕ} {b : List ℕ} → GoodParts s cells first count → length b ≡ length (take (14 + 14 * cells + 1576) a)
        → LaidOut (take (14 + 14 * cells + 1576) a) (take (3 + 5 * cells - 3) (drop 3 s)) r b
        → SetUp s a (Ok (record { length = 14 + 14 * cells + 1576; first = first; end = first + 8 * count })) (b ++ drop (14 + 14 * cells + 1576) a)
    unfolding staged
    good-sheet {cells} {first} {count} {r} {b} good long laid =
        let size = 14 + 14 * cells + 1576 in
        let n : 3 + 5 * cells - 3 ≡ described_length s = omega (arith, good.size) in
        let part : length (take size a) ≡ 1590 + 14 * cells = length-take-le size a (omega (arith, good.many)) ∙ omega arith in
        let first-area : b ≡ first_area s = (rw n at laid.bytes) ∙ same_first good (take size a) part in
        let all = and_intro (area_fits a) (good_sheet s) room good.right in
        record {
          answer = rw (room, good.right) (λ i. Ok (record { length = area_length controller (good.count i); first = good.place i; end = good.place i + good.stepped i }));
          bytes = rw all (front-back size a b (long ∙ part ∙ omega arith) ∙ ap (splice a 0) first-area);
        }
