-- The front of a lent area or buffer: a part that comes back to it, and what is printed there.
use mathlib.Core.Bool.{Bool, true, false, cond}
use mathlib.Core.List.{List, [], ◌++◌}
use mathlib.Core.Path.{◌≡◌, ap, ◌∙◌}
use Prim.Native.Nat.{ℕ, ◌≤◌}
use native.Mathlib.Nat.{zero-add}
use native.Mathlib.Omega.{arith}
use lib.ListN.{length, drop, length-append}
use Rattle.std.specs.Prelude.{Ok, Err}
use Rattle.wire.specs.Part.{splice}
use Rattle.line.specs.Gather.{Gathered, gathered, added, Leaves}
use Rattle.line.proofs.Gather.{front, front-nil, front-added}
use Rattle.stage.specs.First.{bad_sheet}
use Rattle.stage.specs.Printed.{too_short}

-- a part that comes back to the front of the area that it was lent from
pub front-back : (n : ℕ) (a b : List ℕ) → length b ≡ n → b ++ drop n a ≡ splice a 0 b
unfolding splice
front-back n a b e = rw (zero-add, e)

-- what a bad sheet prints, where it fits
pub bad-front : (out : List ℕ) {t : List ℕ} {r : ℕ} → 10 ≤ length out → Leaves (added (gathered 0 out) bad_sheet) r t → Leaves (front out bad_sheet) r t
bad-front out room put =
    let all : added (gathered 0 out) bad_sheet ≡ front out bad_sheet =
    ap (λ (x : Gathered). added x bad_sheet) (front-nil out) ∙ front-added out [] bad_sheet (omega arith) in
    record { end = put.end ∙ ap (λ (x : Gathered). x.end) all; bytes = put.bytes ∙ ap (λ (x : Gathered). x.bytes) all }

part-within : (a p : List ℕ) → length p ≤ length (splice a 0 p)
unfolding splice
part-within a p = simp length-append (omega arith)

-- what a run says it has written stands in the buffer: a program may write that much of it out
pub within : (out text : List ℕ) {t : List ℕ} {end : ℕ} (room : Bool) → Ok end ≡ cond room (Ok (length text)) (Err too_short) → t ≡ cond room (splice out 0 text) out
    → end ≤ length t
within out text {end = end} true p q =
    let same : end ≡ length text = cc in
    rw (same, q) (part-within out text)
within out text {end = end} false p q = cc
