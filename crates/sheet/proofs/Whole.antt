-- The lines of a good sheet's run all fit.
use mathlib.Core.Bool.{true, false}
use mathlib.Core.List.{List, [], ◌++◌}
use mathlib.Core.Path.{◌≡◌, ap, ◌∙◌}
use Prim.Native.Nat.{ℕ, ◌+◌, ◌≤◌}
use native.Mathlib.Omega.{arith}
use borrow.Author.Tests.{le-leb}
use lib.ListN.{length, length-append}
use Rattle.wire.specs.Table.{cat}
use Rattle.line.specs.Gather.{Gathered, gathered, added, added_all, Leaves}
use Rattle.line.specs.Line.{clock_line}
use Rattle.line.proofs.Gather.{front, front-nil, front-added, front-all}
use Rattle.rules.specs.Model.{controller, cell_offset}
use Rattle.rules.specs.Layout.{count_in, clock_in}
use Rattle.area.proofs.Good.{good_of}
use Rattle.apart.specs.Apart.{steps, good_sheet}
use Rattle.stage.specs.Calls.{step_count, end_area}
use Rattle.stage.specs.First.{first_area, bad_sheet}
use Rattle.stage.proofs.First.{Kept}
use Rattle.stage.proofs.SetUp.{good-steps}
use Rattle.sheet.specs.Output.{step_line, line_in_area, printed, output}
use Rattle.sheet.specs.Parts.{steps_added, state_added, StepsRun}
use Rattle.sheet.proofs.Short.{printed-short}

-- all lines of a run, put at the front of a buffer that has room for them
all_lines : (a l out : List ℕ) → step_count l ≤ 4096 → Kept (end_area a l) → 80795 ≤ length out
    → state_added (end_area a l) (steps_added a l (gathered 0 out)) ≡ front out (printed a l)
unfolding state_added printed
all_lines a l out few kept room =
    let e = end_area a l in
    let good = good_of e kept.bytes kept.right in
    let test = le-leb (cell_offset controller (count_in e)) (length e) (omega (arith, good.long)) in
    let fits : length (printed a l) ≤ length out = omega (arith, printed-short a l few kept.bytes good.many) in
    let x = cat (step_count l) (step_line a l) in
    let y = cat (count_in e) (line_in_area e) in
    let z = clock_line (clock_in controller e) in
    let three : length x + length y + length z ≤ length out = simp length-append at fits in
    let one : steps_added a l (gathered 0 out) ≡ front out x =
    ap (added_all (step_count l) (step_line a l)) (front-nil out) ∙ front-all out [] (step_count l) (step_line a l) (omega arith) in
    let two : added_all (count_in e) (line_in_area e) (front out x) ≡ front out (x ++ y) =
    front-all out x (count_in e) (line_in_area e) (rw length-append (omega arith)) in
    rw test
    (ap (λ (g : Gathered). added (added_all (count_in e) (line_in_area e) g) z) one
    ∙ ap (λ (g : Gathered). added g z) two
    ∙ front-added out (x ++ y) z (rw (length-append, length-append) (omega arith)))

module _ (s : List ℕ) where
  -- what a bad sheet prints
  pub bad-output : good_sheet s ≡ false → output s ≡ bad_sheet
  unfolding output
  bad-output bad = rw bad

  -- .. and the steps of a good one, run on its own area
  pub ran_on : {r : ℕ} {out c t : List ℕ} → good_sheet s ≡ true → 80795 ≤ length out → StepsRun (steps s) (first_area s) out r c t
      → (c ≡ end_area (first_area s) (steps s)) × Leaves (front out (output s)) r t
  unfolding output
  ran_on {out = out} right room run =
      let good = good-steps s right in
      let all = all_lines (first_area s) (steps s) out good.few (good.kept (step_count (steps s))) room in
      (run.area, rw (right, ← all, ← run.area) run.lines)
