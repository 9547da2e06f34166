-- The lines of an area's state.
use mathlib.Core.List.{List}
use mathlib.Core.Path.{◌≡◌, refl, ◌∙◌, subst}
use Prim.Native.Nat.{ℕ, ◌+◌, ◌*◌, ◌<◌, ◌≤◌}
use native.Mathlib.Omega.{arith}
use borrow.Author.Tests.{le-leb, lt-leb}
use lib.ListN.{length, drop}
use Rattle.wire.specs.Field.{be}
use Rattle.line.specs.Line.{clock_line}
use Rattle.line.specs.declared.Out.{Out}
use Rattle.line.specs.Gather.{Gathered, added, added_all, Leaves, written, Writes}
use Rattle.line.proofs.Gather.{gathered-as}
use Rattle.rules.specs.Model.{controller, cell_offset}
use Rattle.rules.specs.Layout.{count_in}
use Rattle.sheet.specs.Output.{line_in_area}
use Rattle.sheet.specs.Parts.{state_added}

-- an area that is too short for its cells gets no line
pub too_short : (a : List ℕ) (out : Out) → length a < 14 + 14 * count_in a → Writes out (state_added a (written out)) out
unfolding state_added
too_short a out h =
    let test = lt-leb (cell_offset controller (count_in a)) (length a) (omega arith) in
    record { same = refl; leaves = record { end = rw test; bytes = rw test } }

-- the clock's line after those of the cells
pub state-left : (a : List ℕ) (g : Gathered) {clock : ℕ} {out cells after : Out} → 14 + 14 * count_in a ≤ length a
    → Writes out (added_all (count_in a) (line_in_area a) g) cells → clock ≡ be 8 (drop 6 a) → Writes cells (added (written cells) (clock_line clock)) after
    → Writes out (state_added a g) after
unfolding state_added
state-left a g {after = after} h before time put =
    let test = le-leb (cell_offset controller (count_in a)) (length a) (omega arith) in
    let one = subst (λ (x : Gathered). Leaves (added x (clock_line (be 8 (drop 6 a)))) after.end after.bytes.now) (gathered-as before.leaves) (rw time at put.leaves) in
    record { same = put.same ∙ before.same; leaves = rw test one }
