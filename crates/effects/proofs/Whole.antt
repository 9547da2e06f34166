-- The lines of a good sheet's effects all fit.
use mathlib.Core.Bool.{true, false}
use mathlib.Core.List.{List, [], ◌∷◌, ◌++◌, map, flatten, flat_map, append_assoc, append-nil}
use mathlib.Core.Path.{◌≡◌, refl, sym, ap, ◌∙◌}
use Prim.Native.Nat.{ℕ, ◌≤◌}
use native.Mathlib.Omega.{arith}
use lib.ListN.{length}
use Rattle.line.specs.Number.{decimal}
use Rattle.line.specs.Line.{space, newline, line, field}
use Rattle.line.specs.Gather.{gathered, added_parts, Leaves}
use Rattle.line.proofs.Gather.{front, front-nil, front-parts}
use Rattle.apart.specs.Apart.{steps, good_sheet}
use Rattle.stage.specs.Calls.{step_count, end_area}
use Rattle.stage.specs.First.{first_area, bad_sheet}
use Rattle.stage.proofs.SetUp.{good-steps}
use Rattle.effects.specs.Effects.{Effect, effects}
use Rattle.effects.specs.Trace.{effect_word, effect_fields, effect_line, trace}
use Rattle.effects.specs.Steps.{parts_of, effects_up_to, AllTraced}
use Rattle.effects.specs.Traced.{sheet_history, traced}
use Rattle.effects.proofs.Events.{effects-right}
use Rattle.effects.proofs.States.{traced-short}

-- the parts of a list, and then those of another
flat-both : (l m : List (List ℕ)) → flatten (l ++ m) ≡ flatten l ++ flatten m
unfolding flatten
flat-both [] m = refl
flat-both (x ∷ l) m = rw (flat-both l m) (sym (append_assoc x (flatten l) (flatten m)))

-- a word, its fields with a space before each, and a newline are a line
line-flat : (word fields : List ℕ) → word ++ flatten (map field fields) ++ (newline ∷ []) ≡ line (word ∷ map decimal fields)
unfolding flatten
line-flat word [] = rw append-nil
line-flat word (n ∷ fields) =
    append_assoc word (field n ++ flatten (map field fields)) (newline ∷ []) ∙ ap (λ (l : List ℕ). word ++ (space ∷ l)) (line-flat (decimal n) fields)

parts-flat : (effects : List Effect) → flatten (parts_of effects) ≡ trace effects
unfolding flatten flat_map trace effect_line
parts-flat [] = refl
parts-flat (x ∷ effects) =
    rw (← line-flat (effect_word x) (effect_fields x), flat-both, flat-both, parts-flat effects) (simp append_assoc)

module _ (s : List ℕ) where
  -- what a bad sheet prints
  pub bad-trace : good_sheet s ≡ false → traced s ≡ bad_sheet
  unfolding traced
  bad-trace bad = rw bad

  -- .. and the steps of a good one, traced on its own area
  pub traced-on : {r : ℕ} {out c t : List ℕ} → good_sheet s ≡ true → 49152 ≤ length out → AllTraced (steps s) (first_area s) out r c t
      → (c ≡ end_area (first_area s) (steps s)) × Leaves (front out (traced s)) r t
  unfolding traced
  traced-on {out = out} right room run =
      let good = good-steps s right in
      let text = trace (effects (sheet_history s)) in
      let made : effects_up_to (first_area s) (steps s) (step_count (steps s)) ≡ effects (sheet_history s) =
      effects-right (first_area s) (steps s) good.kept (step_count (steps s)) good.few in
      let flat : flatten (parts_of (effects (sheet_history s))) ≡ text = parts-flat (effects (sheet_history s)) in
      let fits : length text ≤ length out = omega (arith, traced-short s right good.few) in
      let all : added_parts (parts_of (effects (sheet_history s))) (gathered 0 out) ≡ front out text =
      ap (added_parts (parts_of (effects (sheet_history s)))) (front-nil out)
      ∙ front-parts out [] (parts_of (effects (sheet_history s))) (rw flat fits)
      ∙ ap (front out) flat in
      (run.area, rw (right, ← all, ← made) run.lines)
