-- The effects of a run on an area, step by step and for any bytes, and what the functions that make them leave.
use mathlib.Core.List.{List, [], ◌∷◌, ◌++◌, map, flat_map}
use Rattle.std.specs.Prelude.{◌≡◌, ℕ, zero, suc, get_or, Option, Some, None}
use Rattle.call.specs.Answer.{reply_code}
use Rattle.rules.specs.Model.{controller}
use Rattle.rules.specs.Step.{Call}
use Rattle.rules.specs.Area.{step_on_bytes}
use Rattle.slot.specs.Logs.{write_log}
use Rattle.slot.specs.declared.SlotRecord.{SlotRecord}
use Rattle.line.specs.Line.{newline, field}
use Rattle.line.specs.declared.Out.{Out}
use Rattle.line.specs.Gather.{gathered, added_parts, Leaves, written, Writes}
use Rattle.tally.specs.declared.Numbers.{Numbers}
use Rattle.tally.specs.declared.Effect.{Effect as Shown}
use Rattle.tally.specs.declared.Effect.TheVariants.{Begun, Read, Reloaded, Committed, Aborted}
use Rattle.telling.specs.Looking.{looked_at}
use Rattle.tally.specs.Numbering.{no_numbers, numbers_after}
use Rattle.tally.specs.Showing.{shown_by}
use Rattle.stage.specs.Calls.{call_at, step_count, area_after, end_area}
use Rattle.effects.specs.Effects.{Effect, begun, read_shared, reloaded, committed, aborted, written_cells}
use Rattle.effects.specs.Trace.{effect_word, effect_fields}

-- the code that a call gets on an area `a`, and the numbers after it
abbrev pub code_on : List ℕ → Call → ℕ
code_on a call = reply_code (step_on_bytes controller a call).reply

abbrev pub numbers_on : List ℕ → Call → Numbers → Numbers
numbers_on a call v = numbers_after v call.step call.slot (code_on a call)

-- the effect of what a step has shown
abbrev pub effect_by : Option Shown → (slot number cell : ℕ) → SlotRecord → List Effect
effect_by (Some Begun) slot number cell v = begun slot number ∷ []
effect_by (Some Read) slot number cell v = read_shared slot number cell ∷ []
effect_by (Some Reloaded) slot number cell v = reloaded slot number ∷ []
effect_by (Some Committed) slot number cell v = committed slot number v.commit (written_cells (write_log v)) ∷ []
effect_by (Some Aborted) slot number cell v = aborted slot number ∷ []
effect_by None slot number cell v = []

-- the effect of a call, where `v` are the numbers after it
unfoldable pub effect_on : List ℕ → Call → Numbers → List Effect
effect_on a call v =
    let before = looked_at a call.slot call.cell in
    effect_by (shown_by call.step (code_on a call) before.logged) call.slot (get_or v.last call.slot 0) call.cell before.own

-- the numbers after the first k steps `l`, from an area `a` on, and the effects of these steps
unfoldable pub numbers_at : List ℕ → List ℕ → ℕ → Numbers
numbers_at a l zero = no_numbers
numbers_at a l (suc k) = numbers_on (area_after a l k) (call_at l k) (numbers_at a l k)

unfoldable pub effects_up_to : List ℕ → List ℕ → ℕ → List Effect
effects_up_to a l zero = []
effects_up_to a l (suc k) = effects_up_to a l k ++ effect_on (area_after a l k) (call_at l k) (numbers_at a l (suc k))

-- the parts of the lines of effects: the word, each number with a space before it, the newline
abbrev pub parts_of : List Effect → List (List ℕ)
parts_of effects = flat_map (λ (x : Effect). (effect_word x ∷ map field (effect_fields x)) ++ ((newline ∷ []) ∷ [])) effects

-- one step made on an area `a`, the numbers w after it, and the line of its effect written behind what was written before
pub record StepTraced (a : List ℕ) (call : Call) (v : Numbers) (before : Out) (w : Numbers) (b : List ℕ) (after : Out) : Type 0 where
  pub area : b ≡ (step_on_bytes controller a call).bytes
  pub numbers : w ≡ numbers_on a call v
  pub lines : Writes before (added_parts (parts_of (effect_on a call (numbers_on a call v))) (written before)) after

-- the steps `l` made on an area `a`, and the lines of their effects written behind what was written before
pub record StepsTraced (l a : List ℕ) (before : Out) (b : List ℕ) (after : Out) : Type 0 where
  pub area : b ≡ end_area a l
  pub lines : Writes before (added_parts (parts_of (effects_up_to a l (step_count l))) (written before)) after

-- the steps `l` made on an area `a`, and the lines of their effects put into `out`
pub record AllTraced (l a out : List ℕ) (r : ℕ) (b t : List ℕ) : Type 0 where
  pub area : b ≡ end_area a l
  pub lines : Leaves (added_parts (parts_of (effects_up_to a l (step_count l))) (gathered 0 out)) r t
