-- The steps of a sheet and the lines of their effects, one after the other.
use mathlib.Core.List.{List, append-nil, map-map, flat_map}
use mathlib.Core.Path.{◌≡◌, refl, ◌∙◌}
use Prim.Native.Nat.{ℕ, ◌+◌, ◌/◌, ◌^◌}
use native.Mathlib.Numerals.{add-one}
use lib.ListN.{get_or}
use Rattle.std.specs.Prelude.{Option, Some, None}
use Rattle.slot.specs.Logs.{write_log}
use Rattle.slot.specs.declared.SlotRecord.{SlotRecord}
use Rattle.slot.specs.declared.WriteEntry.{WriteEntry}
use Rattle.crocktendril.specs.Contract.{Stepped}
use Rattle.crocktendril.proofs.Demands.{demand1}
use Rattle.apart.specs.Apart.{byte_at}
use Rattle.line.specs.Line.{field}
use Rattle.line.specs.declared.Out.{Out}
use Rattle.line.specs.Gather.{Gathered, added_parts, written, Writes}
use Rattle.line.proofs.Gather.{writes-both}
use Rattle.stage.specs.Calls.{call_of, call_at, area_after}
use Rattle.telling.specs.declared.Before.{Before}
use Rattle.tally.specs.declared.Numbers.{Numbers}
use Rattle.tally.specs.declared.Effect.{Effect}
use Rattle.tally.specs.declared.Effect.TheVariants.{Begun, Read, Reloaded, Committed, Aborted}
use Rattle.telling.specs.Looking.{looked_at}
use Rattle.tally.specs.Numbering.{numbers_after}
use Rattle.telling.specs.Parts.{effect_parts, step_parts}
use Rattle.effects.proofs.Flat.{both-flat}
use Rattle.effects.specs.Steps.{effect_by, parts_of, effect_on, numbers_at, effects_up_to, StepTraced}

-- the parts of a step's line are those of its effect
told-parts : (shown : Option Effect) (slot number cell : ℕ) (v : SlotRecord) → effect_parts shown slot number cell v ≡ parts_of (effect_by shown slot number cell v)
unfolding flat_map
told-parts (Some Begun) slot number cell v = refl
told-parts (Some Read) slot number cell v = refl
told-parts (Some Reloaded) slot number cell v = refl
told-parts (Some Committed) slot number cell v = rw (append-nil, map-map field (λ (e : WriteEntry). e.cell) (write_log v))
told-parts (Some Aborted) slot number cell v = refl
told-parts None slot number cell v = refl

-- one step: what was looked at before it, and its code
pub step-traced : (a bytes : List ℕ) (v : Numbers) (out : Out) {step slot cell r number : ℕ} {before : Before} {after : Numbers} {b : List ℕ} {told : Out}
    → step ≡ byte_at bytes 0 → slot ≡ byte_at bytes 1 → cell ≡ byte_at bytes 2 → before ≡ looked_at a slot cell → Stepped a (call_of bytes) r b
    → after ≡ numbers_after v step slot (r / 2 ^ 40) → number ≡ get_or after.last slot 0
    → Writes out (added_parts (step_parts before step (r / 2 ^ 40) slot number cell) (written out)) told
    → StepTraced a (call_of bytes) v out after b told
unfolding call_of effect_on
step-traced a bytes v out step slot cell looked made counted number lines =
    let code = demand1.code a (call_of bytes) _ _ made in
    record {
      area = made.bytes;
      numbers = rw (step, slot, code) at counted;
      lines = rw (told-parts, number, counted, looked, step, slot, cell, code) at lines;
    }

-- a turn of the loop
module _ (a l : List ℕ) (g : Gathered) (k : ℕ) {x y : List ℕ} {v w : Numbers} {out told : Out}
    (here : x ≡ area_after a l k) (numbers : v ≡ numbers_at a l k) (made : StepTraced x (call_at l k) v out w y told) where
  pub numbers-next : w ≡ numbers_at a l (k + 1)
  unfolding numbers_at
  numbers-next = rw (add-one k) (made.numbers ∙ rw (here, numbers))

  pub lines_next : {first : Out} → Writes first (added_parts (parts_of (effects_up_to a l k)) g) out → Writes first (added_parts (parts_of (effects_up_to a l (k + 1))) g) told
  unfolding effects_up_to numbers_at
  lines_next before =
      let then = rw (here, numbers) at made.lines in
      rw (add-one k, both-flat) (writes-both _ _ _ before then)
