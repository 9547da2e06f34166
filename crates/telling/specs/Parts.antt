-- The parts of a step's line, in the order in which they are put.
use Rattle.std.specs.Prelude.{List, [], ◌∷◌, ◌++◌, map, ℕ, Option, Some, None}
use Rattle.slot.specs.Logs.{write_log}
use Rattle.slot.specs.declared.SlotRecord.{SlotRecord}
use Rattle.slot.specs.declared.WriteEntry.{WriteEntry}
use Rattle.line.specs.Line.{newline, field}
use Rattle.tally.specs.declared.Effect.{Effect}
use Rattle.tally.specs.declared.Effect.TheVariants.{Begun, Read, Reloaded, Committed, Aborted}
use Rattle.telling.specs.declared.Before.{Before}
use Rattle.tally.specs.Showing.{shown_by}

-- the parts of a step's line: the word; what follows the transaction's number, and of this the cells
abbrev pub word_parts : Effect → List (List ℕ)
word_parts Begun = (97 ∷ 116 ∷ []) ∷ []
word_parts Read = (114 ∷ []) ∷ []
word_parts Reloaded = (114 ∷ 108 ∷ []) ∷ []
word_parts Committed = (99 ∷ 111 ∷ []) ∷ []
word_parts Aborted = (97 ∷ 98 ∷ []) ∷ []

abbrev pub cell_parts : SlotRecord → List (List ℕ)
cell_parts v = map (λ (e : WriteEntry). field e.cell) (write_log v)

abbrev pub rest_parts : Effect → ℕ → SlotRecord → List (List ℕ)
rest_parts Begun cell v = []
rest_parts Read cell v = field cell ∷ []
rest_parts Reloaded cell v = []
rest_parts Committed cell v = field v.commit ∷ cell_parts v
rest_parts Aborted cell v = []

-- the word, slot and number and what follows them, each number with a space before it, the newline
abbrev pub line_parts : Effect → (slot number cell : ℕ) → SlotRecord → List (List ℕ)
line_parts effect slot number cell v = word_parts effect ++ (field slot ∷ []) ++ (field number ∷ []) ++ rest_parts effect cell v ++ ((newline ∷ []) ∷ [])

-- .. of what a step has shown, if anything
abbrev pub effect_parts : Option Effect → (slot number cell : ℕ) → SlotRecord → List (List ℕ)
effect_parts (Some effect) slot number cell v = line_parts effect slot number cell v
effect_parts None slot number cell v = []

-- .. of a step, by its number, its code and what its slot had before
abbrev pub step_parts : Before → (step code slot number cell : ℕ) → List (List ℕ)
step_parts before step code slot number cell = effect_parts (shown_by step code before.logged) slot number cell before.own
