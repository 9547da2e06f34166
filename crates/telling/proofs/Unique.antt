-- Each public function's contract leaves one answer, and `put_line`'s one buffer.
use mathlib.Core.List.{List}
use mathlib.Core.Path.{◌≡◌}
use Prim.Native.Nat.{ℕ}
use Rattle.wire.proofs.Unique.{unique}
use Rattle.line.proofs.Unique.{writes-unique}
use Rattle.line.specs.declared.Out.{Out}
use Rattle.line.specs.Gather.{gathered, added_parts, Leaves, written, Writes}
use Rattle.telling.specs.declared.Before.{Before}
use Rattle.telling.specs.Looking.{looked_at}
use Rattle.telling.specs.Parts.{step_parts}

pub look-unique : (a : List ℕ) (slot cell : ℕ) (r₁ r₂ : Before) → r₁ ≡ looked_at a slot cell → r₂ ≡ looked_at a slot cell → r₁ ≡ r₂
look-unique a slot cell r₁ r₂ = unique

pub put-line-unique : (s : List ℕ) (at : ℕ) (before : Before) (step code slot number cell r₁ r₂ : ℕ) (t₁ t₂ : List ℕ)
    → Leaves (added_parts (step_parts before step code slot number cell) (gathered at s)) r₁ t₁
    → Leaves (added_parts (step_parts before step code slot number cell) (gathered at s)) r₂ t₂ → (r₁ ≡ r₂) × (t₁ ≡ t₂)
put-line-unique s at before step code slot number cell r₁ r₂ t₁ t₂ p q = (unique p.end q.end, unique p.bytes q.bytes)

-- .. of a writer
pub put-line-writes : (out : Out) (before : Before) (step code slot number cell : ℕ) (one two : Out)
    → Writes out (added_parts (step_parts before step code slot number cell) (written out)) one
    → Writes out (added_parts (step_parts before step code slot number cell) (written out)) two → (one.end ≡ two.end) × (one.bytes.now ≡ two.bytes.now)
put-line-writes out before step code slot number cell one two p q =
    writes-unique out (added_parts (step_parts before step code slot number cell) (written out)) one two p q
