-- Each public function's contract leaves one answer and one buffer.
use mathlib.Core.List.{List}
use mathlib.Core.Path.{◌≡◌}
use Prim.Native.Nat.{ℕ}
use Rattle.wire.proofs.Unique.{unique}
use Rattle.std.specs.Prelude.{Option}
use Rattle.line.specs.declared.Out.{Out}
use Rattle.line.specs.Gather.{Puts, Gathered, Writes}

-- of `put_bytes`, `put_field`, `reply_line`, `cell_line` and `clock_line`, whatever the part that they put
pub puts-unique : (s : List ℕ) (at : ℕ) (part : List ℕ) (r₁ r₂ : Option ℕ) (t₁ t₂ : List ℕ) → Puts s at part r₁ t₁ → Puts s at part r₂ t₂ → (r₁ ≡ r₂) × (t₁ ≡ t₂)
puts-unique s at part r₁ r₂ t₁ t₂ p q = (unique p.answer q.answer, unique p.bytes q.bytes)

-- of the methods of `Out`, and of what calls them, whatever they put
pub writes-unique : (out : Out) (g : Gathered) (one two : Out) → Writes out g one → Writes out g two → (one.end ≡ two.end) × (one.bytes.now ≡ two.bytes.now)
writes-unique out g one two p q = (unique p.leaves.end q.leaves.end, unique p.leaves.bytes q.leaves.bytes)
