-- Each public function's contract leaves one answer, and one content of the area or of the buffer.
use mathlib.Core.List.{List}
use mathlib.Core.Path.{◌≡◌}
use Prim.Native.Nat.{ℕ}
use Rattle.std.specs.Prelude.{Result}
use Rattle.wire.proofs.Unique.{unique}
use Rattle.line.specs.Gather.{gathered, added, Leaves}
use Rattle.crocktendril.specs.Contract.{Stepped}
use Rattle.stage.specs.declared.TooShort.{TooShort}
use Rattle.stage.specs.declared.Ready.{Ready}
use Rattle.stage.specs.declared.Unready.{Unready}
use Rattle.stage.specs.Calls.{call_of}
use Rattle.stage.specs.First.{bad_sheet}
use Rattle.stage.specs.SetUp.{SetUp}
use Rattle.stage.specs.Printed.{Printed}

pub make-step-unique : (a l : List ℕ) (r₁ r₂ : ℕ) (a₁ a₂ : List ℕ) → Stepped a (call_of l) r₁ a₁ → Stepped a (call_of l) r₂ a₂ → (r₁ ≡ r₂) × (a₁ ≡ a₂)
make-step-unique a l r₁ r₂ a₁ a₂ p q = (unique p.answer q.answer, unique p.bytes q.bytes)

pub set-up-unique : (s a : List ℕ) (r₁ r₂ : Result Ready Unready) (a₁ a₂ : List ℕ) → SetUp s a r₁ a₁ → SetUp s a r₂ a₂ → (r₁ ≡ r₂) × (a₁ ≡ a₂)
set-up-unique s a r₁ r₂ a₁ a₂ p q = (unique p.answer q.answer, unique p.bytes q.bytes)

pub bad-sheet-unique : (out : List ℕ) (r₁ r₂ : ℕ) (t₁ t₂ : List ℕ) → Leaves (added (gathered 0 out) bad_sheet) r₁ t₁ → Leaves (added (gathered 0 out) bad_sheet) r₂ t₂
    → (r₁ ≡ r₂) × (t₁ ≡ t₂)
bad-sheet-unique out r₁ r₂ t₁ t₂ p q = (unique p.end q.end, unique p.bytes q.bytes)

-- of a run, whatever it prints
pub printed-unique : (most : ℕ) (text s a out : List ℕ) (r₁ r₂ : Result ℕ TooShort) (a₁ a₂ t₁ t₂ : List ℕ) → Printed most text s a out r₁ a₁ t₁ → Printed most text s a out r₂ a₂ t₂
    → (r₁ ≡ r₂) × (a₁ ≡ a₂) × (t₁ ≡ t₂)
printed-unique most text s a out r₁ r₂ a₁ a₂ t₁ t₂ p q = (unique p.answer q.answer, unique p.area q.area, unique p.bytes q.bytes)
