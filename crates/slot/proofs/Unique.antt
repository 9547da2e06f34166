-- Each public function's contract leaves one answer: it says that the answer is one value.
use mathlib.Core.Bool.{Bool}
use mathlib.Core.Path.{◌≡◌}
use mathlib.Core.List.{List}
use Prim.Native.Nat.{ℕ}
use Rattle.wire.proofs.Unique.{unique}
use Rattle.slot.specs.Layout.{empty}
use Rattle.slot.specs.Logs.{has_mark}
use Rattle.slot.specs.Operations.{
  idled,
  begun,
  joined,
  written,
  closed,
  locked_one,
  entered,
  reloaded_with,
  ignoring_set,
  finished,
  published_one,
}
use Rattle.slot.specs.declared.ReadEntry.{ReadEntry}
use Rattle.slot.specs.declared.WriteEntry.{WriteEntry}
use Rattle.slot.specs.declared.SlotRecord.{SlotRecord}

pub empty-unique : (r₁ r₂ : SlotRecord) → r₁ ≡ empty → r₂ ≡ empty → r₁ ≡ r₂
empty-unique r₁ r₂ = unique

pub idled-unique : (v : SlotRecord) (r₁ r₂ : SlotRecord) → r₁ ≡ idled v → r₂ ≡ idled v → r₁ ≡ r₂
idled-unique v r₁ r₂ = unique

pub begun-unique : (v : SlotRecord) (start : ℕ) (r₁ r₂ : SlotRecord) → r₁ ≡ begun v start → r₂ ≡ begun v start → r₁ ≡ r₂
begun-unique v start r₁ r₂ = unique

pub joined-unique : (v : SlotRecord) (e : ReadEntry) (r₁ r₂ : SlotRecord) → r₁ ≡ joined v e → r₂ ≡ joined v e → r₁ ≡ r₂
joined-unique v e r₁ r₂ = unique

pub written-unique : (v : SlotRecord) (e : WriteEntry) (r₁ r₂ : SlotRecord) → r₁ ≡ written v e → r₂ ≡ written v e → r₁ ≡ r₂
written-unique v e r₁ r₂ = unique

pub closed-unique : (v : SlotRecord) (r₁ r₂ : SlotRecord) → r₁ ≡ closed v → r₂ ≡ closed v → r₁ ≡ r₂
closed-unique v r₁ r₂ = unique

pub locked-one-unique : (v : SlotRecord) (r₁ r₂ : SlotRecord) → r₁ ≡ locked_one v → r₂ ≡ locked_one v → r₁ ≡ r₂
locked-one-unique v r₁ r₂ = unique

pub entered-unique : (v : SlotRecord) (reads : List ReadEntry) (commit : ℕ) (r₁ r₂ : SlotRecord) → r₁ ≡ entered v reads commit → r₂ ≡ entered v reads commit → r₁ ≡ r₂
entered-unique v reads commit r₁ r₂ = unique

pub reloaded-unique : (v : SlotRecord) (reads : List ReadEntry) (commit : ℕ) (r₁ r₂ : SlotRecord) → r₁ ≡ reloaded_with v reads commit → r₂ ≡ reloaded_with v reads commit → r₁ ≡ r₂
reloaded-unique v reads commit r₁ r₂ = unique

pub ignoring-set-unique : (v : SlotRecord) (r₁ r₂ : SlotRecord) → r₁ ≡ ignoring_set v → r₂ ≡ ignoring_set v → r₁ ≡ r₂
ignoring-set-unique v r₁ r₂ = unique

pub finished-unique : (v : SlotRecord) (r₁ r₂ : SlotRecord) → r₁ ≡ finished v → r₂ ≡ finished v → r₁ ≡ r₂
finished-unique v r₁ r₂ = unique

pub published-one-unique : (v : SlotRecord) (r₁ r₂ : SlotRecord) → r₁ ≡ published_one v → r₂ ≡ published_one v → r₁ ≡ r₂
published-one-unique v r₁ r₂ = unique

pub some-marked-unique : (v : SlotRecord) (r₁ r₂ : Bool) → r₁ ≡ has_mark v → r₂ ≡ has_mark v → r₁ ≡ r₂
some-marked-unique v r₁ r₂ = unique
