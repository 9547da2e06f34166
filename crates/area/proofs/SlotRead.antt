-- What is read of a slot where it stands: in a well-formed area the bytes at a slot's offset are what the slot lays down.
use mathlib.Core.List.{List}
use mathlib.Core.Path.{◌≡◌, sym, ap, ◌∙◌}
use Prim.Native.Nat.{ℕ, ◌<◌}
use lib.ListN.{drop}
use Rattle.slot.specs.declared.SlotRecord.{SlotRecord}
use Rattle.slot.specs.Layout.{slot_of}
use Rattle.rules.specs.Model.{controller, slot_offset}
use Rattle.rules.specs.State.{slot_at}
use Rattle.rules.specs.Layout.{count_in, lay}
use Rattle.rules.proofs.RoundTrip.{right-but-holders}
use Rattle.rules.proofs.AreaKept.{record-kept}
use Rattle.area.specs.Good.{Good, state_in}

pub slot-of : {l : List ℕ} {i at : ℕ} → Good l → i < 8 → at ≡ slot_offset controller (count_in l) i → slot_of 8 (drop at l) ≡ lay (slot_at (state_in l) i)
slot-of {l} {i} good h place =
    ap (λ (k : ℕ). slot_of 8 (drop k l)) place ∙ sym (record-kept controller l good.bytes (right-but-holders controller l good.right) i h)

-- whatever is read of the record
pub read-of-slot : {A : Type 0} {r : A} (f : SlotRecord → A) {l : List ℕ} {i at : ℕ} → Good l → i < 8 → at ≡ slot_offset controller (count_in l) i
    → r ≡ f (slot_of 8 (drop at l)) → r ≡ f (lay (slot_at (state_in l) i))
read-of-slot f good h place read = read ∙ ap f (slot-of good h place)
