-- A phase asked of a slot's record is the phase of the slot, since a record gives back the slot that laid it down; what a step's row then says goes by the record's fields.
use mathlib.Core.Bool.{Bool}
use mathlib.Core.List.{List}
use mathlib.Core.Logic.{◌⊎◌, inl, inr}
use mathlib.Core.Path.{◌≡◌, refl, sym, ◌∙◌, ap}
use Prim.Native.Nat.{ℕ}
use lib.ListN.{length}
use Rattle.call.specs.declared.Refusal.{Refusal}
use Rattle.call.specs.declared.Refusal.TheVariants.{NotAllowed}
use Rattle.slot.specs.declared.ReadEntry.{ReadEntry}
use Rattle.slot.specs.declared.WriteEntry.{WriteEntry}
use Rattle.slot.specs.declared.SlotRecord.{SlotRecord}
use Rattle.slot.specs.Logs.{read_log, write_log, padded_writes, busy_record}
use Rattle.rules.specs.State.{Slot, idle, opened, locking, twilight, publishing}
use Rattle.rules.specs.Layout.{lay, view}
use Rattle.rules.specs.Outcome.{Outcome, refused, when_idle, when_open, when_locking, when_twilight, when_publishing, when_uncommitted}
use Rattle.ways.specs.Guard.{phase_number}
use Rattle.ways.specs.declared.Phase.{Phase}
use Rattle.ways.specs.declared.Phase.TheVariants.{Idle, Open, Locking, Twilight, Publishing}
use Rattle.rules.proofs.LayView.{view-lay, read-log, write-log}

-- a record that is made of its fields and its logs
abbrev from_parts : SlotRecord → SlotRecord
from_parts v = busy_record v.phase v.ignoring v.taken v.start v.commit (read_log v) (write_log v)

from_parts_lem : (x : Slot) → from_parts (lay x) ≡ lay x
from_parts_lem idle = refl
from_parts_lem (opened start reads writes) = rw (read-log (opened start reads writes), write-log (opened start reads writes))
from_parts_lem (locking taken start reads writes) = rw (read-log (opened start reads writes), write-log (opened start reads writes))
from_parts_lem (twilight ignoring start commit reads writes) = rw (read-log (opened start reads writes), write-log (opened start reads writes))
from_parts_lem (publishing ignoring taken start commit reads writes) = rw (read-log (opened start reads writes), write-log (opened start reads writes))

-- v is the record of the slot x
module _ (x : Slot) (v : SlotRecord) (here : v ≡ lay x) where
  slot-of : x ≡ view v
  slot-of = sym (view-lay x) ∙ ap view (sym here)

  pub is-idle : v.phase ≡ 0 → x ≡ idle
  unfolding view
  is-idle p = slot-of ∙ rw p

  pub is_open : v.phase ≡ 1 → x ≡ opened v.start (read_log v) (write_log v)
  unfolding view
  is_open p = slot-of ∙ rw p

  pub is-locking : v.phase ≡ 2 → x ≡ locking v.taken v.start (read_log v) (write_log v)
  unfolding view
  is-locking p = slot-of ∙ rw p

  pub is-twilight : v.phase ≡ 3 → x ≡ twilight v.ignoring v.start v.commit (read_log v) (write_log v)
  unfolding view
  is-twilight p = slot-of ∙ rw p

  pub is-publishing : v.phase ≡ 4 → x ≡ publishing v.ignoring v.taken v.start v.commit (read_log v) (write_log v)
  unfolding view
  is-publishing p = slot-of ∙ rw p

  -- a row that asks for an open slot, and one that asks for a slot in twilight
  pub when-open : v.phase ≡ 1 → (o : ℕ → List ReadEntry → List WriteEntry → Outcome) → when_open x o ≡ o v.start (read_log v) (write_log v)
  when-open p o = ap (λ (y : Slot). when_open y o) (is_open p)

  pub when-twilight : v.phase ≡ 3 → (o : Bool → ℕ → ℕ → List ReadEntry → List WriteEntry → Outcome)
      → when_twilight x o ≡ o v.ignoring v.start v.commit (read_log v) (write_log v)
  when-twilight p o = ap (λ (y : Slot). when_twilight y o) (is-twilight p)

  -- the logs are as long as the counts say, and unused entries are zero
  parts : from_parts v ≡ v
  parts = rw here (from_parts_lem x)

  pub read_count : length (read_log v) ≡ v.readcount
  read_count = ap (λ (u : SlotRecord). u.readcount) parts

  pub write-count : length (write_log v) ≡ v.writecount
  write-count = ap (λ (u : SlotRecord). u.writecount) parts

  pub unused-writes : v.writes ≡ padded_writes (write_log v)
  unused-writes = ap (λ (u : SlotRecord). u.writes) (sym parts)

-- the test of the phase, where it fails
abbrev Elsewhere : Slot → ℕ → Refusal → Type 0
Elsewhere x phase e = (e ≡ NotAllowed) × ((lay x).phase ≡ phase → ⊥)

-- a row in a slot of another phase than it asks for: it is refused as the test says
pub not-idle : (x : Slot) {e : Refusal} → Elsewhere x 0 e → (o : Outcome) → when_idle x o ≡ refused e
not-idle idle said o = absurd (said.1 refl)
not-idle (opened start reads writes) said o = ap refused (sym said.0)
not-idle (locking taken start reads writes) said o = ap refused (sym said.0)
not-idle (twilight ignoring start commit reads writes) said o = ap refused (sym said.0)
not-idle (publishing ignoring taken start commit reads writes) said o = ap refused (sym said.0)

pub not-open : (x : Slot) {e : Refusal} → Elsewhere x 1 e → (o : ℕ → List ReadEntry → List WriteEntry → Outcome) → when_open x o ≡ refused e
not-open idle said o = ap refused (sym said.0)
not-open (opened start reads writes) said o = absurd (said.1 refl)
not-open (locking taken start reads writes) said o = ap refused (sym said.0)
not-open (twilight ignoring start commit reads writes) said o = ap refused (sym said.0)
not-open (publishing ignoring taken start commit reads writes) said o = ap refused (sym said.0)

pub not-locking : (x : Slot) {e : Refusal} → Elsewhere x 2 e → (o : ℕ → ℕ → List ReadEntry → List WriteEntry → Outcome) → when_locking x o ≡ refused e
not-locking idle said o = ap refused (sym said.0)
not-locking (opened start reads writes) said o = ap refused (sym said.0)
not-locking (locking taken start reads writes) said o = absurd (said.1 refl)
not-locking (twilight ignoring start commit reads writes) said o = ap refused (sym said.0)
not-locking (publishing ignoring taken start commit reads writes) said o = ap refused (sym said.0)

pub not-twilight : (x : Slot) {e : Refusal} → Elsewhere x 3 e → (o : Bool → ℕ → ℕ → List ReadEntry → List WriteEntry → Outcome) → when_twilight x o ≡ refused e
not-twilight idle said o = ap refused (sym said.0)
not-twilight (opened start reads writes) said o = ap refused (sym said.0)
not-twilight (locking taken start reads writes) said o = ap refused (sym said.0)
not-twilight (twilight ignoring start commit reads writes) said o = absurd (said.1 refl)
not-twilight (publishing ignoring taken start commit reads writes) said o = ap refused (sym said.0)

pub not-publishing : (x : Slot) {e : Refusal} → Elsewhere x 4 e → (o : Bool → ℕ → ℕ → ℕ → List ReadEntry → List WriteEntry → Outcome) → when_publishing x o ≡ refused e
not-publishing idle said o = ap refused (sym said.0)
not-publishing (opened start reads writes) said o = ap refused (sym said.0)
not-publishing (locking taken start reads writes) said o = ap refused (sym said.0)
not-publishing (twilight ignoring start commit reads writes) said o = ap refused (sym said.0)
not-publishing (publishing ignoring taken start commit reads writes) said o = absurd (said.1 refl)

-- a slot that is committed or has nothing to give up, and any other
module _ (x : Slot) {phase : Phase} (there : phase_number phase ≡ (lay x).phase) where
  pub not-uncommitted : (phase ≡ Idle) ⊎ (phase ≡ Publishing) → (o : Outcome) → when_uncommitted x o ≡ refused NotAllowed
  not-uncommitted (inl e) o = ap (λ (y : Slot). when_uncommitted y o) (is-idle x _ refl (sym there ∙ ap phase_number e))
  not-uncommitted (inr e) o = ap (λ (y : Slot). when_uncommitted y o) (is-publishing x _ refl (sym there ∙ ap phase_number e))

  pub uncommitted : (phase ≡ Open) ⊎ ((phase ≡ Locking) ⊎ (phase ≡ Twilight)) → (o : Outcome) → when_uncommitted x o ≡ o
  uncommitted (inl e) o = ap (λ (y : Slot). when_uncommitted y o) (is_open x _ refl (sym there ∙ ap phase_number e))
  uncommitted (inr (inl e)) o = ap (λ (y : Slot). when_uncommitted y o) (is-locking x _ refl (sym there ∙ ap phase_number e))
  uncommitted (inr (inr e)) o = ap (λ (y : Slot). when_uncommitted y o) (is-twilight x _ refl (sym there ∙ ap phase_number e))
