-- Each step pays for 12 bytes. What a silent write or enter pays is kept as a credit of its slot, until the line of its commit is paid from it.
use mathlib.Core.Bool.{Bool, true, false≢true}
use mathlib.Core.List.{List, [], ◌∷◌}
use mathlib.Core.Path.{◌≡◌, refl, ap}
use Prim.Native.Nat.{ℕ, zero, suc, ◌+◌, ◌*◌, ◌<◌, ◌≤◌}
use native.Mathlib.Omega.{arith}
use lib.Dec.{ltb}
use lib.ListN.{length, get_or, set}
use Rattle.slot.specs.declared.ReadEntry.{ReadEntry}
use Rattle.slot.specs.declared.WriteEntry.{WriteEntry}
use Rattle.slot.specs.Logic.{all}
use Rattle.slot.proofs.Logic.{and_left, and_right}
use Rattle.rules.specs.declared.Cell.{Cell}
use Rattle.rules.specs.State.{State, Slot, idle, opened, locking, twilight, publishing, slot_at, turn}
use Rattle.rules.specs.StateRight.{is_idle}
use Rattle.rules.specs.Steps.{publishing_or_idle}
use Rattle.history.proofs.Keeps.Lists.{cond-elim}

-- what a slot has paid ahead: 3 bytes for each cell of its write log, and 3 for its enter; a commit has spent it
abbrev pub credit_of : Slot → ℕ
credit_of idle = 0
credit_of (opened start reads writes) = 3 * length writes
credit_of (locking taken start reads writes) = 3 * length writes
credit_of (twilight ignoring start commit reads writes) = 3 * length writes + 3
credit_of (publishing ignoring taken start commit reads writes) = 0

-- .. all slots together
unfoldable pub credit : List Slot → ℕ
credit [] = 0
credit (x ∷ slots) = credit_of x + credit slots

-- an idle slot has no credit, and so there is none at rest
idle-none : (x : Slot) → is_idle x ≡ true → credit_of x ≡ 0
idle-none idle p = refl
idle-none (opened start reads writes) p = absurd (false≢true p)
idle-none (locking taken start reads writes) p = absurd (false≢true p)
idle-none (twilight ignoring start commit reads writes) p = absurd (false≢true p)
idle-none (publishing ignoring taken start commit reads writes) p = refl

pub rest-none : (slots : List Slot) → all is_idle slots ≡ true → credit slots ≡ 0
unfolding credit all
rest-none [] p = refl
rest-none (x ∷ slots) p = omega (arith, idle-none x (and_left _ _ p), rest-none slots (and_right _ _ p))

-- publishing or idle, a slot has no credit
pub spent : (ignoring : Bool) (taken start commit : ℕ) (reads : List ReadEntry) (writes : List WriteEntry)
    → credit_of (publishing_or_idle ignoring taken start commit reads writes) ≡ 0
unfolding publishing_or_idle
spent ignoring taken start commit reads writes =
    cond-elim (λ (x : Slot). credit_of x ≡ 0) (ltb taken (length writes)) (publishing ignoring taken start commit reads writes) idle (λ h. refl) (λ h. refl)

-- one slot exchanged: the credit changes by the difference of the two
credit_set : (slots : List Slot) (i : ℕ) (x : Slot) → i < length slots → credit (set slots i x) + credit_of (get_or slots i idle) ≡ credit slots + credit_of x
unfolding credit
credit_set [] i x h = absurd (omega arith)
credit_set (y ∷ slots) zero x h = omega arith
credit_set (y ∷ slots) (suc i) x h = omega (arith, credit_set slots i x (omega arith))

-- a step from S to T that prints `bytes` bytes keeps to its 12, and raises the clock by one at most
pub record Pays (S : State) (bytes : ℕ) (T : State) : Type 0 where
  pub within : bytes + credit T.slots ≤ 12 + credit S.slots
  pub clock : T.clock ≤ suc S.clock

-- .. where nothing changes
pub stays : (S : State) (bytes : ℕ) → bytes ≤ 12 → Pays S bytes S
stays S bytes h = record { within = omega arith; clock = omega arith }

-- .. where slot i turns from y to x
pub turns : (S : State) (i bytes clock : ℕ) (cells : List Cell) (x y : Slot) → i < length S.slots → slot_at S i ≡ y → clock ≤ suc S.clock
    → bytes + credit_of x ≤ 12 + credit_of y → Pays S bytes (turn S i clock cells x)
turns S i bytes clock cells x y inside was later h =
    let old : credit_of (slot_at S i) ≡ credit_of y = ap credit_of was in
    record { within = omega (arith, credit_set S.slots i x inside); clock = later }
