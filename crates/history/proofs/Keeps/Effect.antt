-- What every accepted step does, from any state at all: it turns its own slot and no other, the clock does not fall, and it leaves the cells alone, or
-- replaces the one of an entry of its write log by one of the same kind, or frees what it holds.
use mathlib.Core.Path.{◌≡◌, refl, subst}
use mathlib.Core.List.{List}
use Prim.Native.Nat.{ℕ, ◌<◌, ◌≤◌}
use native.Mathlib.Omega.{arith}
use lib.ListN.{length, get_or, set, length-set}
use lib.Seq.{get_or-set_other}
use Rattle.call.specs.declared.Step.{Step}
use Rattle.call.specs.declared.Step.TheVariants.{Enter, Reload}
use Rattle.call.specs.declared.Answer.{Answer}
use Rattle.slot.specs.Layout.{no_write}
use Rattle.rules.specs.declared.Cell.{Cell}
use Rattle.rules.specs.Model.{Model}
use Rattle.rules.specs.State.{State, Slot, idle, cell_at, slot_at, turn, writes_of}
use Rattle.rules.specs.Cells.{free_all}
use Rattle.history.proofs.Move.{Move, began, read-written, read_again, read_first, wrote, closed, locked, entered, reread-done, updated, ask-done, reloading, ignored, nothing-to-ignore, aborted, committed, published, gave-up}
use Rattle.history.proofs.Keeps.Kinds.{SameKinds, kinds-same, kinds-set, kinds-free}
use Rattle.history.proofs.Keeps.Slots.{SlotHolds}

-- what becomes of the cells in a step of slot i
pub data Change (S : State) (i : ℕ) : List Cell → Type 0 where
  none-changed : Change S i S.cells
  one-changed : (c k : ℕ) (y : Cell) → c ≡ (get_or (writes_of (slot_at S i)) k no_write).cell → y.kind ≡ (cell_at S c).kind
      → (SlotHolds S.cells S.clock (slot_at S i) → k < length (writes_of (slot_at S i))) → Change S i (set S.cells c y)
  own-freed : Change S i (free_all i S.cells)

pub change-kinds : {S : State} {i : ℕ} {cells : List Cell} → Change S i cells → SameKinds S.cells cells
change-kinds {S} none-changed = kinds-same S.cells
change-kinds {S} (one-changed c k y e kind there) = kinds-set S.cells c y kind
change-kinds {S} {i} own-freed = kinds-free i S.cells

pub record Effect (S : State) (i : ℕ) (s : Step) (T : State) : Type 0 where
  pub clock_rises : S.clock ≤ T.clock
  pub clock_kept : (s ≡ Enter → ⊥) → (s ≡ Reload → ⊥) → T.clock ≡ S.clock
  pub change : Change S i T.cells
  pub slot_count : length T.slots ≡ length S.slots
  pub others : (j : ℕ) → (j ≡ i → ⊥) → slot_at T j ≡ slot_at S j

module _ (M : Model) (S : State) (i : ℕ) where
  turned : (s : Step) (clock : ℕ) (cells : List Cell) (x : Slot) → S.clock ≤ clock → ((s ≡ Enter → ⊥) → (s ≡ Reload → ⊥) → clock ≡ S.clock)
      → Change S i cells → Effect S i s (turn S i clock cells x)
  turned s clock cells x rises kept change =
      record {
        clock_rises = rises;
        clock_kept = kept;
        change = change;
        slot_count = length-set S.slots i x;
        others = λ j. get_or-set_other S.slots i j x idle;
      }

  -- the clock stays
  steady : (s : Step) (cells : List Cell) (x : Slot) → Change S i cells
      → Effect S i s (turn S i S.clock cells x)
  steady s cells x = turned s S.clock cells x (omega arith) (λ e n. refl)

  -- nothing changes
  stays : (s : Step) → Effect S i s S
  stays s =
      record {
        clock_rises = omega arith;
        clock_kept = λ e n. refl;
        change = none-changed;
        slot_count = refl;
        others = λ j n. refl;
      }

  pub effect : {s : Step} {r : Answer} {T : State} → Move M S i s r T → Effect S i s T
  effect (began x) = steady _ _ _ none-changed
  effect (read-written x h w) = stays _
  effect (read_again x h w r) = stays _
  effect (read_first x h w r room held new) = steady _ _ _ none-changed
  effect (wrote x fit room) = steady _ _ _ none-changed
  effect (closed x) = steady _ _ _ none-changed
  effect (locked {count = count} x more e free) = steady _ _ _ (one-changed _ count _ (rw x e) refl (λ h. rw x more))
  effect (entered x whole below) = turned _ _ _ _ (omega arith) (λ n m. absurd (n refl)) none-changed
  effect (reread-done e) = stays _
  effect (updated x fit found) = steady _ _ _ none-changed
  effect (ask-done e) = stays _
  effect (reloading x clear below) = turned _ _ _ _ (omega arith) (λ n m. absurd (m refl)) none-changed
  effect (ignored x free m) = steady _ _ _ none-changed
  effect nothing-to-ignore = stays _
  effect (aborted x m) = steady _ _ _ own-freed
  effect (committed x m) = steady _ _ _ none-changed
  effect (published {count = count} x e) = steady _ _ _ (one-changed _ count _ (rw (x, e)) refl (λ h. rw x (subst (SlotHolds S.cells S.clock) x h).1))
  effect (gave-up x) = steady _ _ _ own-freed
