-- A state in which one slot has turned is well formed if that slot, its cells and its stamp are right: nothing else of the state is asked again.
use mathlib.Core.Bool.{Bool, true}
use mathlib.Core.List.{List}
use mathlib.Core.Path.{◌≡◌, refl, sym, ◌∙◌}
use Prim.Native.Nat.{ℕ, suc, ◌<◌, ◌≤◌}
use native.Mathlib.Omega.{arith}
use lib.Dec.{eqb, ltb}
use lib.ListN.{length, get_or, set, length-set}
use borrow.Author.Tests.{leb-true, le-leb}
use Rattle.slot.specs.declared.ReadEntry.{ReadEntry}
use Rattle.slot.specs.declared.WriteEntry.{WriteEntry}
use Rattle.rules.specs.declared.Cell.{Cell}
use Rattle.rules.specs.Model.{Model, last_stamp}
use Rattle.rules.specs.State.{State, Slot, idle, publishing, cell_count, cell_at, slot_at, turn, commit_of, no_cell}
use Rattle.rules.specs.LogsRight.{cell_right}
use Rattle.rules.specs.StateRight.{slot_right, holds}
use Rattle.rules.specs.Steps.{publishing_or_idle}
use Rattle.slot.proofs.Logic.{and_intro, and_left, and_right}
use Rattle.history.proofs.Right.{Right}
use Rattle.history.proofs.Keeps.Lists.{cond-elim, set-elim}
use Rattle.history.proofs.Keeps.Kinds.{SameKinds, kinds-same}
use Rattle.history.proofs.Keeps.Slots.{SlotHolds, slot-holds, slot-right, slot_kept, commit-given}

-- its commit stamp is no other slot's
abbrev pub StampApart : State → ℕ → Slot → Type 0
StampApart S i x = (s : ℕ) → (s ≡ i → ⊥) → commit_of x ≡ commit_of (slot_at S s) → commit_of x ≡ 0

pub record Turned (M : Model) (S : State) (i clock : ℕ) (cells : List Cell) (x : Slot) : Type 0 where
  pub rises : S.clock ≤ clock
  pub last : clock ≤ last_stamp M
  pub kinds : SameKinds S.cells cells
  pub cell : (c : ℕ) → c < cell_count S → cell_right clock (get_or cells c no_cell) ≡ true
  pub holder : (c : ℕ) → (get_or cells c no_cell).holder ≤ M.slots
  pub slot : SlotHolds S.cells clock x
  pub apart : StampApart S i x
  -- it holds what it has to hold, and of the other slots' cells none is taken or freed
  pub mine : (c : ℕ) → c < cell_count S → eqb (get_or cells c no_cell).holder (suc i) ≡ holds x c
  pub others : (c s : ℕ) → c < cell_count S → (s ≡ i → ⊥) → eqb (get_or cells c no_cell).holder (suc s) ≡ eqb (cell_at S c).holder (suc s)

-- each slot is right
pub slot-now : (M : Model) (S : State) → Right M S → (s : ℕ) → SlotHolds S.cells S.clock (slot_at S s)
slot-now M S right s = slot-holds S.cells S.clock (slot_at S s) (right.slot s)

module _ (M : Model) (S : State) (right : Right M S) (i : ℕ) (inside : i < M.slots) where
  there : i < length S.slots
  there = rw right.slot_count inside

  -- what holds of the slot that turned, and of each other one, holds of each slot
  each-slot : (P : ℕ → Slot → Type 0) (x : Slot) → P i x → ((s : ℕ) → (s ≡ i → ⊥) → P s (slot_at S s)) → (s : ℕ) → P s (get_or (set S.slots i x) s idle)
  each-slot P x = set-elim P S.slots i x idle there

  module _ (clock : ℕ) (cells : List Cell) (x : Slot) (t : Turned M S i clock cells x) where
    slots-right : (s : ℕ) → slot_right cells clock (get_or (set S.slots i x) s idle) ≡ true
    slots-right =
        each-slot (λ s y. slot_right cells clock y ≡ true) x
        (slot-right cells clock x (slot_kept S.cells cells clock clock t.kinds (omega arith) x t.slot))
        (λ s n.
        slot-right cells clock (slot_at S s)
        (slot_kept S.cells cells S.clock clock t.kinds t.rises (slot_at S s) (slot-now M S right s)))

    stamps-apart : (s u : ℕ) → (s ≡ u → ⊥) → commit_of (get_or (set S.slots i x) s idle) ≡ commit_of (get_or (set S.slots i x) u idle)
        → commit_of (get_or (set S.slots i x) s idle) ≡ 0
    stamps-apart =
        each-slot (λ s y. (u : ℕ) → (s ≡ u → ⊥) → commit_of y ≡ commit_of (get_or (set S.slots i x) u idle) → commit_of y ≡ 0) x
        (each-slot (λ u z. (i ≡ u → ⊥) → commit_of x ≡ commit_of z → commit_of x ≡ 0) x (λ n e. absurd (n refl)) (λ u n m. t.apart u n))
        (λ s n.
        each-slot (λ u z. (s ≡ u → ⊥) → commit_of (slot_at S s) ≡ commit_of z → commit_of (slot_at S s) ≡ 0) x (λ m e. e ∙ t.apart s n (sym e))
        (λ u m. right.apart s u))

    pub turn-right : Right M (turn S i clock cells x)
    turn-right =
        record {
          clock_last = t.last;
          slot_count = length-set S.slots i x ∙ right.slot_count;
          cell_count_fits = rw t.kinds.count right.cell_count_fits;
          cell = λ c h. t.cell c (rw t.kinds.count at h);
          holder_slot = t.holder;
          slot = slots-right;
          apart = stamps-apart;
          held = λ c s h b.
              let h' : c < cell_count S = rw t.kinds.count at h in
              each-slot (λ s y. s < M.slots → eqb (get_or cells c no_cell).holder (suc s) ≡ holds y c) x (λ b'. t.mine c h')
              (λ u n b'. t.others c u h' n ∙ right.held c u h' b') s b;
        }

  -- so it is of a slot that keeps its commit stamp, of one with a stamp above the clock, and of one that goes on publishing or turns idle
  pub keeps-stamp : (x : Slot) → commit_of x ≡ commit_of (slot_at S i) → StampApart S i x
  keeps-stamp x k s n e = k ∙ right.apart i s (λ q. n (sym q)) (sym k ∙ e)

  pub new-stamp : (k : ℕ) → S.clock < k → (s : ℕ) → (s ≡ i → ⊥) → k ≡ commit_of (slot_at S s) → k ≡ 0
  new-stamp k above s n e =
      absurd (omega (arith, commit-given S.cells S.clock (slot_at S s) (slot-now M S right s)))

  pub owing-stamp : (ignoring : Bool) (k start commit : ℕ) (reads : List ReadEntry) (writes : List WriteEntry) → commit ≡ commit_of (slot_at S i)
      → StampApart S i (publishing_or_idle ignoring k start commit reads writes)
  unfolding publishing_or_idle
  owing-stamp ignoring k start commit reads writes e =
      cond-elim (StampApart S i) (ltb k (length writes)) _ _ (λ h. keeps-stamp (publishing ignoring k start commit reads writes) e) (λ h s n q. refl)

  cell-later : (clock : ℕ) → S.clock ≤ clock → (c : ℕ) → c < cell_count S → cell_right clock (cell_at S c) ≡ true
  unfolding cell_right
  cell-later clock rises c h =
      let p = right.cell c h in
      and_intro _ _ (and_left _ _ p) (le-leb (cell_at S c).stamp clock (omega (arith, leb-true (cell_at S c).stamp S.clock (and_right _ _ p))))

  -- no cell changes, and the slot goes on holding what it held
  pub still : (clock : ℕ) (x : Slot) → S.clock ≤ clock → clock ≤ last_stamp M → SlotHolds S.cells clock x
      → StampApart S i x → ((c : ℕ) → holds x c ≡ holds (slot_at S i) c)
      → Right M (turn S i clock S.cells x)
  still clock x rises last slot apart same =
      turn-right clock S.cells x
      (record {
        rises = rises;
        last = last;
        kinds = kinds-same S.cells;
        cell = cell-later clock rises;
        holder = right.holder_slot;
        slot = slot;
        apart = apart;
        mine = λ c h. right.held c i h inside ∙ sym (same c);
        others = λ c s h n. refl;
      })
