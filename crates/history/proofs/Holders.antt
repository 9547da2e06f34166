-- Who holds a cell: where no other slot does, no other slot will write it late or owes it, so the replay up to any later stamp is the cell's own word.
use mathlib.Core.Bool.{Bool, true, false, false≢true}
use mathlib.Core.List.{List}
use mathlib.Core.Logic.{⊎_elim}
use mathlib.Core.Path.{◌≡◌, refl, sym, ◌∙◌}
use Prim.Native.Nat.{ℕ, suc, ◌<◌, ◌≤◌}
use native.Mathlib.Omega.{arith}
use lib.Dec.{ltb}
use lib.ListN.{length, get_or-eq_default}
use borrow.Author.Tests.{leb-true, eqb-true, ne_eqb, ltb-true, ltb-false}
use Rattle.slot.specs.declared.WriteEntry.{WriteEntry}
use Rattle.slot.proofs.Logic.{and_right}
use Rattle.rules.specs.declared.Cell.{Cell}
use Rattle.slot.specs.Logic.{◌and◌}
use Rattle.rules.specs.Model.{Model}
use Rattle.rules.specs.State.{State, Slot, idle, opened, locking, twilight, publishing, cell_count, cell_at, slot_at, no_cell}
use Rattle.rules.specs.Cells.{held_by_other}
use Rattle.rules.specs.LogsRight.{cell_right}
use Rattle.rules.specs.StateRight.{holds}
use Rattle.slot.specs.Logs.{writes_cell}
use Rattle.history.specs.History.{up_to}
use Rattle.history.proofs.Replay.{quiet}
use Rattle.history.proofs.Right.{Right}
use Rattle.history.proofs.Invariant.{LateWrite, Owes, Inv}

-- a late write and a debt are of cells that the slot holds
pub late-holds : (x : Slot) (b c : ℕ) → LateWrite x b c → holds x c ≡ true
unfolding holds
late-holds idle b c w = absurd w
late-holds (opened start reads writes) b c w = absurd w
late-holds (locking taken start reads writes) b c w = absurd w
late-holds (twilight ignoring start commit reads writes) b c w = w.1
late-holds (publishing ignoring taken start commit reads writes) b c w = absurd w

pub owes-holds : (x : Slot) (k c : ℕ) → Owes x k c → holds x c ≡ true
unfolding holds
owes-holds idle k c w = absurd w
owes-holds (opened start reads writes) k c w = absurd w
owes-holds (locking taken start reads writes) k c w = absurd w
owes-holds (twilight ignoring start commit reads writes) k c w = absurd w
owes-holds (publishing ignoring taken start commit reads writes) k c w = w.1

-- a slot that is not there holds nothing
beyond : (S : State) (s c : ℕ) → length S.slots ≤ s → holds (slot_at S s) c ≡ false
unfolding holds
beyond S s c h = rw (get_or-eq_default S.slots idle {n = s} h)

-- a holder that is nobody else
nobody-else : (i s : ℕ) (x : Cell) → held_by_other i x ≡ false → (s ≡ i → ⊥) → x.holder ≡ suc s → ⊥
unfolding held_by_other ◌and◌
nobody-else i s x free other e =
    let held : held_by_other i x ≡ true = rw (e, ne_eqb (suc s) 0 (λ z. omega arith), ne_eqb (suc s) (suc i) (λ z. other (omega arith))) in
    false≢true (sym free ∙ held)

module _ (M : Model) (S : State) (right : Right M S) where
  -- a slot that holds a cell is its holder
  pub is-holder : (s c : ℕ) → c < cell_count S → holds (slot_at S s) c ≡ true → (cell_at S c).holder ≡ suc s
  is-holder s c h held = by (ltb s M.slots) refl
    where
      by : (b : Bool) → ltb s M.slots ≡ b → (cell_at S c).holder ≡ suc s
      by true e = eqb-true _ _ (right.held c s h (ltb-true s M.slots e) ∙ held)
      by false e = absurd (false≢true (sym (beyond S s c (rw right.slot_count (ltb-false s M.slots e))) ∙ held))

  -- where nobody else holds the cell, no other slot does
  pub others-free : (i c : ℕ) → c < cell_count S → held_by_other i (cell_at S c) ≡ false → (s : ℕ) → (s ≡ i → ⊥) → holds (slot_at S s) c ≡ true → ⊥
  others-free i c h free s other held = nobody-else i s (cell_at S c) free other (is-holder s c h held)

  -- two slots do not hold one cell
  pub one-holder : (s t c : ℕ) → c < cell_count S → holds (slot_at S s) c ≡ true → holds (slot_at S t) c ≡ true → s ≡ t
  one-holder s t c h p q = let a = is-holder s c h p in let b = is-holder t c h q in omega arith

  -- a cell's stamp is at most the clock
  pub stamp-past : (c : ℕ) → (cell_at S c).stamp ≤ S.clock
  unfolding cell_right
  stamp-past c = by (ltb c (cell_count S)) refl
    where
      by : (b : Bool) → ltb c (cell_count S) ≡ b → (cell_at S c).stamp ≤ S.clock
      by true e = leb-true _ _ (and_right _ _ (right.cell c (ltb-true c (cell_count S) e)))
      by false e = rw (get_or-eq_default S.cells no_cell {n = c} (ltb-false c (cell_count S) e)) (omega arith)

module _ (begun : ℕ → ℕ) (M : Model) (logs : ℕ → List WriteEntry) (S : State) (inv : Inv begun M logs S) where
  -- no log above the cell's stamp writes it where nobody owes it
  pub no-later : (c : ℕ) → c < cell_count S → ((s k : ℕ) → Owes (slot_at S s) k c → ⊥) → (j : ℕ) → (cell_at S c).stamp < j → writes_cell (logs j) c ≡ false
  no-later c h paid j above = by (writes_cell (logs j) c) refl
    where
      by : (b : Bool) → writes_cell (logs j) c ≡ b → writes_cell (logs j) c ≡ false
      by false e = e
      by true e = absurd (⊎_elim (λ l. omega arith) (λ o. paid o.0 j o.1) (inv.last c j h e))

  pub cell-now : (b c : ℕ) → c < cell_count S → ((s k : ℕ) → Owes (slot_at S s) k c → ⊥) → (cell_at S c).stamp ≤ b → up_to logs begun b c ≡ (cell_at S c).word
  cell-now b c h paid past =
      quiet logs begun (cell_at S c).stamp b c past (λ j above below. no-later c h paid j above) ∙ inv.words c h
