-- The moves that neither commit nor publish are turns: what each of them has to show of its slot, and that its reads are known after it.
use mathlib.Core.Bool.{Bool, true, false}
use mathlib.Core.List.{List}
use mathlib.Core.Path.{◌≡◌, refl, sym, ◌∙◌, subst}
use Prim.Native.Nat.{ℕ, suc, ◌<◌}
use native.Mathlib.Omega.{arith}
use lib.Dec.{eqb}
use lib.ListN.{length, get_or, set}
use borrow.Author.Tests.{eqb-true, eqb-false}
use Rattle.slot.specs.declared.ReadEntry.{ReadEntry}
use Rattle.slot.specs.declared.WriteEntry.{WriteEntry}
use Rattle.slot.specs.Logs.{writes_cell}
use Rattle.rules.specs.declared.Cell.{Cell}
use Rattle.rules.specs.Model.{Model}
use Rattle.rules.specs.State.{State, Slot, twilight, cell_count, cell_at, slot_at, no_cell, turn, commit_of}
use Rattle.rules.specs.Cells.{held_by_other, taken_by, freed, free_all}
use Rattle.rules.specs.StateRight.{holds}
use Rattle.history.proofs.Keeps.Lists.{set-each, cond-elim}
use Rattle.history.proofs.Keeps.Kinds.{free-cell}
use Rattle.history.proofs.Invariant.{LateWrite, Owes, LogKnown, Inv, turned}
use Rattle.history.proofs.Holders.{late-holds, owes-holds, others-free, stamp-past}
use Rattle.history.proofs.Turn.{Turn}

module _ (begun : ℕ → ℕ) (M : Model) (logs : ℕ → List WriteEntry) (S : State) (inv : Inv begun M logs S) (i : ℕ) (inside : i < length S.slots) where
  -- the slot was not publishing
  pub owed-by : (x : Slot) → slot_at S i ≡ x → ((k c : ℕ) → Owes x k c → ⊥) → (k c : ℕ) → Owes (slot_at S i) k c → ⊥
  owed-by x e nothing k c o = nothing k c (subst (λ (y : Slot). Owes y k c) e o)

  -- cells that keep word and stamp, and a slot that holds no stamp
  pub moved-turn : (cells : List Cell) (x : Slot) → length cells ≡ cell_count S
      → ((c : ℕ) → ((get_or cells c no_cell).word ≡ (cell_at S c).word) × ((get_or cells c no_cell).stamp ≡ (cell_at S c).stamp))
      → ((b c : ℕ) → LateWrite x b c → ⊥) → commit_of x ≡ 0 → LogKnown logs x → ((k c : ℕ) → Owes (slot_at S i) k c → ⊥)
      → Turn begun M logs S i S.clock cells x
  moved-turn cells x count same late unstamped log owed =
      record {
        inside = inside;
        rises = omega arith;
        count = count;
        same_word = λ c. (same c).0;
        same_stamp = λ c. (same c).1;
        late = λ b c h w. absurd (late b c w);
        owed_nothing = owed;
        log = log;
        later = λ c h. absurd (omega arith);
      }

  pub early-turn : (x : Slot) → ((b c : ℕ) → LateWrite x b c → ⊥) → commit_of x ≡ 0 → LogKnown logs x → ((k c : ℕ) → Owes (slot_at S i) k c → ⊥)
      → Turn begun M logs S i S.clock S.cells x
  early-turn x = moved-turn S.cells x refl (λ c. (refl, refl))

  -- in twilight with the same stamp and the same cells to write
  pub twilight-turn : (ignoring ignoring' : Bool) (start commit : ℕ) (reads : List ReadEntry) (writes writes' : List WriteEntry)
      → slot_at S i ≡ twilight ignoring start commit reads writes → ((c : ℕ) → writes_cell writes' c ≡ writes_cell writes c)
      → Turn begun M logs S i S.clock S.cells (twilight ignoring' start commit reads writes')
  unfolding holds
  twilight-turn ignoring ignoring' start commit reads writes writes' x same =
      record {
        inside = inside;
        rises = omega arith;
        count = refl;
        same_word = λ c. refl;
        same_stamp = λ c. refl;
        late = λ b c h w. subst (λ (y : Slot). LateWrite y b c) (sym x) (w.0, sym (same c) ∙ w.1);
        owed_nothing = owed-by (twilight ignoring start commit reads writes) x (λ k c o. o);
        log = subst (LogKnown logs) x (inv.slot_logs i);
        later = λ c h held.
            subst (λ (y : Slot). 0 < commit_of y → holds y c ≡ true → (cell_at S c).stamp < commit_of y) x (inv.later i c) h (sym (same c) ∙ held);
      }

  -- into twilight with a new stamp, one above the clock
  pub stamped-turn : (start : ℕ) (reads : List ReadEntry) (writes : List WriteEntry) → ((k c : ℕ) → Owes (slot_at S i) k c → ⊥)
      → Turn begun M logs S i (suc S.clock) S.cells (twilight false start (suc S.clock) reads writes)
  stamped-turn start reads writes owed =
      record {
        inside = inside;
        rises = omega arith;
        count = refl;
        same_word = λ c. refl;
        same_stamp = λ c. refl;
        late = λ b c h w. let above = w.0 in absurd (omega arith);
        owed_nothing = owed;
        log = inv.above (suc S.clock) (omega arith);
        later = λ c h held. let past = stamp-past M S inv.right c in omega arith;
      }

  -- the cell that a lock takes keeps its word and stamp, and so do those that are freed
  pub lock-data : (d c : ℕ) → ((get_or (set S.cells d (taken_by i (cell_at S d))) c no_cell).word ≡ (cell_at S c).word)
      × ((get_or (set S.cells d (taken_by i (cell_at S d))) c no_cell).stamp ≡ (cell_at S c).stamp)
  lock-data d =
      set-each (λ c (y : Cell). (y.word ≡ (cell_at S c).word) × (y.stamp ≡ (cell_at S c).stamp)) S.cells d (taken_by i (cell_at S d)) no_cell
      (refl, refl) (λ c. (refl, refl))

  pub free-data : (c : ℕ) → ((get_or (free_all i S.cells) c no_cell).word ≡ (cell_at S c).word) × ((get_or (free_all i S.cells) c no_cell).stamp ≡ (cell_at S c).stamp)
  free-data c =
      rw (free-cell i S.cells c)
      (cond-elim (λ (y : Cell). (y.word ≡ (cell_at S c).word) × (y.stamp ≡ (cell_at S c).stamp)) (eqb (cell_at S c).holder (suc i)) (freed (cell_at S c)) (cell_at S c)
      (λ e. (refl, refl)) (λ e. (refl, refl)))

  -- a cell that nobody else holds: nobody owes it, and after the turn no slot writes it late
  module _ (own : (k c : ℕ) → Owes (slot_at S i) k c → ⊥) (c : ℕ) (h : c < cell_count S) (free : held_by_other i (cell_at S c) ≡ false) where
    pub paid : (s k : ℕ) → Owes (slot_at S s) k c → ⊥
    paid s k o = by (eqb s i) refl
      where
        by : (b : Bool) → eqb s i ≡ b → ⊥
        by true e = own k c (subst (λ (t : ℕ). Owes (slot_at S t) k c) (eqb-true s i e) o)
        by false e = others-free M S inv.right i c h free s (eqb-false s i e) (owes-holds (slot_at S s) k c o)

    pub quiet-after : (clock b : ℕ) (cells : List Cell) (x : Slot) → (LateWrite x b c → ⊥) → (s : ℕ) → LateWrite (slot_at (turn S i clock cells x) s) b c → ⊥
    quiet-after clock b cells x late =
        turned (λ s y. LateWrite y b c → ⊥) S i clock cells x inside late
        (λ s other w. others-free M S inv.right i c h free s other (late-holds (slot_at S s) b c w))
