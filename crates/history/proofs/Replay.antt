-- Laws of the replay: it sees of the write logs only which word each of them has for a cell, stamp by stamp.
use mathlib.Core.Bool.{Bool, true, false}
use mathlib.Core.List.{List}
use mathlib.Core.Option.{Option, none, some}
use mathlib.Core.Path.{◌≡◌, refl, sym, ◌∙◌, ap, ap₂}
use Prim.Native.Nat.{ℕ, zero, suc, ◌<◌, ◌≤◌}
use native.Mathlib.Omega.{arith}
use lib.Dec.{eqb}
use borrow.Author.Tests.{eqb-true, eqb-false}
use Rattle.slot.specs.declared.WriteEntry.{WriteEntry}
use Rattle.slot.specs.Logs.{write_entry, writes_cell}
use Rattle.history.specs.History.{word_or, up_to}
use Rattle.slot.proofs.Search.{none_of}

-- a log that lacks a cell has no word for it
pub lacks : (writes : List WriteEntry) (c : ℕ) → writes_cell writes c ≡ false → write_entry writes c ≡ none
unfolding writes_cell write_entry
lacks writes c = none_of (λ (e : WriteEntry). eqb e.cell c) writes

-- the replay is the same where the logs have the same word for the cell
pub up_to-same : (g h : ℕ → List WriteEntry) (begun : ℕ → ℕ) (b c : ℕ)
    → ((j : ℕ) → j ≤ b → write_entry (g j) c ≡ write_entry (h j) c) → up_to g begun b c ≡ up_to h begun b c
unfolding up_to
up_to-same g h begun zero c e = refl
up_to-same g h begun (suc b) c e = ap₂ word_or (e (suc b) (omega arith)) (up_to-same g h begun b c (λ j l. e j (omega arith)))

-- quiet: stamps above a that do not write the cell leave its word as it was up to a
pub quiet : (g : ℕ → List WriteEntry) (begun : ℕ → ℕ) (a b c : ℕ) → a ≤ b
    → ((j : ℕ) → a < j → j ≤ b → writes_cell (g j) c ≡ false) → up_to g begun b c ≡ up_to g begun a c
unfolding up_to
quiet g begun a zero c h q = let same : 0 ≡ a = omega arith in ap (λ (k : ℕ). up_to g begun k c) same
quiet g begun a (suc b) c h q = by (eqb a (suc b)) refl (λ l. quiet g begun a b c l (λ j above below. q j above (omega arith)))
  where
    by : (t : Bool) → eqb a (suc b) ≡ t → (a ≤ b → up_to g begun b c ≡ up_to g begun a c) → up_to g begun (suc b) c ≡ up_to g begun a c
    by true e earlier = ap (λ (k : ℕ). up_to g begun k c) (sym (eqb-true a (suc b) e))
    by false e earlier =
        let differs = eqb-false a (suc b) e in
        ap (λ (o : Option WriteEntry). word_or o (up_to g begun b c)) (lacks (g (suc b)) c (q (suc b) (omega (arith, differs)) (omega arith)))
        ∙ earlier (omega (arith, differs))

-- writer leaves: the stamp that writes the cell leaves what it wrote
pub writer-leaves : (g : ℕ → List WriteEntry) (begun : ℕ → ℕ) (k c : ℕ) (e : WriteEntry) → 0 < k → write_entry (g k) c ≡ some e → up_to g begun k c ≡ e.word
unfolding up_to
writer-leaves g begun zero c e h w = absurd (omega arith)
writer-leaves g begun (suc k) c e h w = ap (λ (o : Option WriteEntry). word_or o (up_to g begun k c)) w
