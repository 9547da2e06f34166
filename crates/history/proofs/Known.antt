-- The reads that a move makes known: a first read at its start, an unmarked entry at enter and every entry at reload just before the new stamp.
use mathlib.Core.Bool.{true, false}
use mathlib.Core.List.{List}
use mathlib.Core.Path.{◌≡◌, ◌∙◌}
use Prim.Native.Nat.{ℕ, suc, ◌<◌, ◌≤◌}
use native.Mathlib.Omega.{arith}
use lib.ListN.{length}
use borrow.Author.Tests.{ltb-true, ltb-false}
use Rattle.slot.specs.declared.ReadEntry.{ReadEntry}
use Rattle.slot.specs.declared.WriteEntry.{WriteEntry}
use Rattle.rules.specs.declared.Cell.{Cell}
use Rattle.slot.specs.Logic.{All}
use Rattle.rules.specs.Model.{Model}
use Rattle.rules.specs.State.{State, Slot, twilight, cell_count, cell_at, slot_at, turn}
use Rattle.rules.specs.Cells.{held_by_other, newer, with_mark}
use Rattle.rules.specs.LogsRight.{logged_right, reads_right}
use Rattle.slot.proofs.Logic.{and_left}
use Rattle.history.proofs.Keeps.Lists.{or-neither}
use Rattle.history.proofs.Invariant.{LateWrite, Owes, Settled, Inv, All-map, all-each}
use Rattle.history.proofs.Replay.{quiet}
use Rattle.history.proofs.Holders.{stamp-past, no-later, cell-now}
use Rattle.history.proofs.Turns.{paid, quiet-after}

-- the cells of a right read log are there
pub reads-inside : (cells : List Cell) (reads : List ReadEntry) → reads_right cells reads ≡ true → All (λ (e : ReadEntry). e.cell < length cells) reads
unfolding reads_right logged_right
reads-inside cells reads p =
    All-map (λ (e : ReadEntry). logged_right cells e.cell e.word ≡ true) (λ (e : ReadEntry). e.cell < length cells)
    (λ e q. ltb-true e.cell (length cells) (and_left _ _ q)) reads
    (all-each (λ (e : ReadEntry). logged_right cells e.cell e.word) reads (and_left _ _ p))

module _ (begun : ℕ → ℕ) (M : Model) (logs : ℕ → List WriteEntry) (S : State) (inv : Inv begun M logs S) (i : ℕ) (inside : i < length S.slots)
    (own : (k c : ℕ) → Owes (slot_at S i) k c → ⊥) where
  -- a first read is settled at the start
  pub first-settled : (start c : ℕ) (x : Slot) → ((b d : ℕ) → LateWrite x b d → ⊥) → start ≤ S.clock → c < cell_count S
      → held_by_other i (cell_at S c) ≡ false → newer start (cell_at S c) ≡ false
      → Settled begun logs (turn S i S.clock S.cells x) start c (cell_at S c).word
  unfolding newer
  first-settled start c x late begins h free old =
      record {
        replayed = cell-now begun M logs S inv start c h (paid begun M logs S inv i inside own c h free) (ltb-false start (cell_at S c).stamp old);
        past = begins;
        still = quiet-after begun M logs S inv i inside own c h free S.clock start S.cells x (late start c);
      }

  module _ (start : ℕ) (reads : List ReadEntry) (writes : List WriteEntry) where
    -- the slot in twilight with a new stamp does not write with a stamp up to the clock
    new-late : (c : ℕ) (entries : List ReadEntry) → LateWrite (twilight false start (suc S.clock) entries writes) S.clock c → ⊥
    new-late c entries w = let above = w.0 in omega arith

    -- an entry that enter leaves unmarked
    pub entered-settled : (entries : List ReadEntry) (e : ReadEntry) → e.cell < cell_count S → Settled begun logs S start e.cell e.word
        → (with_mark S i start e).mark ≡ false
        → Settled begun logs (turn S i (suc S.clock) S.cells (twilight false start (suc S.clock) entries writes)) S.clock e.cell e.word
    unfolding with_mark newer
    entered-settled entries e h known unmarked =
        let neither = or-neither (held_by_other i (cell_at S e.cell)) (newer start (cell_at S e.cell)) unmarked in
        let owed = paid begun M logs S inv i inside own e.cell h neither.0 in
        let old : (cell_at S e.cell).stamp ≤ start = ltb-false start (cell_at S e.cell).stamp neither.1 in
        record {
          replayed =
              quiet logs begun start S.clock e.cell known.past (λ j above below. no-later begun M logs S inv e.cell h owed j (omega arith))
              ∙ known.replayed;
          past = omega arith;
          still =
              quiet-after begun M logs S inv i inside own e.cell h neither.0 (suc S.clock) S.clock S.cells
              (twilight false start (suc S.clock) entries writes) (new-late e.cell entries);
        }

    -- an entry that reload gives its cell's present value
    pub reloaded-settled : (entries : List ReadEntry) (e : ReadEntry) → e.cell < cell_count S → held_by_other i (cell_at S e.cell) ≡ false
        → Settled begun logs (turn S i (suc S.clock) S.cells (twilight false start (suc S.clock) entries writes)) S.clock e.cell (cell_at S e.cell).word
    reloaded-settled entries e h free =
        record {
          replayed = cell-now begun M logs S inv S.clock e.cell h (paid begun M logs S inv i inside own e.cell h free) (stamp-past M S inv.right e.cell);
          past = omega arith;
          still =
              quiet-after begun M logs S inv i inside own e.cell h free (suc S.clock) S.clock S.cells
              (twilight false start (suc S.clock) entries writes) (new-late e.cell entries);
        }
