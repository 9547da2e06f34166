-- What is looked at before a step.
use mathlib.Core.Bool.{Bool, false}
use mathlib.Core.List.{List, [], ◌∷◌}
use mathlib.Core.Option.{Option, none, some}
use mathlib.Core.Path.{◌≡◌, refl}
use Prim.Native.Nat.{ℕ, zero, suc, ◌+◌, ◌-◌, ◌*◌, ◌<◌, ◌≤◌}
use native.Mathlib.Numerals.{add-one, sub-one}
use native.Mathlib.Omega.{arith}
use borrow.Author.Tests.{eq-eqb, ne_eqb, le-leb, lt-leb}
use lib.ListN.{length, get_or, take}
use Rattle.std.specs.Prelude as code
use Rattle.std.specs.Prelude.{is_some, ◌||◌}
use Rattle.slot.specs.Layout.{empty}
use Rattle.slot.specs.Logic.{◌or◌, first}
use Rattle.slot.specs.Logs.{read_entry, write_entry, reads_cell, writes_cell, read_log, write_log}
use Rattle.slot.specs.Operations.{read_found, write_found}
use Rattle.slot.specs.declared.ReadEntry.{ReadEntry}
use Rattle.slot.specs.declared.SlotRecord.{SlotRecord}
use Rattle.slot.specs.declared.WriteEntry.{WriteEntry}
use Rattle.slot.proofs.Search.{read-lacks, read_has, write-lacks, write-has}
use Rattle.packed.specs.Places.{slot_in, with_writes_at, read_found_at}
use Rattle.telling.specs.Looking.{slot_start, looked_at}

-- a search through a log, entry by entry: what is left of it is looked at as all of it was
module _ (c : ℕ) where
  pub none-sought : (rest : List WriteEntry) (n : ℕ) → (0 < n → length rest ≡ 0) → code.None ≡ write_found (write_entry (take n rest) c)
  unfolding write_entry first
  none-sought rest zero h = refl
  none-sought [] (suc n) h = refl
  none-sought (e ∷ rest) (suc n) h = absurd (omega (arith, h (omega arith)))

  module _ {rest more : List WriteEntry} (e : WriteEntry) {n : ℕ} (left : ℕ) (cut : rest ≡ e ∷ more) (count : left + 1 ≡ n) where
    pub sought-here : e.cell ≡ c → code.Some e ≡ write_found (write_entry (take n rest) c)
    unfolding write_entry first
    sought-here same = rw (cut, ← count, add-one left, eq-eqb e.cell c same)

    pub sought-on : (e.cell ≡ c → ⊥) → write_entry (take left more) c ≡ write_entry (take n rest) c
    unfolding write_entry first
    sought-on other = rw (cut, ← count, add-one left, ne_eqb e.cell c other)

-- what two searches find is whether one of the logs has the cell
module _ (writes : List WriteEntry) (reads : List ReadEntry) (c : ℕ) where
  by-searches : (w : Option WriteEntry) (r : Option ReadEntry) → write_entry writes c ≡ w → read_entry reads c ≡ r
      → (is_some (write_found w) || is_some (read_found r)) ≡ (writes_cell writes c or reads_cell reads c)
  unfolding ◌or◌
  by-searches (some e) r p q = rw (write-has writes c e p)
  by-searches none (some e) p q = rw (write-lacks writes c p, read_has reads c e q)
  by-searches none none p q = rw (write-lacks writes c p, read-lacks reads c q)

  pub either-found : (is_some (write_found (write_entry writes c)) || is_some (read_found (read_entry reads c))) ≡ (writes_cell writes c or reads_cell reads c)
  either-found = by-searches (write_entry writes c) (read_entry reads c) refl refl

module _ (a : List ℕ) (slot cell : ℕ) {cells i at : ℕ} (count : cells ≡ get_or a 5 0) (place : i ≡ slot - 1) (start : at ≡ 14 + 14 * cells + 197 * i) where
  starts : at ≡ slot_start a slot
  starts = rw (start, count, place, sub-one)

  -- too short an area
  pub none-looked : {v : SlotRecord} → length a < at + 197 → v ≡ empty → record { logged = false; own = v } ≡ looked_at a slot cell
  unfolding looked_at
  none-looked h e = rw (e, lt-leb (slot_start a slot + 197) (length a) (omega (arith, starts)))

  pub looked : {w : code.Option WriteEntry} {r : code.Option ReadEntry} {b : Bool} {v : SlotRecord} → at + 197 ≤ length a → v ≡ with_writes_at 8 at a → w ≡ write_found (write_entry (write_log v) cell)
      → r ≡ read_found_at 8 at a cell → b ≡ (is_some w || is_some r) → record { logged = b; own = v } ≡ looked_at a slot cell
  unfolding looked_at
  looked h f p q e =
      rw (le-leb (slot_start a slot + 197) (length a) (omega (arith, starts)), ← starts, e, p, q, f, either-found (write_log (slot_in 8 at a)) (read_log (slot_in 8 at a)) cell)
