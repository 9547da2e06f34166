-- The clauses of a slot put together.
use mathlib.Core.Bool.{Bool, true}
use mathlib.Core.List.{List}
use mathlib.Core.Path.{◌≡◌, refl, sym}
use Prim.Native.Nat.{ℕ, ◌≤◌}
use native.Mathlib.Omega.{arith}
use borrow.Author.Tests.{leb-true}
use lib.ListN.{length}
use lib.Seq.{length-take-le}
use Rattle.slot.specs.declared.ReadEntry.{ReadEntry}
use Rattle.slot.specs.declared.WriteEntry.{WriteEntry}
use Rattle.slot.specs.Layout.{no_read, no_write, slot_of}
use Rattle.slot.specs.Logic.{◌and◌}
use Rattle.slot.proofs.Logic.{and_assoc, and_left, and_right}
use Rattle.rules.specs.Model.{controller}
use Rattle.rules.specs.Layout.{cells_in}
use Rattle.rules.proofs.LogFront.{front-inside}
use Rattle.rules.specs.LogsRight.{reads_right, writes_right}
use Rattle.rules.specs.AreaRight.{counts_right, busy_right, unused_zero}
use Rattle.bothlogs.specs.BothLogs.{Indexed}
use Rattle.logcheck.specs.Frame.{Framed}
use Rattle.logcheck.specs.Logged.{Counted, logs_right_in}
use Rattle.logcheck.specs.Marked.{marked_right}
use Rattle.packed.proofs.InLog.{reads_sized, writes-sized}
use Rattle.logcheck.proofs.Chains.{and_comm, and-swap}
use Rattle.logcheck.proofs.CellPlaces.{length-cells}
use Rattle.slotcheck.specs.SlotParts.{numbers_right, slot_no_update_lost}

-- right counts
pub counted : (l : List ℕ) → 197 ≤ length l → counts_right (slot_of 8 l) ≡ true → Counted l
unfolding counts_right slot_of
counted l h p = record { size = h; reads = leb-true _ _ (and_left _ _ p); writes = leb-true _ _ (and_right _ _ p) }

-- right logs have cells below n, and so below 64, and the write log ascends
pub indexed : (a l : List ℕ) (n : ℕ) → Framed n a → Counted l → logs_right_in a (slot_of 8 l) ≡ true → Indexed 8 0 l
unfolding logs_right_in reads_right writes_right slot_of
indexed a l n framed counted p =
    record {
      narrow = omega arith;
      size = counted.size;
      reads = counted.reads;
      writes = counted.writes;
      reads_below = λ k h.
          let below = front-inside (λ (e : ReadEntry). e.cell) (λ (e : ReadEntry). e.word) no_read (cells_in controller a) (slot_of 8 l).reads _ (slot_of 8 l).readcount
          refl (sym (length-take-le _ _ (rw (reads_sized 8 0 l) counted.reads))) (and_left _ _ (and_left _ _ p)) k h in
          omega (arith, length-cells n a framed, framed.many);
      writes_below = λ k h.
          let below = front-inside (λ (e : WriteEntry). e.cell) (λ (e : WriteEntry). e.word) no_write (cells_in controller a) (slot_of 8 l).writes _ (slot_of 8 l).writecount
          refl (sym (length-take-le _ _ (rw (writes-sized 8 0 l) counted.writes))) (and_left _ _ (and_right _ _ p)) k h in
          omega (arith, length-cells n a framed, framed.many);
      ascending = and_right _ _ (and_right _ _ p);
    }

-- a busy slot's clauses in the order of the code
abbrev pub in_code_order : List ℕ → ℕ → List ℕ → Bool
in_code_order a clock l =
    counts_right (slot_of 8 l)
    and logs_right_in a (slot_of 8 l)
    and numbers_right clock (slot_of 8 l)
    and unused_zero 8 l (slot_of 8 l)
    and marked_right l
    and slot_no_update_lost l

pub busy-order : (a : List ℕ) (clock : ℕ) (l : List ℕ) → in_code_order a clock l ≡ busy_right controller (cells_in controller a) clock l (slot_of 8 l)
unfolding busy_right logs_right_in numbers_right marked_right
busy-order a clock l = order _ _ _ _ _ _ _ _ _ _ _
  where
    order : (c r w s t k m i n f u : Bool)
        → (c and (r and w) and (s and t and k) and u and (m and i and f) and n) ≡ (c and r and w and s and t and k and m and i and n and f and u)
    order c r w s t k m i n f u = simp (and_assoc, and-swap, and_comm)
