-- Bytes that are right as a slot lose nothing: the record read off them is what the slot that it stands for lays down.
use mathlib.Core.Bool.{Bool, true, false, not, cond, false≢true}
use mathlib.Core.List.{List}
use mathlib.Core.Path.{◌≡◌, refl, sym, ◌∙◌}
use Prim.Native.Nat.{ℕ, zero, suc, ◌+◌, ◌*◌, ◌<◌, ◌≤◌}
use native.Mathlib.Omega.{arith}
use lib.Dec.{eqb, ltb, leb}
use lib.ListN.{get_or, drop}
use borrow.Author.Tests.{leb-true, eqb-true, le-ltb, ne_eqb}
use Rattle.wire.specs.Field.{Bytes}
use Rattle.wire.proofs.Laws.Table.{get_or-tab}
use Rattle.slot.specs.declared.SlotRecord.{SlotRecord}
use Rattle.slot.specs.Layout.{read_capacity, write_capacity, no_read, no_write, read_of, read_size, write_of, write_size, reads_at, writes_at, slot_size, empty, slot_of}
use Rattle.slot.specs.Fit.{Fitting, Flagged}
use Rattle.slot.proofs.RoundTrip.{slot-fits}
use Rattle.slot.specs.Logic.{◌or◌}
use Rattle.rules.specs.Model.{Model}
use Rattle.slot.specs.Logs.{some_marked, read_log}
use Rattle.rules.specs.Layout.{lay, view}
use Rattle.rules.specs.AreaRight.{zeros, counts_right, flags_right, unused_zero, taken_right, commit_right, marks_right, ignoring_right, busy_right, slot_place_right}
use Rattle.rules.specs.declared.Cell.{Cell}
use Rattle.slot.proofs.Logic.{and_left, and_right, or_right, every-at}
use Rattle.rules.proofs.LayView.{lay-view-1, lay-view-2, lay-view-3, lay-view-4}
use Rattle.rules.proofs.Zeros.{zeros-at, zero-read, zero-write, zero-slot}

-- the clauses that a busy slot's bytes meet and that concern what a record keeps
record Busy (w : ℕ) (clock : ℕ) (l : List ℕ) (v : SlotRecord) : Type 0 where
  counts : counts_right v ≡ true
  taken : taken_right v ≡ true
  commit : commit_right clock v ≡ true
  marks : marks_right v ≡ true
  ignoring : ignoring_right v ≡ true
  flags : flags_right w l ≡ true
  unused : unused_zero w l v ≡ true

-- the tail of a conjunction from its n-th part on
busy-parts : (M : Model) (cells : List Cell) (clock : ℕ) (l : List ℕ) (v : SlotRecord) → busy_right M cells clock l v ≡ true → Busy M.stamp_bytes clock l v
unfolding busy_right
busy-parts M cells clock l v p =
    let p1 = and_right _ _ p in
    let p2 = and_right _ _ p1 in
    let p3 = and_right _ _ p2 in
    let p4 = and_right _ _ p3 in
    let p5 = and_right _ _ p4 in
    let p6 = and_right _ _ p5 in
    let p7 = and_right _ _ p6 in
    let p8 = and_right _ _ p7 in
    let p9 = and_right _ _ p8 in
    record {
      counts = and_left _ _ p;
      taken = and_left _ _ p4;
      commit = and_left _ _ p5;
      marks = and_left _ _ p6;
      ignoring = and_left _ _ p7;
      flags = and_left _ _ p9;
      unused = and_right _ _ p9;
    }

pub flagged : (w : ℕ) (l : List ℕ) → flags_right w l ≡ true → Flagged w l
unfolding flags_right
flagged w l p =
    record {
      flag = leb-true _ _ (and_left _ _ p);
      marks = λ i h. leb-true _ _ (every-at read_capacity (λ j. leb (get_or l (reads_at w + read_size * j + 1) 0) 1) (and_right _ _ p) i h);
    }

-- without a mark there is no flag
no_flag : (ignoring marks : Bool) → not marks ≡ true → (not ignoring or marks) ≡ true → ignoring ≡ false
unfolding ◌or◌
no_flag true true m p = absurd (false≢true m)
no_flag true false m p = absurd (false≢true p)
no_flag false marks m p = refl

-- the branch that a failed test leaves
pick_no : (b x y : Bool) → b ≡ false → cond b x y ≡ true → y ≡ true
pick_no true x y e p = absurd (false≢true (sym e))
pick_no false x y e p = p

view-lay-empty : lay (view empty) ≡ empty
unfolding view
view-lay-empty = refl

le-of-eq-zero : {n : ℕ} → n ≡ 0 → n ≤ 1
le-of-eq-zero e = omega arith

module _ (M : Model) (cells : List Cell) (clock : ℕ) (l : List ℕ) (bytes : Bytes l) where
  module _ (b : Busy M.stamp_bytes clock l (slot_of M.stamp_bytes l)) where
    reads-zero : (i : ℕ) → (slot_of M.stamp_bytes l).readcount ≤ i → i < read_capacity → get_or (slot_of M.stamp_bytes l).reads i no_read ≡ no_read
    unfolding slot_of unused_zero
    reads-zero i past h =
        get_or-tab read_capacity (λ j. read_of (drop (reads_at M.stamp_bytes + read_size * j) l)) no_read i h
        ∙ zero-read (drop (reads_at M.stamp_bytes + read_size * i) l)
        (or_right _ _ (le-ltb i (get_or l 3 0) past)
        (every-at read_capacity (λ j. ltb j (get_or l 3 0) or zeros read_size (drop (reads_at M.stamp_bytes + read_size * j) l)) (and_left _ _ b.unused) i h))

    writes-zero : (i : ℕ) → (slot_of M.stamp_bytes l).writecount ≤ i → i < write_capacity → get_or (slot_of M.stamp_bytes l).writes i no_write ≡ no_write
    unfolding slot_of unused_zero
    writes-zero i past h =
        get_or-tab write_capacity (λ j. write_of (drop (writes_at M.stamp_bytes + write_size * j) l)) no_write i h
        ∙ zero-write (drop (writes_at M.stamp_bytes + write_size * i) l)
        (or_right _ _ (le-ltb i (get_or l 4 0) past)
        (every-at write_capacity (λ j. ltb j (get_or l 4 0) or zeros write_size (drop (writes_at M.stamp_bytes + write_size * j) l)) (and_right _ _ b.unused) i h))

    -- before phase 3 there is no mark, and so no flag
    early : leb 3 (slot_of M.stamp_bytes l).phase ≡ false → (slot_of M.stamp_bytes l).ignoring ≡ false
    unfolding marks_right ignoring_right
    early p = no_flag (slot_of M.stamp_bytes l).ignoring (some_marked (read_log (slot_of M.stamp_bytes l))) (or_right _ _ p b.marks) (and_left _ _ b.ignoring)

    busy-kept : (phase : ℕ) → (slot_of M.stamp_bytes l).phase ≡ suc phase → phase < 4 → lay (view (slot_of M.stamp_bytes l)) ≡ slot_of M.stamp_bytes l
    unfolding counts_right taken_right commit_right
    busy-kept phase e below = by-phase phase e below
      where
        fit : Fitting M.stamp_bytes (slot_of M.stamp_bytes l)
        fit = slot-fits M.stamp_bytes l bytes

        reads_fit : (slot_of M.stamp_bytes l).readcount ≤ read_capacity
        reads_fit = leb-true _ _ (and_left _ _ b.counts)

        writes_fit : (slot_of M.stamp_bytes l).writecount ≤ write_capacity
        writes_fit = leb-true _ _ (and_right _ _ b.counts)

        by-phase : (phase : ℕ) → (slot_of M.stamp_bytes l).phase ≡ suc phase → phase < 4 → lay (view (slot_of M.stamp_bytes l)) ≡ slot_of M.stamp_bytes l
        by-phase zero e h =
            lay-view-1 (slot_of M.stamp_bytes l) fit.reads_length fit.writes_length reads_fit writes_fit reads-zero writes-zero
            e (early (rw e)) (eqb-true _ _ (rw e at b.taken)) (eqb-true _ _ (rw e at b.commit))
        by-phase (suc zero) e h =
            lay-view-2 (slot_of M.stamp_bytes l) fit.reads_length fit.writes_length reads_fit writes_fit reads-zero writes-zero
            e (early (rw e)) (eqb-true _ _ (rw e at b.commit))
        by-phase (suc (suc zero)) e h =
            lay-view-3 (slot_of M.stamp_bytes l) fit.reads_length fit.writes_length reads_fit writes_fit reads-zero writes-zero
            e (eqb-true _ _ (rw e at b.taken))
        by-phase (suc (suc (suc zero))) e h =
            lay-view-4 (slot_of M.stamp_bytes l) fit.reads_length fit.writes_length reads_fit writes_fit reads-zero writes-zero e
        by-phase (suc (suc (suc (suc phase)))) e h = absurd (omega arith)

  -- right bytes are laid down again by the slot that they stand for, and their flags are 0 or 1
  pub slot_kept : slot_place_right M cells clock l ≡ true → (lay (view (slot_of M.stamp_bytes l)) ≡ slot_of M.stamp_bytes l) × Flagged M.stamp_bytes l
  unfolding slot_place_right
  slot_kept p = by-phase (slot_of M.stamp_bytes l).phase refl
    where
      right : cond (eqb (slot_of M.stamp_bytes l).phase 0) (zeros (slot_size M.stamp_bytes) l) (busy_right M cells clock l (slot_of M.stamp_bytes l)) ≡ true
      right = and_right _ _ p

      legal : (slot_of M.stamp_bytes l).phase ≤ 4
      legal = leb-true _ _ (and_left _ _ p)

      all-zero : zeros (slot_size M.stamp_bytes) l ≡ true → (lay (view (slot_of M.stamp_bytes l)) ≡ slot_of M.stamp_bytes l) × Flagged M.stamp_bytes l
      all-zero z = (
        rw (zero-slot M.stamp_bytes l z) (view-lay-empty),
        record {
          flag = le-of-eq-zero (zeros-at _ l z 1 (omega arith));
          marks = λ i h. le-of-eq-zero (zeros-at _ l z (reads_at M.stamp_bytes + read_size * i + 1) (omega arith));
        },
      )

      by-phase : (phase : ℕ) → (slot_of M.stamp_bytes l).phase ≡ phase → (lay (view (slot_of M.stamp_bytes l)) ≡ slot_of M.stamp_bytes l) × Flagged M.stamp_bytes l
      by-phase zero e = all-zero (rw e at right)
      by-phase (suc phase) e =
          let b = busy-parts M cells clock l (slot_of M.stamp_bytes l) (pick_no _ _ _ (ne_eqb (slot_of M.stamp_bytes l).phase 0 (λ z. omega arith)) right) in
          (busy-kept b phase e (omega (arith, legal)), flagged M.stamp_bytes l b.flags)
