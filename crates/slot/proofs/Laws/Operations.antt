-- The operations on a busy slot's record, in terms of its logs. A log fills the front of its array and the rest is unused, so that the log is read back from
-- the array, and an entry put into the array is put into the log.
use mathlib.Core.Bool.{Bool, true, false, not, cond, false≢true}
use mathlib.Core.List.{List, [], ◌∷◌, ◌++◌}
use mathlib.Core.Path.{◌≡◌, refl, sym, ap}
use Prim.Native.Nat.{ℕ, suc, ◌+◌, ◌-◌, ◌<◌, ◌≤◌}
use native.Mathlib.Numerals.{add-one}
use native.Mathlib.Omega.{arith}
use lib.Dec.{eqb, leb, ltb}
use lib.ListN.{length, replicate, length-append}
use lib.Seq.{take-append_seam}
use borrow.Author.Tests.{ltb-true, leb-false, eqb-true, eqb-false, lt-ltb, ne_eqb}
use Rattle.slot.specs.Layout.{read_capacity, write_capacity, no_read, no_write, empty}
use Rattle.slot.specs.Logic.{◌and◌, ◌or◌, any, all, pairwise}
use Rattle.slot.specs.Logs.{padded_reads, padded_writes, read_log, write_log, busy_record, put_write, writes_cell}
use Rattle.slot.specs.Operations.{with_reads, with_writes, Writable, joined, written, locked_one, entered, reloaded_with, ignoring_set, finished, published_one}
use Rattle.slot.specs.declared.ReadEntry.{ReadEntry}
use Rattle.slot.specs.declared.WriteEntry.{WriteEntry}
use Rattle.slot.proofs.Logic.{and_left, and_right, true-and, or_right}
use Rattle.slot.proofs.Padding.{padded-next}

module _ (phase : ℕ) (ignoring : Bool) (taken start commit : ℕ) (reads : List ReadEntry) (writes : List WriteEntry) where
  -- its logs
  pub busy-read_log : read_log (busy_record phase ignoring taken start commit reads writes) ≡ reads
  busy-read_log = take-append_seam reads (replicate (read_capacity - length reads) no_read)

  pub busy-write_log : write_log (busy_record phase ignoring taken start commit reads writes) ≡ writes
  busy-write_log = take-append_seam writes (replicate (write_capacity - length writes) no_write)

  -- read and write
  pub busy-joined : (e : ReadEntry) → length reads < read_capacity
      → joined (busy_record phase ignoring taken start commit reads writes) e ≡ busy_record phase ignoring taken start commit (reads ++ (e ∷ [])) writes
  busy-joined e h =
      let count : length reads + 1 ≡ length (reads ++ (e ∷ [])) = sym (length-append reads (e ∷ [])) in
      let entries = padded-next no_read reads read_capacity e h in
      λ i. with_reads (busy_record phase ignoring taken start commit reads writes) (count i) (entries i)

  pub busy-writable : (e : WriteEntry) → length writes ≤ write_capacity → pairwise (λ (x y : WriteEntry). ltb x.cell y.cell) writes ≡ true
      → length (put_write e writes) ≤ write_capacity → Writable (busy_record phase ignoring taken start commit reads writes) e
  busy-writable e h up k =
      record { counted = h; unused = sym (ap padded_writes busy-write_log); ascending = rw busy-write_log up; room = rw busy-write_log k }

  pub busy-written : (e : WriteEntry)
      → written (busy_record phase ignoring taken start commit reads writes) e ≡ busy_record phase ignoring taken start commit reads (put_write e writes)
  busy-written e =
      ap (λ (l : List WriteEntry). with_writes (busy_record phase ignoring taken start commit reads writes) (length (put_write e l)) (padded_writes (put_write e l)))
      busy-write_log

  -- the phases
  pub busy-locked : locked_one (busy_record phase ignoring taken start commit reads writes) ≡ busy_record phase ignoring (suc taken) start commit reads writes
  busy-locked = ap (λ (k : ℕ). busy_record phase ignoring k start commit reads writes) (add-one taken)

  module _ (entries : List ReadEntry) (stamp : ℕ) (as_many : length entries ≡ length reads) where
    pub busy-entered : entered (busy_record phase ignoring taken start commit reads writes) (padded_reads entries) stamp
        ≡ busy_record 3 ignoring 0 start stamp entries writes
    busy-entered = λ i. with_reads (busy_record 3 ignoring 0 start stamp reads writes) (sym as_many i) (padded_reads entries)

    pub busy-reloaded : reloaded_with (busy_record phase ignoring taken start commit reads writes) (padded_reads entries) stamp
        ≡ busy_record phase false taken start stamp entries writes
    busy-reloaded = λ i. with_reads (busy_record phase false taken start stamp reads writes) (sym as_many i) (padded_reads entries)

  pub busy-ignoring : ignoring_set (busy_record phase ignoring taken start commit reads writes) ≡ busy_record phase true taken start commit reads writes
  busy-ignoring = refl

  -- publishing while a cell is unpublished, else idle
  pub busy-finished : finished (busy_record phase ignoring taken start commit reads writes)
      ≡ cond (ltb 0 (length writes)) (busy_record 4 ignoring taken start commit reads writes) empty
  unfolding finished
  busy-finished = by writes
    where
      by : (l : List WriteEntry) → cond (eqb (length l) 0) empty (busy_record 4 ignoring taken start commit reads writes)
          ≡ cond (ltb 0 (length l)) (busy_record 4 ignoring taken start commit reads writes) empty
      by [] = refl
      by (x ∷ l) = rw (ne_eqb (suc (length l)) 0 (λ same. omega arith), lt-ltb 0 (suc (length l)) (omega arith))

  pub busy-published : published_one (busy_record phase ignoring taken start commit reads writes)
      ≡ cond (ltb (suc taken) (length writes)) (busy_record phase ignoring (suc taken) start commit reads writes) empty
  unfolding published_one
  busy-published =
      ap (λ (k : ℕ). cond (ltb k (length writes)) (busy_record phase ignoring k start commit reads writes) empty) (add-one taken)

-- an entry put into a write log makes it longer by one at most
pub put-length : (e : WriteEntry) (writes : List WriteEntry) → length (put_write e writes) ≤ suc (length writes)
unfolding put_write
put-length e [] = omega arith
put-length e (x ∷ writes) = by (ltb e.cell x.cell) (eqb e.cell x.cell) (put-length e writes)
  where
    by : (lower same : Bool) → length (put_write e writes) ≤ suc (length writes)
        → length (cond lower (e ∷ x ∷ writes) (cond same (e ∷ writes) (x ∷ put_write e writes))) ≤ suc (suc (length writes))
    by true same h = omega arith
    by false true h = omega arith
    by false false h = omega arith

-- a cell that stands in an ascending log is above each cell before it
above : (x c : ℕ) (writes : List WriteEntry) → all (λ (f : WriteEntry). ltb x f.cell) writes ≡ true → writes_cell writes c ≡ true → x < c
unfolding all any writes_cell
above x c [] p q = absurd (false≢true q)
above x c (f ∷ writes) p q =
    by (eqb f.cell c) refl (above x c writes (and_right (ltb x f.cell) (all (λ (g : WriteEntry). ltb x g.cell) writes) p)) q
  where
    by : (b : Bool) → eqb f.cell c ≡ b → (writes_cell writes c ≡ true → x < c) → (b or writes_cell writes c) ≡ true → x < c
    by true t rest q =
        let here : f.cell ≡ c = eqb-true f.cell c t in
        let lower : x < f.cell = ltb-true x f.cell (and_left (ltb x f.cell) (all (λ (g : WriteEntry). ltb x g.cell) writes) p) in
        omega arith
    by false t rest q = rest (or_right false (writes_cell writes c) refl q)

-- an entry whose cell stands in the ascending log replaces the one there
pub put-length-same : (e : WriteEntry) (writes : List WriteEntry) → writes_cell writes e.cell ≡ true
    → pairwise (λ (f g : WriteEntry). ltb f.cell g.cell) writes ≡ true → length (put_write e writes) ≡ length writes
unfolding put_write pairwise any writes_cell
put-length-same e [] p q = absurd (false≢true p)
put-length-same e (x ∷ writes) p q =
    by (ltb e.cell x.cell) (eqb e.cell x.cell) refl refl
    (λ further. put-length-same e writes further (and_right (all (λ (g : WriteEntry). ltb x.cell g.cell) writes)
    (pairwise (λ (f g : WriteEntry). ltb f.cell g.cell) writes) q))
  where
    -- where it does not stand at the head, it stands in the rest
    further : (x.cell ≡ e.cell → ⊥) → writes_cell writes e.cell ≡ true
    further other = or_right (eqb x.cell e.cell) (writes_cell writes e.cell) (ne_eqb x.cell e.cell other) p

    by : (lower same : Bool) → ltb e.cell x.cell ≡ lower → eqb e.cell x.cell ≡ same
        → (writes_cell writes e.cell ≡ true → length (put_write e writes) ≡ length writes)
        → length (cond lower (e ∷ x ∷ writes) (cond same (e ∷ writes) (x ∷ put_write e writes))) ≡ suc (length writes)
    by true same t u rest =
        let lower : e.cell < x.cell = ltb-true e.cell x.cell t in
        let higher : x.cell < e.cell =
        above x.cell e.cell writes
        (and_left (all (λ (g : WriteEntry). ltb x.cell g.cell) writes) (pairwise (λ (f g : WriteEntry). ltb f.cell g.cell) writes) q)
        (further (λ here. omega arith)) in
        absurd (omega arith)
    by false true t u rest = refl
    by false false t u rest = ap suc (rest (further (λ here. eqb-false e.cell x.cell u (sym here))))

-- so an ascending log has room for an entry unless it is full and has not the entry's cell
pub put-few : (e : WriteEntry) (n : ℕ) (writes : List WriteEntry) → pairwise (λ (f g : WriteEntry). ltb f.cell g.cell) writes ≡ true → length writes ≤ n
    → (not (writes_cell writes e.cell) and leb n (length writes)) ≡ false → length (put_write e writes) ≤ n
put-few e n writes rises few free = by (writes_cell writes e.cell) refl
  where
    by : (b : Bool) → writes_cell writes e.cell ≡ b → length (put_write e writes) ≤ n
    by true w = omega (arith, put-length-same e writes w rises)
    by false w = omega (arith, put-length e writes, leb-false n (length writes) (rw (w, true-and) at free))
