-- Zero bytes: what is read off them.
use mathlib.Core.Bool.{true}
use mathlib.Core.List.{List}
use mathlib.Core.Path.{◌≡◌, sym, ◌∙◌, ap}
use Prim.Native.Nat.{ℕ, ◌+◌, ◌*◌, ◌<◌, ◌≤◌}
use native.Mathlib.Omega.{arith}
use lib.Dec.{eqb}
use lib.ListN.{get_or, take, drop, replicate, get_or-replicate}
use lib.Seq.{get_or-take, get_or-drop}
use borrow.Author.Tests.{eq-eqb, eqb-true}
use Rattle.wire.specs.Field.{be}
use Rattle.wire.specs.Table.{cat, tab}
use Rattle.wire.proofs.Laws.Field.{be-zero}
use Rattle.wire.proofs.Laws.Table.{tab-ext}
use Rattle.slot.specs.Layout.{read_capacity, write_capacity, no_read, no_write, read_of, read_size, write_of, write_size, start_at, commit_at, reads_at, writes_at, slot_size, empty, slot_of}
use Rattle.rules.specs.AreaRight.{zeros}
use Rattle.slot.proofs.Logic.{every-at, every_of}

-- each of the first bytes is zero, and the other way round
pub zeros-at : (n : ℕ) (l : List ℕ) → zeros n l ≡ true → (i : ℕ) → i < n → get_or l i 0 ≡ 0
unfolding zeros
zeros-at n l p i h = eqb-true (get_or l i 0) 0 (every-at n (λ j. eqb (get_or l j 0) 0) p i h)

pub zeros_of : (n : ℕ) (l : List ℕ) → ((i : ℕ) → i < n → get_or l i 0 ≡ 0) → zeros n l ≡ true
unfolding zeros
zeros_of n l p = every_of n (λ j. eqb (get_or l j 0) 0) (λ i h. eq-eqb (get_or l i 0) 0 (p i h))

-- a front of zeros
pub zeros-front : (n : ℕ) (l : List ℕ) → take n l ≡ replicate n 0 → zeros n l ≡ true
zeros-front n l e =
    zeros_of n l (λ i h. sym (get_or-take n l i 0 h) ∙ ap (λ (k : List ℕ). get_or k i 0) e ∙ get_or-replicate n i 0 0 h)

-- zeros from an offset on
pub zeros-drop : (n at : ℕ) (l : List ℕ) (k : ℕ) → zeros n l ≡ true → at + k ≤ n → zeros k (drop at l) ≡ true
zeros-drop n at l k p h = zeros_of k (drop at l) (λ i b. get_or-drop at l i 0 ∙ zeros-at n l p (at + i) (omega arith))

-- a field of zeros is 0
pub zero_field : (w : ℕ) (l : List ℕ) → zeros w l ≡ true → be w l ≡ 0
zero_field w l p = be-zero w l (zeros-at w l p)

-- an entry of zeros is no entry
pub zero-read : (l : List ℕ) → zeros read_size l ≡ true → read_of l ≡ no_read
unfolding read_of
zero-read l p =
    let first = zeros-at read_size l p 0 (omega arith) in
    let second = zeros-at read_size l p 1 (omega arith) in
    let third = zero_field 4 (drop 2 l) (zeros-drop read_size 2 l 4 p (omega arith)) in
    λ i. record { cell = first i; mark = eqb (second i) 1; word = third i }

pub zero-write : (l : List ℕ) → zeros write_size l ≡ true → write_of l ≡ no_write
unfolding write_of
zero-write l p =
    let first = zeros-at write_size l p 0 (omega arith) in
    let second = zero_field 4 (drop 1 l) (zeros-drop write_size 1 l 4 p (omega arith)) in
    λ i. record { cell = first i; word = second i }

-- a slot of zeros is an idle one
pub zero-slot : (w : ℕ) (l : List ℕ) → zeros (slot_size w) l ≡ true → slot_of w l ≡ empty
unfolding slot_of tab cat
zero-slot w l p =
    let byte : (i : ℕ) → i < 5 → get_or l i 0 ≡ 0 = λ i h. zeros-at (slot_size w) l p i (omega arith) in
    let start = zero_field w (drop start_at l) (zeros-drop (slot_size w) start_at l w p (omega arith)) in
    let commit = zero_field w (drop (commit_at w) l) (zeros-drop (slot_size w) (commit_at w) l w p (omega arith)) in
    let reads : tab read_capacity (λ i. read_of (drop (reads_at w + read_size * i) l)) ≡ tab read_capacity (λ i. no_read) =
    tab-ext read_capacity (λ i. read_of (drop (reads_at w + read_size * i) l)) (λ i. no_read)
    (λ i h. zero-read (drop (reads_at w + read_size * i) l) (zeros-drop (slot_size w) (reads_at w + read_size * i) l read_size p (omega arith))) in
    let writes : tab write_capacity (λ i. write_of (drop (writes_at w + write_size * i) l)) ≡ tab write_capacity (λ i. no_write) =
    tab-ext write_capacity (λ i. write_of (drop (writes_at w + write_size * i) l)) (λ i. no_write)
    (λ i h. zero-write (drop (writes_at w + write_size * i) l) (zeros-drop (slot_size w) (writes_at w + write_size * i) l write_size p (omega arith))) in
    λ i.
    record {
      phase = byte 0 (omega arith) i;
      ignoring = eqb (byte 1 (omega arith) i) 1;
      taken = byte 2 (omega arith) i;
      readcount = byte 3 (omega arith) i;
      writecount = byte 4 (omega arith) i;
      start = start i;
      commit = commit i;
      reads = reads i;
      writes = writes i;
    }
