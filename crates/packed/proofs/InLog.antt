-- A search through the log of a packed slot, whose count and entries are read where they stand.
use mathlib.Core.Bool.{Bool, true, false}
use mathlib.Core.List.{List, map}
use mathlib.Core.Option.{none, some}
use mathlib.Core.Path.{◌≡◌, refl, sym, ◌∙◌}
use Prim.Native.Nat.{ℕ, ◌+◌, ◌*◌, ◌<◌, ◌≤◌, min}
use native.Mathlib.Omega.{arith}
use borrow.Author.Tests.{ne_eqb, ltb-true}
use lib.Dec.{eqb, ltb}
use lib.ListN.{length, get_or, take, drop, length-take}
use lib.Seq.{get_or-drop, get_or-take}
use Rattle.std.specs.List.{range_with_len}
use Rattle.std.proofs.lemmas.List.FromFn.{fill_by_all}
use Rattle.wire.proofs.Laws.Table.{length-tab}
use Rattle.slot.specs.Layout.{read_capacity, write_capacity, no_read, read_of, write_of, read_size, write_size, reads_at, writes_at, slot_of}
use Rattle.slot.specs.declared.WriteEntry.{WriteEntry}
use Rattle.slot.specs.Logic.{first, pairwise}
use Rattle.slot.specs.Logs.{read_log}
use Rattle.packed.specs.Places.{slot_in, read_entry_at}
use Rattle.slot.proofs.Search.{search-next, search-found, search-end, search-past}

-- its counts, and how long its arrays are
module _ (w at : ℕ) (l : List ℕ) where
  pub reads-counted : get_or l (at + 3) 0 ≡ (slot_of w (drop at l)).readcount
  unfolding slot_of
  reads-counted = sym (get_or-drop at l 3 0)

  pub writes-counted : get_or l (at + 4) 0 ≡ (slot_of w (drop at l)).writecount
  unfolding slot_of
  writes-counted = sym (get_or-drop at l 4 0)

  pub reads_sized : length (slot_of w (drop at l)).reads ≡ read_capacity
  unfolding slot_of
  reads_sized = length-tab read_capacity (λ i. read_of (drop (reads_at w + read_size * i) (drop at l)))

  pub writes-sized : length (slot_of w (drop at l)).writes ≡ write_capacity
  unfolding slot_of
  writes-sized = length-tab write_capacity (λ i. write_of (drop (writes_at w + write_size * i) (drop at l)))

-- of the first entries, as many as are counted, none before place i passes; the array has `size` entries
pub record Sought {A : Type 0} (f : A → Bool) (array : List A) (size count i : ℕ) : Type 0 where
  pub sized : length array ≡ size
  pub left : first f (take count array) ≡ first f (drop i (take count array))

pub sought-start : {A : Type 0} {f : A → Bool} {array : List A} {size count : ℕ} → length array ≡ size → Sought f array size count 0
sought-start sized = record { sized = sized; left = refl }

module _ {A : Type 0} {f : A → Bool} (d : A) {array : List A} {size count i : ℕ} (so_far : Sought f array size count i) where
  pub entry_next : {e : A} → i < count → i < size → e ≡ get_or array i d → f e ≡ false → Sought f array size count (i + 1)
  entry_next h k there q =
      record { sized = so_far.sized; left = search-next f d array count i so_far.left h (omega (arith, so_far.sized)) (rw (← there) q) }

  -- what is found, or that nothing is, for as many entries as the log has
  module _ {n : ℕ} (counted : count ≡ n) where
    pub entry_found : {e : A} → i < count → i < size → e ≡ get_or array i d → f e ≡ true → some e ≡ first f (take n array)
    entry_found h k there q =
        rw (← counted, there) (sym (search-found f d array count i so_far.left h (omega (arith, so_far.sized)) (rw (← there) q)))

    -- past the count, or past the array
    pub entry-none : count ≤ i → none ≡ first f (take n array)
    entry-none h = rw (← counted) (sym (search-end f d array count i so_far.left (rw length-take (omega arith))))

    pub entry-out : size ≤ i → none ≡ first f (take n array)
    entry-out h = rw (← counted) (sym (search-end f d array count i so_far.left (rw length-take (omega (arith, so_far.sized)))))

    -- past either, as a loop that goes no further ends
    pub entry-end : min size count ≤ i → none ≡ first f (take n array)
    entry-end h = rw (← counted) (sym (search-end f d array count i so_far.left (rw length-take (omega (arith, so_far.sized)))))

    -- past an entry that stands in R to all that follow, if neither it nor any y that it stands in R to passes
    pub entry_past : (R : A → A → Bool) → pairwise R (take n array) ≡ true → {e : A} → i < count → i < size → e ≡ get_or array i d → f e ≡ false
        → ((y : A) → R e y ≡ true → f y ≡ false) → none ≡ first f (take n array)
    entry_past R ordered {e} h k there q past =
        rw (← counted)
        (sym (search-past f d array count i so_far.left R (rw counted ordered) h (omega (arith, so_far.sized)) (rw (← there) q) (rw (← there) past)))

-- a smaller cell is not the one sought, nor is one that stands above a larger cell
pub smaller : {cell here : ℕ} → here < cell → eqb here cell ≡ false
smaller {cell} {here} below = ne_eqb here cell (omega arith)

pub larger : {cell here : ℕ} → cell < here → (y : WriteEntry) → ltb here y.cell ≡ true → eqb y.cell cell ≡ false
larger {cell} {here} above y rises = ne_eqb y.cell cell (omega (arith, ltb-true here y.cell rises))

-- a chain goes through as many read entries as are counted, and as the array has
pub reads-listed : (w at : ℕ) (l : List ℕ) {count n : ℕ} → n ≡ min read_capacity count → count ≡ get_or l (at + 3) 0
    → map (read_entry_at w at l) (range_with_len 0 n) ≡ read_log (slot_in w at l)
reads-listed w at l {count} {n} end counted =
    let v = slot_in w at l in
    let size = reads_sized w at l in
    let same : count ≡ v.readcount = counted ∙ reads-counted w at l in
    sym (fill_by_all (read_entry_at w at l) (read_log v) n no_read (rw length-take (omega arith)) (λ k h. get_or-take v.readcount v.reads k no_read (omega arith)))
