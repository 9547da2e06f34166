-- A well-formed area loses nothing: the state read off it packs to the same bytes. Each part of the area is written back by its own round trip.
use mathlib.Core.Bool.{true}
use mathlib.Core.List.{List, [], ◌∷◌, ◌++◌, append_assoc}
use mathlib.Core.Path.{◌≡◌, refl, sym, ◌∙◌, ap}
use Prim.Native.Nat.{ℕ, suc, ◌+◌, ◌*◌, ◌<◌, ◌≤◌}
use native.Mathlib.Nat.{mul-suc, mul-le-mul_left}
use native.Mathlib.Omega.{arith}
use lib.ListN.{length, get_or, take, drop, length-drop, get_or-map}
use lib.Seq.{take-add, take-length}
use borrow.Author.Tests.{eqb-true}
use Rattle.wire.specs.Field.{Bytes, to_be}
use Rattle.wire.specs.Table.{cat, tab}
use Rattle.wire.proofs.Laws.Field.{to_be-be, be-bound, bytes_drop}
use Rattle.wire.proofs.Laws.Table.{cat-ext, get_or-tab, cat-back-at}
use Rattle.slot.specs.Layout.{empty, slot_of, slot_bytes}
use Rattle.slot.proofs.RoundTrip.{bytes_back, slot-fits}
use Rattle.rules.specs.Model.{Model, header_size, cell_size, size_of_slot, cell_offset, slot_offset, area_length}
use Rattle.rules.specs.State.{cell_count, cell_at, slot_at, no_cell}
use Rattle.rules.specs.Layout.{cell_of, cell_bytes, lay, view, header, pack, version_in, length_in, count_in, clock_in, slot_place, cells_in, records_in, state_of}
use Rattle.rules.specs.AreaRight.{lengths_agree, version_right, slot_place_right, well_formed_but_holders}
use Rattle.slot.proofs.Logic.{and_left, and_right, every-at}
use Rattle.rules.proofs.AreaRead.{count-read, slots_read}
use Rattle.rules.proofs.CellBytes.{cell-fits, cell-bytes-back}
use Rattle.rules.proofs.SlotKept.{slot_kept}
use Rattle.rules.proofs.Places.{Sized}

-- record c of n ends before the last one does
pub within : (size c n : ℕ) → c < n → size * c + size ≤ size * n
within size c n h =
    let more : size * suc c ≤ size * n = mul-le-mul_left size h in
    let same : size * suc c ≡ size * c + size = mul-suc size c in
    omega arith

-- the first six bytes, one field after the other
first-six : (a : List ℕ) → 6 ≤ length a → (get_or a 0 0 ∷ take 4 (drop 1 a)) ++ (get_or a 5 0 ∷ []) ≡ take 6 a
first-six [] h = absurd (omega arith)
first-six (x ∷ []) h = absurd (omega arith)
first-six (x ∷ y ∷ []) h = absurd (omega arith)
first-six (x ∷ y ∷ z ∷ []) h = absurd (omega arith)
first-six (x ∷ y ∷ z ∷ u ∷ []) h = absurd (omega arith)
first-six (x ∷ y ∷ z ∷ u ∷ v ∷ []) h = absurd (omega arith)
first-six (x ∷ y ∷ z ∷ u ∷ v ∷ t ∷ a) h = refl

-- the header, field by field
front : (w : ℕ) (a : List ℕ) (version n : ℕ) (size clock : List ℕ) → 6 ≤ length a
    → get_or a 0 0 ≡ version → get_or a 5 0 ≡ n → size ≡ take 4 (drop 1 a) → clock ≡ take w (drop 6 a)
    → (version ∷ size) ++ (n ∷ clock) ≡ take (6 + w) a
front w a version n size clock h v c s k =
    rw (← v, ← c, s, k, take-add 6 w a, ← first-six a h) (sym (append_assoc (get_or a 0 0 ∷ take 4 (drop 1 a)) (get_or a 5 0 ∷ []) (take w (drop 6 a))))

module _ (M : Model) (a : List ℕ) (bytes : Bytes a) (right : well_formed_but_holders M a ≡ true) where
  -- what is used of "well formed"
  long : length a ≡ area_length M (count_in a)
  unfolding well_formed_but_holders lengths_agree
  long = eqb-true _ _ (and_left _ _ (and_left _ _ right))

  field : length_in a ≡ length a
  unfolding well_formed_but_holders lengths_agree
  field = eqb-true _ _ (and_right _ _ (and_left _ _ right))

  version : version_in a ≡ M.version
  unfolding well_formed_but_holders version_right
  version = eqb-true _ _ (and_left _ _ (and_right _ _ right))

  slot-right : (s : ℕ) → s < M.slots → slot_place_right M (cells_in M a) (clock_in M a) (slot_place M a s) ≡ true
  unfolding well_formed_but_holders
  slot-right =
      every-at M.slots (λ s. slot_place_right M (cells_in M a) (clock_in M a) (slot_place M a s))
      (and_left _ _ (and_right _ _ (and_right _ _ (and_right _ _ (and_right _ _ right)))))

  header-kept : header M (state_of M a) ≡ take (header_size M) a
  unfolding header state_of
  header-kept =
      let size : area_length M (cell_count (state_of M a)) ≡ length_in a = ap (area_length M) (count-read M a) ∙ sym (field ∙ long) in
      ap (λ (n : ℕ). (M.version ∷ to_be 4 (area_length M (cell_count (state_of M a)))) ++ (n ∷ to_be M.stamp_bytes (clock_in M a))) (count-read M a)
      ∙ front M.stamp_bytes a M.version (count_in a) (to_be 4 (area_length M (cell_count (state_of M a)))) (to_be M.stamp_bytes (clock_in M a))
      (omega (arith, long)) version refl
      (ap (to_be 4) size ∙ to_be-be 4 (drop 1 a) (bytes_drop 1 a bytes) (rw length-drop (omega (arith, long))))
      (to_be-be M.stamp_bytes (drop 6 a) (bytes_drop 6 a bytes) (rw length-drop (omega (arith, long))))

  cells-kept : cat (cell_count (state_of M a)) (λ c. cell_bytes M.stamp_bytes (cell_at (state_of M a) c)) ≡ take (cell_size M * count_in a) (drop (header_size M) a)
  unfolding state_of cells_in
  cells-kept =
      ap (λ (n : ℕ). cat n (λ c. cell_bytes M.stamp_bytes (cell_at (state_of M a) c))) (count-read M a)
      ∙ cat-back-at no_cell (cell_size M) (cell_of M.stamp_bytes) (cell_bytes M.stamp_bytes) (count_in a) (header_size M) a
      (λ c h.
      cell-bytes-back M.stamp_bytes (drop (cell_offset M c) a) (bytes_drop (cell_offset M c) a bytes)
      (rw length-drop (omega (arith, long, within (cell_size M) c (count_in a) h))))

  -- the slot at s lays down the record at s
  pub record-kept : (s : ℕ) → s < M.slots → lay (slot_at (state_of M a) s) ≡ slot_of M.stamp_bytes (slot_place M a s)
  unfolding state_of records_in view
  record-kept s h =
      ap lay (get_or-map view (records_in M a) s empty ∙ ap view (get_or-tab M.slots (λ j. slot_of M.stamp_bytes (slot_place M a j)) empty s h))
      ∙ (slot_kept M (cells_in M a) (clock_in M a) (slot_place M a s) (bytes_drop (slot_offset M (count_in a) s) a bytes) (slot-right s h)).0

  slots_kept : cat M.slots (λ s. slot_bytes M.stamp_bytes (lay (slot_at (state_of M a) s))) ≡ take (size_of_slot M * M.slots) (drop (header_size M + cell_size M * count_in a) a)
  slots_kept =
      cat-ext M.slots (λ s. slot_bytes M.stamp_bytes (lay (slot_at (state_of M a) s)))
      (λ s. slot_bytes M.stamp_bytes (get_or (tab M.slots (λ j. slot_of M.stamp_bytes (slot_place M a j))) s empty))
      (λ s h. ap (slot_bytes M.stamp_bytes) (record-kept s h ∙ sym (get_or-tab M.slots (λ j. slot_of M.stamp_bytes (slot_place M a j)) empty s h)))
      ∙ cat-back-at empty (size_of_slot M) (slot_of M.stamp_bytes) (slot_bytes M.stamp_bytes) M.slots (header_size M + cell_size M * count_in a) a
      (λ s h.
      bytes_back M.stamp_bytes (slot_place M a s) (bytes_drop (slot_offset M (count_in a) s) a bytes)
      (rw length-drop (omega (arith, long, within (size_of_slot M) s M.slots h)))
      (slot_kept M (cells_in M a) (clock_in M a) (slot_place M a s) (bytes_drop (slot_offset M (count_in a) s) a bytes) (slot-right s h)).1)

  -- the state read off the area packs to the area
  pub area-kept : pack M (state_of M a) ≡ a
  unfolding pack
  area-kept =
      rw (header-kept, cells-kept, slots_kept, ← take-add (header_size M) (cell_size M * count_in a) a, ← take-add (header_size M + cell_size M * count_in a) (size_of_slot M * M.slots) a, ← long)
      (take-length a)

  -- its numbers fit their bytes
  pub area-sized : Sized M (state_of M a)
  unfolding state_of cells_in records_in
  area-sized =
      record {
        length_fits = rw (count-read M a, ← long, ← field) (be-bound 4 (drop 1 a) (bytes_drop 1 a bytes));
        clock_fits = be-bound M.stamp_bytes (drop 6 a) (bytes_drop 6 a bytes);
        slot_count = slots_read M a;
        cells_fit = λ c h.
            rw (get_or-tab (count_in a) (λ j. cell_of M.stamp_bytes (drop (cell_offset M j) a)) no_cell c (rw (← count-read M a) h))
            (cell-fits M.stamp_bytes (drop (cell_offset M c) a) (bytes_drop (cell_offset M c) a bytes));
        slots_fit = λ s h. rw (record-kept s h) (slot-fits M.stamp_bytes (slot_place M a s) (bytes_drop (slot_offset M (count_in a) s) a bytes));
      }
