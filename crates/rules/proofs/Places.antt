-- Where the parts of a packed state stand: the header's fields, the cells and the records are read back from it.
use mathlib.Core.List.{List, [], ◌∷◌, ◌++◌, map, append_assoc, append-nil}
use mathlib.Core.Path.{◌≡◌, refl, sym, ◌∙◌, ap, ap₂}
use Prim.Native.Nat.{ℕ, ◌+◌, ◌*◌, ◌^◌, ◌<◌}
use native.Mathlib.Omega.{arith}
use lib.ListN.{length, get_or, drop, length-append, length-map, get_or-map}
use lib.Seq.{drop_at, drop-drop}
use Rattle.wire.specs.Field.{be, to_be}
use Rattle.wire.specs.Table.{cat}
use Rattle.wire.proofs.Laws.Field.{length-to_be, be-to_be}
use Rattle.wire.proofs.Laws.Table.{cat-ext, length-cat, drop-cat, tab-back-at}
use Rattle.slot.specs.Layout.{empty, slot_of, slot_bytes}
use Rattle.slot.specs.Fit.{Fitting}
use Rattle.slot.proofs.RoundTrip.{length-slot_bytes, slot-back}
use Rattle.rules.specs.Model.{Model, header_size, cell_size, size_of_slot, area_length}
use Rattle.rules.specs.State.{State, Slot, idle, cell_count, cell_at, slot_at, no_cell}
use Rattle.rules.specs.Layout.{cell_of, cell_bytes, lay, view, header, pack, version_in, length_in, count_in, clock_in, slot_place, cells_in, records_in, state_of}
use Rattle.rules.proofs.CellBytes.{length-cell_bytes, CellFits, cell-back}
use Rattle.rules.proofs.LayView.{view-lay}

-- a state whose numbers fit their bytes
pub record Sized (M : Model) (S : State) : Type 0 where
  pub length_fits : area_length M (cell_count S) < 2 ^ 32
  pub clock_fits : S.clock < 256 ^ M.stamp_bytes
  pub slot_count : length S.slots ≡ M.slots
  pub cells_fit : (c : ℕ) → c < cell_count S → CellFits M.stamp_bytes (cell_at S c)
  pub slots_fit : (s : ℕ) → s < M.slots → Fitting M.stamp_bytes (lay (slot_at S s))

module _ (M : Model) (S : State) where
  -- the cells' bytes, and the slots'
  unfoldable pub cell_part : List ℕ
  cell_part = cat (cell_count S) (λ c. cell_bytes M.stamp_bytes (cell_at S c))

  unfoldable pub slot_part : List ℕ
  slot_part = cat M.slots (λ s. slot_bytes M.stamp_bytes (lay (slot_at S s)))

  pub length-header : length (header M S) ≡ header_size M
  unfolding header
  length-header = simp (length-append, length-to_be) (omega arith)

  pub length-cells : length cell_part ≡ cell_size M * cell_count S
  unfolding cell_part
  length-cells =
      length-cat (cell_size M) (cell_count S) (λ c. cell_bytes M.stamp_bytes (cell_at S c)) (λ c h. length-cell_bytes M.stamp_bytes (cell_at S c))

  length-slots : length slot_part ≡ size_of_slot M * M.slots
  unfolding slot_part
  length-slots =
      length-cat (size_of_slot M) M.slots (λ s. slot_bytes M.stamp_bytes (lay (slot_at S s))) (λ s h. length-slot_bytes M.stamp_bytes (lay (slot_at S s)))

  -- a packed state is as long as the formula says
  pub length-pack : length (pack M S) ≡ area_length M (cell_count S)
  unfolding pack cell_part slot_part
  length-pack = simp (length-append, length-header, length-cells, length-slots)

  pub from-cells : drop (header_size M) (pack M S) ≡ cell_part ++ slot_part
  unfolding pack cell_part slot_part
  from-cells =
      ap (drop (header_size M)) (append_assoc (header M S) cell_part slot_part)
      ∙ drop_at (header M S) (cell_part ++ slot_part) (header_size M) length-header

  from-slots : drop (header_size M + cell_size M * cell_count S) (pack M S) ≡ slot_part
  from-slots =
      sym (drop-drop (cell_size M * cell_count S) (header_size M) (pack M S))
      ∙ ap (drop (cell_size M * cell_count S)) from-cells
      ∙ drop_at cell_part slot_part (cell_size M * cell_count S) length-cells

  pub version-packed : version_in (pack M S) ≡ M.version
  unfolding pack header
  version-packed = refl

  rest-of-header : List ℕ
  rest-of-header = to_be M.stamp_bytes S.clock ++ cell_part ++ slot_part

  from-length : drop 1 (pack M S) ≡ to_be 4 (area_length M (cell_count S)) ++ (cell_count S ∷ rest-of-header)
  unfolding pack header cell_part slot_part rest-of-header
  from-length = simp append_assoc

  from-count : drop 5 (pack M S) ≡ cell_count S ∷ rest-of-header
  from-count =
      sym (drop-drop 4 1 (pack M S))
      ∙ ap (drop 4) from-length
      ∙ drop_at (to_be 4 (area_length M (cell_count S))) (cell_count S ∷ rest-of-header) 4 (length-to_be 4 (area_length M (cell_count S)))

  pub count-packed : count_in (pack M S) ≡ cell_count S
  count-packed = sym (lib.Seq.get_or-drop 5 (pack M S) 0 0) ∙ ap (λ (l : List ℕ). get_or l 0 0) from-count

  from-clock : drop 6 (pack M S) ≡ rest-of-header
  from-clock = sym (drop-drop 1 5 (pack M S)) ∙ ap (drop 1) from-count

  -- the clock is read back, whatever else fits
  pub clock-held : S.clock < 256 ^ M.stamp_bytes → clock_in M (pack M S) ≡ S.clock
  unfolding rest-of-header
  clock-held fits =
      ap (be M.stamp_bytes) (from-clock ∙ append_assoc (to_be M.stamp_bytes S.clock) cell_part slot_part)
      ∙ be-to_be M.stamp_bytes S.clock (cell_part ++ slot_part) fits

  module _ (sized : Sized M S) where
    pub length-packed : length_in (pack M S) ≡ area_length M (cell_count S)
    length-packed = ap (be 4) from-length ∙ be-to_be 4 (area_length M (cell_count S)) (cell_count S ∷ rest-of-header) sized.length_fits

    pub clock-packed : clock_in M (pack M S) ≡ S.clock
    clock-packed = clock-held sized.clock_fits

    -- the cells are read back
    pub cells-packed : cells_in M (pack M S) ≡ S.cells
    unfolding cells_in cell_part
    cells-packed =
        rw count-packed
        (tab-back-at no_cell (cell_size M) (cell_of M.stamp_bytes) (cell_bytes M.stamp_bytes) (cell_count S) (header_size M) (pack M S) S.cells slot_part
        from-cells refl (length-cell_bytes M.stamp_bytes)
        (λ c h more. cell-back M.stamp_bytes (cell_at S c) more (sized.cells_fit c h)))

    laid : (s : ℕ) → get_or (map lay S.slots) s empty ≡ lay (slot_at S s)
    laid s = get_or-map lay S.slots s idle

    laid-part : slot_part ≡ cat M.slots (λ s. slot_bytes M.stamp_bytes (get_or (map lay S.slots) s empty))
    unfolding slot_part
    laid-part =
        cat-ext M.slots (λ s. slot_bytes M.stamp_bytes (lay (slot_at S s))) (λ s. slot_bytes M.stamp_bytes (get_or (map lay S.slots) s empty))
        (λ s h. ap (slot_bytes M.stamp_bytes) (sym (laid s)))

    -- the slots' records are read back
    pub records-packed : records_in M (pack M S) ≡ map lay S.slots
    unfolding records_in
    records-packed =
        rw count-packed
        (tab-back-at empty (size_of_slot M) (slot_of M.stamp_bytes) (slot_bytes M.stamp_bytes) M.slots (header_size M + cell_size M * cell_count S) (pack M S)
        (map lay S.slots) [] (from-slots ∙ laid-part ∙ sym (append-nil _)) (length-map S.slots lay ∙ sized.slot_count) (length-slot_bytes M.stamp_bytes)
        (λ s h more. rw (laid s) (slot-back M.stamp_bytes (lay (slot_at S s)) more (sized.slots_fit s h))))

    -- what follows slot s
    pub past : ℕ → List ℕ
    past s = drop (size_of_slot M * s + size_of_slot M) (slot_part ++ [])

    -- the bytes from slot s on
    pub slot-packed : (s : ℕ) → s < M.slots → slot_place M (pack M S) s ≡ slot_bytes M.stamp_bytes (lay (slot_at S s)) ++ past s
    unfolding slot_part past
    slot-packed s h =
        rw count-packed
        (sym (drop-drop (size_of_slot M * s) (header_size M + cell_size M * cell_count S) (pack M S))
        ∙ ap (drop (size_of_slot M * s)) (from-slots ∙ sym (append-nil slot_part))
        ∙ drop-cat (size_of_slot M) M.slots (λ j. slot_bytes M.stamp_bytes (lay (slot_at S j))) []
        (λ j below. length-slot_bytes M.stamp_bytes (lay (slot_at S j))) s h)

    -- packing and unpacking lose nothing
    pub state-packed : state_of M (pack M S) ≡ S
    unfolding state_of
    state-packed =
        let slots : map view (records_in M (pack M S)) ≡ S.slots = ap (map view) records-packed ∙ viewed S.slots in
        λ i. record { clock = clock-packed i; cells = cells-packed i; slots = slots i }
      where
        viewed : (l : List Slot) → map view (map lay l) ≡ l
        viewed [] = refl
        viewed (x ∷ l) = ap₂ ◌∷◌ (view-lay x) (viewed l)
