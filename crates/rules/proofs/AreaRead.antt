-- What the state of an area is at each place: the cells, the clock and the slots' records are read off their offsets, which `state_of` says of any bytes.
use mathlib.Core.List.{List}
use mathlib.Core.Path.{◌≡◌, refl, ◌∙◌}
use Prim.Native.Nat.{ℕ, ◌<◌}
use lib.ListN.{length, drop, length-map}
use Rattle.wire.proofs.Laws.Table.{length-tab, get_or-tab}
use Rattle.slot.specs.Layout.{slot_of}
use Rattle.rules.specs.Model.{Model, cell_offset}
use Rattle.rules.specs.State.{cell_count, cell_at, no_cell}
use Rattle.rules.specs.Layout.{cell_of, view, count_in, clock_in, slot_place, cells_in, records_in, state_of}

module _ (M : Model) (a : List ℕ) where
  pub count-read : cell_count (state_of M a) ≡ count_in a
  unfolding state_of cells_in
  count-read = length-tab (count_in a) (λ c. cell_of M.stamp_bytes (drop (cell_offset M c) a))

  pub clock-read : (state_of M a).clock ≡ clock_in M a
  unfolding state_of
  clock-read = refl

  pub cell-read : (c : ℕ) → c < count_in a → cell_at (state_of M a) c ≡ cell_of M.stamp_bytes (drop (cell_offset M c) a)
  unfolding state_of cells_in
  cell-read c h = get_or-tab (count_in a) (λ j. cell_of M.stamp_bytes (drop (cell_offset M j) a)) no_cell c h

  -- there are as many slots as the model has
  pub slots_read : length (state_of M a).slots ≡ M.slots
  unfolding state_of records_in
  slots_read = length-map (records_in M a) view ∙ length-tab M.slots (λ s. slot_of M.stamp_bytes (slot_place M a s))
