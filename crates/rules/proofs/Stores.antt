-- Parts put in place of a packed state: a slot's, a cell's or the clock's bytes put at their offset pack the state with that slot, cell or clock. The
-- parts before and after keep their places, since as many bytes come as go; so only lengths matter, and no area in between has to be well formed.
use mathlib.Core.List.{List, [], ◌∷◌, ◌++◌, append_assoc}
use mathlib.Core.Path.{◌≡◌, refl, sym, ◌∙◌, ap}
use Prim.Native.Nat.{ℕ, ◌+◌, ◌*◌, ◌≤◌, ◌<◌}
use native.Mathlib.Omega.{arith}
use lib.ListN.{length, get_or, take, drop, set, length-append, length-set, take-append-drop}
use lib.Seq.{length-take-le, drop-drop, get_or-drop, set_at}
use Rattle.wire.specs.Field.{to_be}
use Rattle.wire.specs.Part.{splice}
use Rattle.wire.specs.Table.{cat}
use Rattle.wire.proofs.Laws.Field.{length-to_be}
use Rattle.wire.proofs.Laws.Table.{drop-cat}
use Rattle.wire.proofs.Laws.Part.{splice-left, splice-right, splice-whole, splice-record}
use Rattle.slot.specs.Layout.{slot_bytes}
use Rattle.slot.proofs.RoundTrip.{length-slot_bytes}
use Rattle.rules.specs.Model.{Model, header_size, cell_size, size_of_slot, cell_offset, slot_offset, area_length}
use Rattle.rules.specs.State.{State, Slot, idle, cell_count, cell_at, no_cell, turn}
use Rattle.rules.specs.Layout.{cell_bytes, lay, header, pack}
use Rattle.rules.specs.declared.Cell.{Cell}
use Rattle.rules.proofs.CellBytes.{length-cell_bytes}
use Rattle.rules.proofs.AreaKept.{within}
use Rattle.rules.proofs.Places.{cell_part, slot_part, length-header, length-cells, length-pack, from-cells}

-- a part that follows a front of known length
put-after : (x a : List ℕ) (k at : ℕ) (p : List ℕ) → length x ≡ k → splice (x ++ a) (k + at) p ≡ x ++ splice a at p
put-after x a k at p e = rw (← e) (splice-right x a at p)

-- a part put in place of one as long, between a front and an end
put-between : (x p q y : List ℕ) (k : ℕ) → length x ≡ k → length q ≡ length p → splice (x ++ (p ++ y)) k q ≡ x ++ (q ++ y)
put-between x p q y k e same =
    let place : k ≡ k + 0 = omega arith in
    ap (λ (n : ℕ). splice (x ++ (p ++ y)) n q) place
    ∙ put-after x (p ++ y) k 0 q e
    ∙ ap (λ (l : List ℕ). x ++ l) (splice-left p y 0 q (omega arith) ∙ ap (λ (l : List ℕ). l ++ y) (splice-whole p q same))

-- a cell with another holder
abbrev held_by : ℕ → Cell → Cell
held_by holder x = record { kind = x.kind; holder = holder; word = x.word; stamp = x.stamp }

module _ (M : Model) (S : State) where
  -- slot i's bytes put at its offset
  pub pack-slot : (i : ℕ) (x : Slot) → length S.slots ≡ M.slots → i < M.slots
      → splice (pack M S) (slot_offset M (cell_count S) i) (slot_bytes M.stamp_bytes (lay x)) ≡ pack M (turn S i S.clock S.cells x)
  unfolding pack header cell_part slot_part
  pack-slot i x e h =
      put-after (header M S ++ cell_part M S) (slot_part M S) (header_size M + cell_size M * cell_count S) (size_of_slot M * i) (slot_bytes M.stamp_bytes (lay x))
      (rw (length-append, length-header M S, length-cells M S))
      ∙ ap (λ (l : List ℕ). header M S ++ cell_part M S ++ l)
      (splice-record idle (size_of_slot M) (λ (y : Slot). slot_bytes M.stamp_bytes (lay y)) (λ y. length-slot_bytes M.stamp_bytes (lay y)) M.slots S.slots i x e h)

  -- cell c's bytes put at its offset
  pub pack-cell : (c : ℕ) (x : Cell) → c < cell_count S
      → splice (pack M S) (cell_offset M c) (cell_bytes M.stamp_bytes x) ≡ pack M (record { clock = S.clock; cells = set S.cells c x; slots = S.slots })
  unfolding pack header cell_part slot_part
  pack-cell c x h =
      let T : State = record { clock = S.clock; cells = set S.cells c x; slots = S.slots } in
      let bytes = cell_bytes M.stamp_bytes x in
      let fits : cell_size M * c + length bytes ≤ length (cell_part M S) = rw (length-cell_bytes, length-cells M S) (within (cell_size M) c (cell_count S) h) in
      let front : header M S ≡ header M T = rw (length-set S.cells c x) in
      let cells : splice (cell_part M S) (cell_size M * c) bytes ≡ cell_part M T =
      splice-record no_cell (cell_size M) (cell_bytes M.stamp_bytes) (length-cell_bytes M.stamp_bytes) (cell_count S) S.cells c x refl h
      ∙ ap (λ (n : ℕ). cat n (λ j. cell_bytes M.stamp_bytes (cell_at T j))) (sym (length-set S.cells c x)) in
      ap (λ (l : List ℕ). splice l (cell_offset M c) bytes) (append_assoc (header M S) (cell_part M S) (slot_part M S))
      ∙ put-after (header M S) (cell_part M S ++ slot_part M S) (header_size M) (cell_size M * c) bytes (length-header M S)
      ∙ ap (λ (l : List ℕ). header M S ++ l) (splice-left (cell_part M S) (slot_part M S) (cell_size M * c) bytes fits)
      ∙ (λ i. front i ++ (cells i ++ slot_part M S))
      ∙ sym (append_assoc (header M T) (cell_part M T) (slot_part M S))

  -- a clock's bytes put at 6
  pub pack-clock : (clock : ℕ) → splice (pack M S) 6 (to_be M.stamp_bytes clock) ≡ pack M (record { clock = clock; cells = S.cells; slots = S.slots })
  unfolding pack header cell_part slot_part
  pack-clock clock =
      let front = (M.version ∷ to_be 4 (area_length M (cell_count S))) ++ (cell_count S ∷ []) in
      let end = cell_part M S ++ slot_part M S in
      let same : (k : ℕ) → pack M (record { clock = k; cells = S.cells; slots = S.slots }) ≡ front ++ (to_be M.stamp_bytes k ++ end) = λ k. simp append_assoc in
      ap (λ (l : List ℕ). splice l 6 (to_be M.stamp_bytes clock)) (same S.clock)
      ∙ put-between front (to_be M.stamp_bytes S.clock) (to_be M.stamp_bytes clock) end 6 (simp (length-append, length-to_be))
      (length-to_be M.stamp_bytes clock ∙ sym (length-to_be M.stamp_bytes S.clock))
      ∙ sym (same clock)

  module _ (c : ℕ) (h : c < cell_count S) where
    -- what stands before cell c, and past it
    before : List ℕ
    before = take (cell_offset M c) (pack M S)

    past : List ℕ
    past = drop (cell_size M * c + cell_size M) (cell_part M S ++ slot_part M S)

    -- the bytes from cell c on
    from_cell : drop (cell_offset M c) (pack M S) ≡ cell_bytes M.stamp_bytes (cell_at S c) ++ past
    unfolding cell_part past
    from_cell =
        sym (drop-drop (cell_size M * c) (header_size M) (pack M S))
        ∙ ap (drop (cell_size M * c)) (from-cells M S)
        ∙ drop-cat (cell_size M) (cell_count S) (λ j. cell_bytes M.stamp_bytes (cell_at S j)) (slot_part M S)
        (λ j below. length-cell_bytes M.stamp_bytes (cell_at S j)) c h

    -- its holder stands in its second byte,
    pub holder-packed : get_or (pack M S) (cell_offset M c + 1) 0 ≡ (cell_at S c).holder
    unfolding cell_bytes
    holder-packed = sym (get_or-drop (cell_offset M c) (pack M S) 1 0) ∙ ap (λ (l : List ℕ). get_or l 1 0) from_cell

    -- and a byte put there is its holder
    pub pack-holder : (holder : ℕ)
        → set (pack M S) (cell_offset M c + 1) holder
        ≡ pack M (record { clock = S.clock; cells = set S.cells c (held_by holder (cell_at S c)); slots = S.slots })
    unfolding cell_bytes
    pack-holder holder =
        let x = cell_at S c in
        let at = cell_offset M c in
        let front = take at (pack M S) in
        let new = cell_bytes M.stamp_bytes (held_by holder x) in
        let room = within (cell_size M) c (cell_count S) h in
        let whole_length = length-pack M S in
        let long : length front ≡ at = length-take-le at (pack M S) (omega arith) in
        let whole : pack M S ≡ front ++ (cell_bytes M.stamp_bytes x ++ past) =
        sym (take-append-drop at (pack M S)) ∙ ap (λ (l : List ℕ). front ++ l) from_cell in
        let byte : set (pack M S) (at + 1) holder ≡ front ++ (new ++ past) =
        ap (λ (l : List ℕ). set l (at + 1) holder) (whole ∙ sym (append_assoc front (x.kind ∷ []) _))
        ∙ set_at (front ++ (x.kind ∷ [])) x.holder (to_be 4 x.word ++ to_be M.stamp_bytes x.stamp ++ past) holder (at + 1) (rw (length-append, long))
        ∙ append_assoc front (x.kind ∷ []) _ in
        let cell : splice (pack M S) at new ≡ front ++ (new ++ past) =
        ap (λ (l : List ℕ). splice l at new) whole
        ∙ put-between front (cell_bytes M.stamp_bytes x) new past at long
        (length-cell_bytes M.stamp_bytes (held_by holder x) ∙ sym (length-cell_bytes M.stamp_bytes x)) in
        byte ∙ sym cell ∙ pack-cell c (held_by holder x) h
