-- A cell's line from the bytes that stand at its place.
use mathlib.Core.List.{List}
use mathlib.Core.Path.{◌≡◌, sym, ap, ◌∙◌}
use Prim.Native.Nat.{ℕ, ◌+◌, ◌*◌}
use lib.ListN.{get_or, drop}
use lib.Seq.{drop-drop, get_or-drop}
use Rattle.wire.specs.Field.{be}
use Rattle.slot.proofs.Entry.{first_byte}
use Rattle.rules.specs.Layout.{cell_of}
use Rattle.line.specs.Line.{cell_line}
use Rattle.sheet.specs.Output.{line_of_cell, line_in_area}

pub cell-at : (l : List ℕ) (c word stamp : ℕ) → word ≡ be 4 (drop (14 + 14 * c + 2) l) → stamp ≡ be 8 (drop (14 + 14 * c + 6) l)
    → cell_line c (get_or l (14 + 14 * c) 0) word stamp (get_or l (14 + 14 * c + 1) 0) ≡ line_in_area l c
unfolding line_in_area cell_of
cell-at l c word stamp p q =
    let at = 14 + 14 * c in
    let same : cell_of 8 (drop at l)
    ≡ record { kind = get_or l at 0; holder = get_or l (at + 1) 0; word = word; stamp = stamp } =
    λ i. record {
      kind = sym (first_byte l at) i;
      holder = get_or-drop at l 1 0 i;
      word = (ap (be 4) (drop-drop 2 at l) ∙ sym p) i;
      stamp = (ap (be 8) (drop-drop 6 at l) ∙ sym q) i;
    } in
    sym (ap (line_of_cell c) same)
