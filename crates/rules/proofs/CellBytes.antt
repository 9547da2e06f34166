-- A cell and its bytes: round trips both ways, as those of a slot.
use mathlib.Core.List.{List, [], ◌∷◌, ◌++◌, append_assoc}
use mathlib.Core.Path.{◌≡◌, refl, ◌∙◌, ap}
use Prim.Native.Nat.{ℕ, ◌+◌, ◌^◌, ◌<◌, ◌≤◌}
use native.Mathlib.Omega.{arith}
use lib.ListN.{length, get_or, take, drop, length-append, length-drop}
use lib.Seq.{drop_at, take-add}
use Rattle.wire.specs.Field.{Bytes, be, to_be}
use Rattle.wire.proofs.Laws.Field.{length-to_be, be-to_be, to_be-be, be-bound, bytes_drop}
use Rattle.rules.specs.Layout.{cell_of, cell_bytes}
use Rattle.rules.specs.declared.Cell.{Cell}

pub length-cell_bytes : (w : ℕ) (x : Cell) → length (cell_bytes w x) ≡ 6 + w
unfolding cell_bytes
length-cell_bytes w x = simp (length-append, length-to_be) (omega arith)

-- its word and its stamp fit their bytes
pub record CellFits (w : ℕ) (x : Cell) : Type 0 where
  pub word_fits : x.word < 2 ^ 32
  pub stamp_fits : x.stamp < 256 ^ w

pub cell-fits : (w : ℕ) (l : List ℕ) → Bytes l → CellFits w (cell_of w l)
unfolding cell_of
cell-fits w l b = record { word_fits = be-bound 4 (drop 2 l) (bytes_drop 2 l b); stamp_fits = be-bound w (drop 6 l) (bytes_drop 6 l b) }

pub cell-back : (w : ℕ) (x : Cell) (rest : List ℕ) → CellFits w x → cell_of w (cell_bytes w x ++ rest) ≡ x
unfolding cell_of cell_bytes
cell-back w x rest fit =
    let whole : to_be 4 x.word ++ to_be w x.stamp ++ rest ≡ to_be 4 x.word ++ (to_be w x.stamp ++ rest) = append_assoc (to_be 4 x.word) (to_be w x.stamp) rest in
    let word : be 4 (to_be 4 x.word ++ to_be w x.stamp ++ rest) ≡ x.word = ap (be 4) whole ∙ be-to_be 4 x.word (to_be w x.stamp ++ rest) fit.word_fits in
    let stamp : be w (drop 4 (to_be 4 x.word ++ to_be w x.stamp ++ rest)) ≡ x.stamp =
    ap (λ (l : List ℕ). be w (drop 4 l)) whole
    ∙ ap (be w) (drop_at (to_be 4 x.word) (to_be w x.stamp ++ rest) 4 (length-to_be 4 x.word))
    ∙ be-to_be w x.stamp rest fit.stamp_fits in
    λ i. record { kind = x.kind; holder = x.holder; word = word i; stamp = stamp i }

pub cell-bytes-back : (w : ℕ) (l : List ℕ) → Bytes l → 6 + w ≤ length l → cell_bytes w (cell_of w l) ≡ take (6 + w) l
unfolding cell_of cell_bytes
cell-bytes-back w l b h =
    let word : to_be 4 (be 4 (drop 2 l)) ≡ take 4 (drop 2 l) = to_be-be 4 (drop 2 l) (bytes_drop 2 l b) (rw length-drop (omega arith)) in
    let stamp : to_be w (be w (drop 6 l)) ≡ take w (drop 6 l) = to_be-be w (drop 6 l) (bytes_drop 6 l b) (rw length-drop (omega arith)) in
    rw (word, stamp, take-add 6 w l) (ap (λ (k : List ℕ). k ++ take w (drop 6 l)) (front l (omega arith)))
  where
    front : (l : List ℕ) → 6 ≤ length l → get_or l 0 0 ∷ get_or l 1 0 ∷ take 4 (drop 2 l) ≡ take 6 l
    front [] h = absurd (omega arith)
    front (x ∷ []) h = absurd (omega arith)
    front (x ∷ y ∷ l) h = refl
