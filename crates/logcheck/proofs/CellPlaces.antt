-- The cells of an area at their places: an element of a table is what stands there, and its kind is its first byte.
use mathlib.Core.Bool.{true, false}
use mathlib.Core.List.{List}
use mathlib.Core.Path.{◌≡◌, refl, sym, ◌∙◌}
use Prim.Native.Nat.{ℕ, ◌+◌, ◌*◌, ◌<◌, ◌≤◌}
use native.Mathlib.Omega.{arith}
use borrow.Author.Tests.{lt-ltb, le-ltb, ltb-true}
use lib.ListN.{length, get_or, drop}
use Rattle.wire.proofs.Laws.Table.{length-tab, get_or-tab}
use Rattle.value.specs.Legal.{legal_word}
use Rattle.slot.proofs.Logic.{and_left}
use Rattle.slot.proofs.Entry.{first_byte}
use Rattle.rules.specs.Model.{controller}
use Rattle.rules.specs.State.{no_cell}
use Rattle.rules.specs.Layout.{cell_of, cells_in, count_in}
use Rattle.rules.specs.LogsRight.{logged_right}
use Rattle.logcheck.specs.Frame.{Framed}
use Rattle.logcheck.proofs.Chains.{stop, pass}

module _ (n : ℕ) (l : List ℕ) (f : Framed n l) where
  pub length-cells : length (cells_in controller l) ≡ n
  unfolding cells_in
  length-cells = length-tab (count_in l) (λ c. cell_of 8 (drop (14 + 14 * c) l)) ∙ f.count

  pub cell-at : (c : ℕ) → c < n → get_or (cells_in controller l) c no_cell ≡ cell_of 8 (drop (14 + 14 * c) l)
  unfolding cells_in
  cell-at c h = get_or-tab (count_in l) (λ i. cell_of 8 (drop (14 + 14 * i) l)) no_cell c (omega arith)

  kind_at : (c : ℕ) → c < n → (get_or (cells_in controller l) c no_cell).kind ≡ get_or l (14 + 14 * c) 0
  unfolding cell_of
  kind_at c h = rw (cell-at c h) (sym (first_byte l (14 + 14 * c)))

  pub logged-place : (c word : ℕ) → c < n → legal_word (get_or l (14 + 14 * c) 0) word ≡ logged_right (cells_in controller l) c word
  unfolding logged_right
  logged-place c word h = pass _ _ _ (rw length-cells (lt-ltb c n h)) (rw (kind_at c h))

  pub logged-past : (c word : ℕ) → n ≤ c → false ≡ logged_right (cells_in controller l) c word
  unfolding logged_right
  logged-past c word h = stop _ _ _ (rw length-cells (le-ltb c n h)) refl

  pub logged-below : (c word : ℕ) → logged_right (cells_in controller l) c word ≡ true → c < n
  unfolding logged_right
  logged-below c word p = let below : c < length (cells_in controller l) = ltb-true _ _ (and_left _ _ p) in rw length-cells at below
