-- What stands at an offset of a slot, which itself stands at an offset of the list.
use mathlib.Core.Path.{◌≡◌, sym, ap, ◌∙◌}
use mathlib.Core.List.{List}
use Prim.Native.Nat.{ℕ, ◌+◌, ◌*◌, ◌<◌}
use native.Mathlib.Nat.{add_assoc}
use lib.ListN.{drop, get_or}
use lib.Seq.{drop-drop}
use Rattle.wire.specs.Table.{tab}
use Rattle.wire.proofs.Laws.Table.{tab-ext, get_or-tab}

-- it stands at the sum of the offsets
pub from : (l : List ℕ) (at more k : ℕ) → k ≡ at + more → drop k l ≡ drop more (drop at l)
from l at more k e = ap (λ (n : ℕ). drop n l) e ∙ sym (drop-drop more at l)

module _ {A : Type 0} (n size : ℕ) (decode : List ℕ → A) (l : List ℕ) (at more k : ℕ) (e : k ≡ at + more) where
  pub log-from : tab n (λ i. decode (drop (k + size * i) l)) ≡ tab n (λ i. decode (drop (more + size * i) (drop at l)))
  log-from =
      tab-ext n (λ i. decode (drop (k + size * i) l)) (λ i. decode (drop (more + size * i) (drop at l)))
      (λ i h. ap decode (from l at (more + size * i) (k + size * i) (rw e (add_assoc at more (size * i)))))

  -- an entry that is read where it stands is the log's
  pub entry-from : (d : A) (i : ℕ) → i < n → decode (drop (k + size * i) l) ≡ get_or (tab n (λ j. decode (drop (more + size * j) (drop at l)))) i d
  entry-from d i h =
      ap decode (from l at (more + size * i) (k + size * i) (rw e (add_assoc at more (size * i))))
      ∙ sym (get_or-tab n (λ j. decode (drop (more + size * j) (drop at l))) d i h)
