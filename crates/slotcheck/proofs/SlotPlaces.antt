-- The slots at their places in the area, and their commit stamps: a table's tests are the tests at its places.
use mathlib.Core.List.{List}
use mathlib.Core.Path.{◌≡◌, refl, sym, ◌∙◌, ap, ap₂}
use Prim.Native.Nat.{ℕ, ◌+◌, ◌*◌, ◌<◌, ◌≤◌}
use native.Mathlib.Omega.{arith}
use lib.ListN.{length, get_or, drop, length-drop}
use lib.Seq.{drop-drop}
use Rattle.wire.specs.Field.{be}
use Rattle.wire.specs.Table.{tab}
use Rattle.wire.proofs.Laws.Table.{get_or-tab}
use Rattle.slot.specs.declared.SlotRecord.{SlotRecord}
use Rattle.slot.specs.Layout.{slot_of}
use Rattle.slot.specs.Logic.{every}
use Rattle.slot.proofs.Logic.{every-ext}
use Rattle.rules.specs.Model.{controller}
use Rattle.rules.specs.Layout.{slot_place, records_in}
use Rattle.rules.specs.LogsRight.{stamps_apart}
use Rattle.rules.specs.AreaRight.{commits_apart}
use Rattle.logcheck.specs.Frame.{Framed}
use Rattle.logcheck.proofs.Tables.{pairwise-tab}
use Rattle.slotcheck.specs.SlotParts.{stamp_in}

module _ (n : ℕ) (l : List ℕ) (f : Framed n l) where
  pub place_at : (k : ℕ) → drop (14 + 14 * n + 197 * k) l ≡ slot_place controller l k
  place_at k = ap (λ (x : ℕ). drop (14 + 14 * x + 197 * k) l) (sym f.count)

  pub place-size : (k : ℕ) → k < 8 → (t : List ℕ) → t ≡ slot_place controller l k → 197 ≤ length t
  place-size k h t e = let size = ap length (e ∙ sym (place_at k)) ∙ length-drop (14 + 14 * n + 197 * k) l in omega arith

  pub stamp-at : (k : ℕ) (t : List ℕ) → t ≡ slot_place controller l k → be 8 (drop 13 t) ≡ stamp_in n l k
  stamp-at k t e =
      ap (λ (t : List ℕ). be 8 (drop 13 t)) e
      ∙ ap (λ (t : List ℕ). be 8 (drop 13 t)) (sym (place_at k)) ∙ ap (be 8) (drop-drop 13 (14 + 14 * n + 197 * k) l)

  commit-at : (k : ℕ) → (slot_of 8 (slot_place controller l k)).commit ≡ stamp_in n l k
  unfolding slot_of
  commit-at k = stamp-at k (slot_place controller l k) refl

  pub stamps-all : (stamps : List ℕ) → stamps ≡ tab 8 (stamp_in n l)
      → every 8 (λ j. every j (λ i. stamps_apart (get_or stamps i 0) (get_or stamps j 0))) ≡ commits_apart (records_in controller l)
  unfolding commits_apart records_in
  stamps-all stamps e =
      let at : (i : ℕ) → i < 8 → get_or stamps i 0 ≡ (slot_of 8 (slot_place controller l i)).commit =
      λ i h. ap (λ (x : List ℕ). get_or x i 0) e ∙ get_or-tab 8 (stamp_in n l) 0 i h ∙ sym (commit-at i) in
      every-ext 8 (λ j. every j (λ i. stamps_apart (get_or stamps i 0) (get_or stamps j 0)))
      (λ j. every j (λ i. stamps_apart (slot_of 8 (slot_place controller l i)).commit (slot_of 8 (slot_place controller l j)).commit))
      (λ j h.
      every-ext j (λ i. stamps_apart (get_or stamps i 0) (get_or stamps j 0))
      (λ i. stamps_apart (slot_of 8 (slot_place controller l i)).commit (slot_of 8 (slot_place controller l j)).commit)
      (λ i b. ap₂ stamps_apart (at i (omega arith)) (at j h)))
      ∙ sym (pairwise-tab (λ k. slot_of 8 (slot_place controller l k)) (λ (v u : SlotRecord). stamps_apart v.commit u.commit) 8)
