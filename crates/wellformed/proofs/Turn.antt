-- The area's holder rule in the words of the loop over the slots: one slot's claims more, or the first claim that is wrong.
use mathlib.Core.Bool.{Bool, true, false}
use mathlib.Core.List.{List}
use mathlib.Core.Path.{◌≡◌, sym, ◌∙◌, ap, ap₂}
use Prim.Native.Nat.{ℕ, suc, ◌+◌, ◌*◌, ◌<◌}
use native.Mathlib.Numerals.{add-one}
use lib.Dec.{eqb, leb}
use lib.ListN.{get_or, drop}
use lib.Seq.{get_or-drop}
use Rattle.wire.proofs.Laws.Table.{get_or-tab}
use Rattle.slot.specs.Layout.{empty, slot_of}
use Rattle.slot.specs.Logic.{◌and◌, same, every}
use Rattle.slot.proofs.Logic.{and_assoc, and-false, every-ext}
use Rattle.rules.specs.Model.{controller}
use Rattle.rules.specs.State.{no_cell}
use Rattle.rules.specs.Layout.{cell_of, count_in, cells_in, slot_place, records_in}
use Rattle.rules.specs.LogsRight.{cell_right, holders_right}
use Rattle.rules.specs.AreaRight.{record_holds, area_holders_right}
use Rattle.logcheck.specs.Frame.{Framed}
use Rattle.logcheck.proofs.Chains.{passes, fails, and_comm, and-swap, every-start, every-next, every-and}
use Rattle.logcheck.proofs.CellPlaces.{length-cells, cell-at}
use Rattle.wellformed.specs.AreaParts.{cells_right}
use Rattle.wellformed.specs.Claims.{holder_in, Claimed, cell_due, cells_due}
use Rattle.wellformed.proofs.AreaLaws.{cells-all}
use Rattle.wellformed.proofs.HolderLaws.{Due, claim, holders, due-start, due-next, holders-no, holders-due}

-- the cells that slot k has to hold
abbrev pub held : List ℕ → ℕ → ℕ → Bool
held a k c = record_holds (slot_of 8 (slot_place controller a k)) c

-- the claims of the first k slots are right and due
pub record Passed (a : List ℕ) (k : ℕ) (due : List ℕ) : Type 0 where
  pub claims : every k (claim (count_in a) (holder_in a) (held a)) ≡ true
  pub laid : Due (count_in a) (holder_in a) (held a) k (λ c. get_or due c 0)

-- no slot's yet
pub none_passed : (a due : List ℕ) → ((c : ℕ) → c < count_in a → get_or due c 0 ≡ 0) → Passed a 0 due
none_passed a due z = record { claims = every-start _; laid = due-start (count_in a) (holder_in a) (held a) (λ c. get_or due c 0) z }

module _ (a : List ℕ) (f : Framed (count_in a) a) where
  holder-at : (c : ℕ) → c < count_in a → (get_or (cells_in controller a) c no_cell).holder ≡ holder_in a c
  unfolding cell_of
  holder-at c h = rw (cell-at (count_in a) a f c h) (get_or-drop (14 + 14 * c) a 1 0)

  record-at : (k : ℕ) → k < 8 → get_or (records_in controller a) k empty ≡ slot_of 8 (slot_place controller a k)
  unfolding records_in
  record-at k h = get_or-tab 8 (λ i. slot_of 8 (slot_place controller a i)) empty k h

  -- the rule, said of the holders' bytes
  holders-places : holders (count_in a) (holder_in a) (held a) 8 ≡ area_holders_right controller a
  unfolding area_holders_right holders_right
  holders-places =
      rw (length-cells (count_in a) a f)
      (every-ext (count_in a) (λ c. leb (holder_in a c) 8 and every 8 (λ s. same (eqb (holder_in a c) (suc s)) (held a s c)))
      (λ c. leb (get_or (cells_in controller a) c no_cell).holder 8
      and every 8 (λ s. same (eqb (get_or (cells_in controller a) c no_cell).holder (suc s)) (record_holds (get_or (records_in controller a) s empty) c)))
      (λ c h.
      let is = sym (holder-at c h) in
      ap₂ ◌and◌ (ap (λ (x : ℕ). leb x 8) is)
      (every-ext 8 (λ s. same (eqb (holder_in a c) (suc s)) (held a s c))
      (λ s. same (eqb (get_or (cells_in controller a) c no_cell).holder (suc s)) (record_holds (get_or (records_in controller a) s empty) c))
      (λ s b. ap₂ same (ap (λ (x : ℕ). eqb x (suc s)) is) (ap (λ v. record_holds v c) (sym (record-at s b)))))))

  module _ (k : ℕ) (t : List ℕ) (place : t ≡ slot_place controller a k) (r : Bool) (before after : List ℕ)
      (claimed : Claimed a (record_holds (slot_of 8 t)) (k + 1) r before after) where
    here : Claimed a (held a k) (suc k) r before after
    here = rw (place, add-one k) at claimed

    pub turn-wrong : k < 8 → r ≡ false → (b : Bool) → false ≡ (b and area_holders_right controller a)
    turn-wrong h p b =
        let wrong : false ≡ area_holders_right controller a = holders-no (count_in a) (holder_in a) (held a) 8 k h (fails here.right p) ∙ holders-places in
        sym (and-false b) ∙ ap (λ (x : Bool). b and x) wrong

    pub turn-right : r ≡ true → Passed a k before → Passed a (k + 1) after
    turn-right p passed =
        let now = passes here.right p in
        record {
          claims = every-next (claim (count_in a) (holder_in a) (held a)) k passed.claims now;
          laid =
              due-next (count_in a) (holder_in a) (held a) k (λ c. get_or before c 0) (λ c. get_or after c 0) passed.claims now passed.laid
              (here.laid (here.right ∙ now));
        }

  -- all slots' claims: one test of each cell decides the cells and the holders
  pub all-passed : (clock : ℕ) (due : List ℕ) → Passed a 8 due
      → cells_due clock due a (count_in a) ≡ (cells_right clock a and area_holders_right controller a)
  unfolding cell_due cell_right cell_of
  all-passed clock due passed =
      every-ext (count_in a) (λ c. cell_due clock (get_or due c 0) (cell_of 8 (drop (14 + 14 * c) a)))
      (λ c. cell_right clock (cell_of 8 (drop (14 + 14 * c) a)) and eqb (holder_in a c) (get_or due c 0))
      (λ c h. rw (← get_or-drop (14 + 14 * c) a 1 0) (order _ _ _))
      ∙ sym (every-and (count_in a) (λ c. cell_right clock (cell_of 8 (drop (14 + 14 * c) a))) (λ c. eqb (holder_in a c) (get_or due c 0)))
      ∙ ap₂ ◌and◌ (cells-all (count_in a) a f clock)
      (holders-due (count_in a) (holder_in a) (held a) 8 (λ c. get_or due c 0) passed.laid ∙ holders-places)
    where
      order : (h s w : Bool) → (h and s and w) ≡ ((w and s) and h)
      order h s w = simp (and_assoc, and-swap, and_comm)
