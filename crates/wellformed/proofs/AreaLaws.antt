-- The clauses of the area's cells and slots put together: a table's tests are the tests at its places.
use mathlib.Core.Bool.{Bool, true}
use mathlib.Core.List.{List}
use mathlib.Core.Path.{◌≡◌, sym}
use Prim.Native.Nat.{ℕ, ◌+◌, ◌*◌, ◌<◌}
use lib.ListN.{drop}
use Rattle.slot.specs.Logic.{◌and◌, every, all}
use Rattle.slot.proofs.Logic.{and_assoc, every-at}
use Rattle.rules.specs.Model.{controller}
use Rattle.rules.specs.Layout.{cell_of, cells_in, slot_place, clock_in}
use Rattle.rules.specs.LogsRight.{cell_right}
use Rattle.rules.specs.AreaRight.{well_formed_but_holders, area_holders_right, well_formed}
use Rattle.logcheck.specs.Frame.{Framed}
use Rattle.logcheck.proofs.Chains.{and_comm, and-swap}
use Rattle.logcheck.proofs.Tables.{all-tab}
use Rattle.slotcheck.specs.SlotParts.{slot_right_in, slots_right}
use Rattle.slotcheck.proofs.SlotPlaces.{place-size}
use Rattle.wellformed.specs.AreaParts.{header_right, cells_right, parts_right}
use Rattle.wellformed.specs.Claims.{SlotRight}

module _ (n : ℕ) (l : List ℕ) (f : Framed n l) where
  pub cells-all : (clock : ℕ) → every n (λ c. cell_right clock (cell_of 8 (drop (14 + 14 * c) l))) ≡ all (cell_right clock) (cells_in controller l)
  unfolding cells_in
  cells-all clock = rw f.count (sym (all-tab (λ c. cell_of 8 (drop (14 + 14 * c) l)) (cell_right clock) n))

-- the clauses in the order of the code: the holders' is decided with the cells', after the slots
pub in_order : (a : List ℕ)
    → (header_right a and parts_right (clock_in controller a) a and cells_right (clock_in controller a) a and area_holders_right controller a) ≡ well_formed controller a
unfolding header_right parts_right well_formed well_formed_but_holders
in_order a = order _ _ _ _ _ _ _
  where
    order : (l v n s k c h : Bool) → ((l and v and n) and (s and k) and c and h) ≡ ((l and v and n and c and s and k) and h)
    order l v n s k c h = simp (and_assoc, and-swap, and_comm)

-- each slot of an area where all are right
pub slot-right-at : (n : ℕ) (a : List ℕ) → Framed n a → slots_right (clock_in controller a) a ≡ true → (k : ℕ) → k < 8 → (t : List ℕ) → t ≡ slot_place controller a k
    → SlotRight a t
slot-right-at n a f p k h t e =
    record {
      size = place-size n a f k h t e;
      right = rw e (every-at 8 (λ i. slot_right_in a (clock_in controller a) (slot_place controller a i)) p k h);
    }
