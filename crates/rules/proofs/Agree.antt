-- A packed state is well formed as an area exactly if it is as a state.
use mathlib.Core.Bool.{Bool, true}
use mathlib.Core.List.{map}
use mathlib.Core.Path.{◌≡◌, refl, sym, ◌∙◌, ap, ap₂}
use Prim.Native.Nat.{ℕ, suc}
use native.Mathlib.Omega.{arith}
use lib.Dec.{eqb, leb}
use lib.ListN.{length, get_or, take, drop, get_or-map}
use borrow.Author.Tests.{eq-eqb, le-leb}
use Rattle.slot.specs.declared.SlotRecord.{SlotRecord}
use Rattle.slot.specs.Layout.{empty}
use Rattle.slot.specs.Logic.{◌and◌, same, every, all, pairwise}
use Rattle.rules.specs.Model.{Model, last_stamp, area_length}
use Rattle.rules.specs.State.{State, Slot, idle, opened, locking, twilight, publishing, slot_at, commit_of, no_cell}
use Rattle.slot.specs.Logs.{writes_cell}
use Rattle.rules.specs.LogsRight.{stamps_apart, holders_right}
use Rattle.rules.specs.StateRight.{slot_right, holds, shape_right, state_right_but_holders, state_holders_right, state_right}
use Rattle.rules.specs.Layout.{lay, pack, length_in, count_in, clock_in, slot_place, cells_in, records_in}
use Rattle.rules.specs.AreaRight.{lengths_agree, version_right, slot_place_right, well_formed_but_holders, commits_apart, record_holds, area_holders_right, well_formed}
use Rattle.slot.proofs.Logic.{and_intro, true-and, every-ext, all-every, pairwise_map}
use Rattle.rules.proofs.LayView.{write-log}
use Rattle.rules.proofs.SlotPlace.{slot-laid}
use Rattle.rules.proofs.Places.{Sized, length-pack, version-packed, count-packed, length-packed, clock-packed, cells-packed, records-packed, past, slot-packed}

-- a record keeps the slot's commit stamp, and holds the same cells
commit-laid : (x : Slot) → (lay x).commit ≡ commit_of x
commit-laid idle = refl
commit-laid (opened start reads writes) = refl
commit-laid (locking taken start reads writes) = refl
commit-laid (twilight ignoring start commit reads writes) = refl
commit-laid (publishing ignoring taken start commit reads writes) = refl

holds-laid : (x : Slot) (c : ℕ) → record_holds (lay x) c ≡ holds x c
unfolding record_holds holds
holds-laid idle c = refl
holds-laid (opened start reads writes) c = refl
holds-laid (locking taken start reads writes) c = ap (λ l. writes_cell (take taken l) c) (write-log (opened start reads writes))
holds-laid (twilight ignoring start commit reads writes) c = ap (λ l. writes_cell l c) (write-log (opened start reads writes))
holds-laid (publishing ignoring taken start commit reads writes) c = ap (λ l. writes_cell (drop taken l) c) (write-log (opened start reads writes))

module _ (M : Model) (S : State) (sized : Sized M S) where
  lengths : lengths_agree M (pack M S) ≡ true
  unfolding lengths_agree
  lengths =
      and_intro (eqb (length (pack M S)) (area_length M (count_in (pack M S)))) (eqb (length_in (pack M S)) (length (pack M S)))
      (eq-eqb _ _ (length-pack M S ∙ ap (area_length M) (sym (count-packed M S))))
      (eq-eqb _ _ (length-packed M S sized ∙ sym (length-pack M S)))

  version : version_right M (pack M S) ≡ true
  unfolding version_right
  version = eq-eqb _ _ (version-packed M S)

  shape : shape_right M S ≡ true
  unfolding shape_right
  shape =
      let below = sized.clock_fits in
      and_intro (leb S.clock (last_stamp M)) (eqb (length S.slots) M.slots) (le-leb S.clock (last_stamp M) (omega arith)) (eq-eqb _ _ sized.slot_count)

  slots : every M.slots (λ s. slot_place_right M (cells_in M (pack M S)) (clock_in M (pack M S)) (slot_place M (pack M S) s))
      ≡ all (slot_right S.cells S.clock) S.slots
  slots =
      every-ext M.slots (λ s. slot_place_right M (cells_in M (pack M S)) (clock_in M (pack M S)) (slot_place M (pack M S) s))
      (λ s. slot_right S.cells S.clock (slot_at S s))
      (λ s h.
      rw (cells-packed M S sized, clock-packed M S sized, slot-packed M S sized s h)
      (slot-laid M S.cells S.clock (past M S sized s) (slot_at S s) (sized.slots_fit s h)))
      ∙ sym (all-every (slot_right S.cells S.clock) S.slots idle ∙ ap (λ (n : ℕ). every n (λ s. slot_right S.cells S.clock (slot_at S s))) sized.slot_count)

  commits : commits_apart (records_in M (pack M S)) ≡ pairwise (λ (x y : Slot). stamps_apart (commit_of x) (commit_of y)) S.slots
  unfolding commits_apart
  commits =
      ap (pairwise (λ (v u : SlotRecord). stamps_apart v.commit u.commit)) (records-packed M S sized)
      ∙ pairwise_map (λ (v u : SlotRecord). stamps_apart v.commit u.commit) (λ (x y : Slot). stamps_apart (commit_of x) (commit_of y)) lay S.slots
      (λ x y. ap₂ stamps_apart (commit-laid x) (commit-laid y))

  holders : area_holders_right M (pack M S) ≡ state_holders_right S
  unfolding area_holders_right state_holders_right holders_right
  holders =
      let record-test : ℕ → ℕ → Bool = λ c s. same (eqb (get_or S.cells c no_cell).holder (suc s)) (record_holds (get_or (map lay S.slots) s empty) c) in
      let slot-test : ℕ → ℕ → Bool = λ c s. same (eqb (get_or S.cells c no_cell).holder (suc s)) (holds (slot_at S s) c) in
      rw (cells-packed M S sized, records-packed M S sized, sized.slot_count)
      (every-ext (length S.cells) (λ c. leb (get_or S.cells c no_cell).holder M.slots and every M.slots (record-test c))
      (λ c. leb (get_or S.cells c no_cell).holder M.slots and every M.slots (slot-test c))
      (λ c h.
      ap (λ (t : Bool). leb (get_or S.cells c no_cell).holder M.slots and t)
      (every-ext M.slots (record-test c) (slot-test c)
      (λ s b.
      ap (λ (t : Bool). same (eqb (get_or S.cells c no_cell).holder (suc s)) t)
      (ap (λ (v : SlotRecord). record_holds v c) (get_or-map lay S.slots s idle) ∙ holds-laid (slot_at S s) c)))))

  pub but-holders : well_formed_but_holders M (pack M S) ≡ state_right_but_holders M S
  unfolding well_formed_but_holders state_right_but_holders
  but-holders =
      rw (lengths, version, shape, slots, commits)
      (simp true-and (rw (count-packed M S, cells-packed M S sized, clock-packed M S sized)))

  pub packed-right : well_formed M (pack M S) ≡ state_right M S
  unfolding well_formed state_right
  packed-right = ap₂ ◌and◌ but-holders holders
