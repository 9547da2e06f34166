-- What a slot has to hold is a part of its write log: the first "taken", all, or all but the first "taken". In a right slot the part is within the log,
-- and its cells are below n.
use mathlib.Core.Bool.{true, false}
use mathlib.Core.List.{List}
use mathlib.Core.Path.{◌≡◌, refl, sym, ◌∙◌, ap}
use Prim.Native.Nat.{ℕ, ◌+◌, ◌*◌, ◌<◌, ◌≤◌}
use native.Mathlib.Omega.{arith}
use borrow.Author.Tests.{eq-eqb, ne_eqb, leb-true, ltb-true}
use lib.Dec.{eqb}
use lib.ListN.{get_or, take, drop}
use Rattle.wire.specs.Table.{tab}
use Rattle.slot.specs.declared.WriteEntry.{WriteEntry}
use Rattle.slot.specs.Layout.{write_of, slot_of}
use Rattle.slot.specs.Logs.{writes_cell, write_log}
use Rattle.slot.proofs.Logic.{and_left, and_right}
use Rattle.rules.specs.Model.{controller}
use Rattle.rules.specs.Layout.{cells_in, clock_in}
use Rattle.rules.specs.LogsRight.{writes_right}
use Rattle.rules.specs.AreaRight.{taken_right, busy_right, slot_place_right, record_holds}
use Rattle.logcheck.specs.Frame.{Framed}
use Rattle.logcheck.specs.Logged.{Counted, logs_right_in}
use Rattle.logcheck.proofs.Chains.{pick_yes, pick_no}
use Rattle.logcheck.proofs.Tables.{take-tab}
use Rattle.logcheck.proofs.CellPlaces.{logged-below}
use Rattle.logcheck.proofs.LogLaws.{word_in, writes_at}
use Rattle.slotcheck.specs.SlotParts.{numbers_right}
use Rattle.slotcheck.proofs.SlotLaws.{counted, in_code_order, busy-order}
use Rattle.wellformed.specs.Claims.{in_part, Part, SlotRight}

-- a part of the write log that may be read, and has just the cells that the slot has to hold
pub record Held (n : ℕ) (l : List ℕ) (from to : ℕ) : Type 0 where
  pub part : Part n l from to
  pub holds : (c : ℕ) → in_part l from to c ≡ record_holds (slot_of 8 l) c

-- in phases 0 and 1 nothing
pub holds-none : (l : List ℕ) → (get_or l 0 0 ≡ 2 → ⊥) → (get_or l 0 0 ≡ 3 → ⊥) → (get_or l 0 0 ≡ 4 → ⊥) → (c : ℕ) → record_holds (slot_of 8 l) c ≡ false
unfolding record_holds slot_of
holds-none l two three four c =
    sym (pick_no _ _ _ _ (ne_eqb _ _ two) (pick_no _ _ _ _ (ne_eqb _ _ three) (pick_no _ _ _ _ (ne_eqb _ _ four) refl)))

-- the entries of a slot's write log
entry : List ℕ → ℕ → WriteEntry
entry l i = write_of (drop (117 + 5 * i) l)

module _ (n : ℕ) (a : List ℕ) (f : Framed n a) (l : List ℕ) (right : SlotRight a l) where
  module _ (busy : get_or l 0 0 ≡ 0 → ⊥) where
    busy-right : busy_right controller (cells_in controller a) (clock_in controller a) l (slot_of 8 l) ≡ true
    unfolding slot_place_right slot_of
    busy-right = pick_no _ _ _ _ (ne_eqb _ _ busy) refl ∙ and_right _ _ right.right

    parts : in_code_order a (clock_in controller a) l ≡ true
    parts = busy-order a (clock_in controller a) l ∙ busy-right

    counts : Counted l
    counts = counted l right.size (and_left _ _ parts)

    writes : writes_right (cells_in controller a) (write_log (slot_of 8 l)) ≡ true
    unfolding logs_right_in
    writes = and_right _ _ (and_left _ _ (and_right _ _ parts))

    taken-right : taken_right (slot_of 8 l) ≡ true
    unfolding numbers_right
    taken-right = and_left _ _ (and_right _ _ (and_left _ _ (and_right _ _ (and_right _ _ parts))))

    log-part : (from to : ℕ) → from ≤ to → to ≤ get_or l 4 0 → Part n l from to
    log-part from to h within =
        record {
          size = right.size;
          order = h;
          within = omega (arith, counts.writes);
          below =
              λ i b.
              logged-below n a f (get_or l (117 + 5 * i) 0) (word_in l 117 5 1 i) (writes_at (cells_in controller a) l i counts.writes (omega arith) writes);
        }

    whole-log : take (get_or l 4 0) (tab 16 (entry l)) ≡ tab (get_or l 4 0) (entry l)
    whole-log = take-tab (entry l) (get_or l 4 0) 16 counts.writes

  -- in phase 2 the first "taken"
  pub held_first : (taken : ℕ) → taken ≡ get_or l 2 0 → get_or l 0 0 ≡ 2 → Held n l 0 taken
  unfolding in_part record_holds taken_right slot_of entry
  held_first taken e phase =
      let busy : get_or l 0 0 ≡ 0 → ⊥ = λ z. omega arith in
      let within : get_or l 2 0 ≤ get_or l 4 0 = leb-true _ _ (pick_yes _ _ _ _ (eq-eqb _ _ phase) refl ∙ taken-right busy) in
      let front : take (get_or l 2 0) (take (get_or l 4 0) (tab 16 (entry l))) ≡ tab (get_or l 2 0) (entry l) =
      ap (take (get_or l 2 0)) (whole-log busy) ∙ take-tab (entry l) (get_or l 2 0) (get_or l 4 0) within in
      rw e
      (record {
        part = log-part busy 0 (get_or l 2 0) (omega arith) within;
        holds = λ c. pick_yes _ _ _ _ (eq-eqb _ _ phase) (ap (λ (w : List WriteEntry). writes_cell w c) (sym front));
      })

  -- in phase 3 all
  pub held_all : (count : ℕ) → count ≡ get_or l 4 0 → get_or l 0 0 ≡ 3 → Held n l 0 count
  unfolding in_part record_holds slot_of entry
  held_all count e phase =
      let busy : get_or l 0 0 ≡ 0 → ⊥ = λ z. omega arith in
      rw e
      (record {
        part = log-part busy 0 (get_or l 4 0) (omega arith) (omega arith);
        holds =
            λ c.
            pick_no _ _ _ _ (ne_eqb (get_or l 0 0) 2 (λ d. omega arith))
            (pick_yes _ _ _ _ (eq-eqb _ _ phase) (ap (λ (w : List WriteEntry). writes_cell w c) (sym (whole-log busy))));
      })

  -- in phase 4 all but the first "taken"
  pub held-rest : (taken count : ℕ) → taken ≡ get_or l 2 0 → count ≡ get_or l 4 0 → get_or l 0 0 ≡ 4 → Held n l taken count
  unfolding in_part record_holds taken_right slot_of entry
  held-rest taken count d e phase =
      let busy : get_or l 0 0 ≡ 0 → ⊥ = λ z. omega arith in
      let not-two : eqb (get_or l 0 0) 2 ≡ false = ne_eqb (get_or l 0 0) 2 (λ z. omega arith) in
      let less : get_or l 2 0 < get_or l 4 0 =
      ltb-true _ _ (pick_no _ _ _ _ not-two (pick_yes _ _ _ _ (eq-eqb _ _ phase) refl) ∙ taken-right busy) in
      rw (d, e)
      (record {
        part = log-part busy (get_or l 2 0) (get_or l 4 0) (omega arith) (omega arith);
        holds =
            λ c.
            pick_no _ _ _ _ not-two
            (pick_no _ _ _ _ (ne_eqb (get_or l 0 0) 3 (λ z. omega arith))
            (pick_yes _ _ _ _ (eq-eqb _ _ phase) (ap (λ (w : List WriteEntry). writes_cell (drop (get_or l 2 0) w) c) (sym (whole-log busy)))));
      })
