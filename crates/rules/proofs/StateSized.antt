-- A well-formed state's numbers fit their bytes: stamps are at most the clock, words are legal, and the rest is counted.
use mathlib.Core.Bool.{Bool, true, false}
use mathlib.Core.List.{List, [], ◌++◌}
use mathlib.Core.Path.{◌≡◌, refl}
use Prim.Native.Nat.{ℕ, ◌*◌, ◌-◌, ◌^◌, ◌<◌, ◌≤◌}
use native.Mathlib.Nat.{mul-le-mul_left, one-le-pow}
use native.Mathlib.Omega.{arith}
use lib.Dec.{ltb}
use lib.ListN.{length, get_or, replicate, get_or-append}
use borrow.Author.Tests.{leb-true, eqb-true, ltb-true, ltb-false}
use Rattle.value.proofs.RoundTrip.{legal-bound}
use Rattle.slot.specs.declared.ReadEntry.{ReadEntry}
use Rattle.slot.specs.declared.WriteEntry.{WriteEntry}
use Rattle.slot.specs.Logs.{busy_record}
use Rattle.slot.specs.Layout.{read_capacity, write_capacity, no_read, no_write}
use Rattle.slot.specs.Fit.{Fitting}
use Rattle.slot.specs.Logic.{◌and◌, all, pairwise}
use Rattle.slot.proofs.Padding.{length-padded, padded-zero}
use Rattle.rules.specs.Model.{Model, last_stamp, cell_size, FitsBytes}
use Rattle.rules.specs.State.{State, Slot, idle, opened, locking, twilight, publishing, cell_count, cell_at, slot_at, no_cell, reads_of, writes_of, start_of}
use Rattle.rules.specs.LogsRight.{cell_right, logged_right, reads_right, writes_right, commit_between, cell_count_right}
use Rattle.rules.specs.StateRight.{logs_right, slot_right, shape_right, state_right_but_holders}
use Rattle.rules.specs.Layout.{lay}
use Rattle.rules.specs.declared.Cell.{Cell}
use Rattle.slot.proofs.Logic.{and_left, and_right, all-at}
use Rattle.rules.proofs.Places.{Sized}

-- an entry of a padded log meets what each of the log's entries and the zero entry meet
pub padded-each : {A : Type 0} (P : A → Type 0) (d : A) (l : List A) (n : ℕ) → P d → ((i : ℕ) → i < length l → P (get_or l i d))
    → (i : ℕ) → i < n → P (get_or (l ++ replicate (n - length l) d) i d)
padded-each P d l n none each i h = by_place (ltb i (length l)) refl
  where
    by_place : (b : Bool) → ltb i (length l) ≡ b → P (get_or (l ++ replicate (n - length l) d) i d)
    by_place true e = rw (get_or-append l (replicate (n - length l) d) d i (ltb-true _ _ e)) (each i (ltb-true _ _ e))
    by_place false e = rw (padded-zero d l n i (ltb-false _ _ e) h) none

-- what `logs_right` gives
pub record LogsHold (cells : List Cell) (clock start : ℕ) (reads : List ReadEntry) (writes : List WriteEntry) : Type 0 where
  pub reads_few : length reads ≤ read_capacity
  pub writes_few : length writes ≤ write_capacity
  pub reads_hold : reads_right cells reads ≡ true
  pub writes_hold : writes_right cells writes ≡ true
  pub start_holds : start ≤ clock

pub logs-hold : (cells : List Cell) (clock start : ℕ) (reads : List ReadEntry) (writes : List WriteEntry)
    → logs_right cells clock start reads writes ≡ true → LogsHold cells clock start reads writes
unfolding logs_right
logs-hold cells clock start reads writes p =
    let p1 = and_right _ _ p in
    let p2 = and_right _ _ p1 in
    let p3 = and_right _ _ p2 in
    record {
      reads_few = leb-true _ _ (and_left _ _ p);
      writes_few = leb-true _ _ (and_left _ _ p1);
      reads_hold = and_left _ _ p2;
      writes_hold = and_left _ _ p3;
      start_holds = leb-true _ _ (and_right _ _ p3);
    }

-- a right slot's logs are right in whatever phase it is: those of an idle slot are empty
pub slot-logs-hold : (cells : List Cell) (clock : ℕ) (x : Slot) → slot_right cells clock x ≡ true → LogsHold cells clock (start_of x) (reads_of x) (writes_of x)
unfolding slot_right reads_right writes_right all pairwise ◌and◌
slot-logs-hold cells clock idle p =
    record { reads_few = omega arith; writes_few = omega arith; reads_hold = refl; writes_hold = refl; start_holds = omega arith }
slot-logs-hold cells clock (opened start reads writes) p = logs-hold cells clock start reads writes (and_left _ _ p)
slot-logs-hold cells clock (locking taken start reads writes) p = logs-hold cells clock start reads writes (and_left _ _ p)
slot-logs-hold cells clock (twilight ignoring start commit reads writes) p = logs-hold cells clock start reads writes (and_left _ _ p)
slot-logs-hold cells clock (publishing ignoring taken start commit reads writes) p = logs-hold cells clock start reads writes (and_left _ _ p)

module _ (w : ℕ) (cells : List Cell) (clock : ℕ) (clock_fits : clock < 256 ^ w) where
  -- a record with right logs and a commit stamp at most the clock fits
  busy-fits : (phase : ℕ) (ignoring : Bool) (taken start commit : ℕ) (reads : List ReadEntry) (writes : List WriteEntry)
      → LogsHold cells clock start reads writes → commit ≤ clock → Fitting w (busy_record phase ignoring taken start commit reads writes)
  unfolding reads_right writes_right logged_right
  busy-fits phase ignoring taken start commit reads writes logs c =
      let started = logs.start_holds in
      record {
        start_fits = omega arith;
        commit_fits = omega arith;
        reads_length = length-padded no_read reads read_capacity logs.reads_few;
        writes_length = length-padded no_write writes write_capacity logs.writes_few;
        read_words =
            padded-each (λ (e : ReadEntry). e.word < 2 ^ 32) no_read reads read_capacity (omega arith)
            (λ i h. legal-bound _ _ (and_right _ _ (all-at (λ (e : ReadEntry). logged_right cells e.cell e.word) reads no_read (and_left _ _ logs.reads_hold) i h)));
        write_words =
            padded-each (λ (e : WriteEntry). e.word < 2 ^ 32) no_write writes write_capacity (omega arith)
            (λ i h. legal-bound _ _ (and_right _ _ (all-at (λ (e : WriteEntry). logged_right cells e.cell e.word) writes no_write (and_left _ _ logs.writes_hold) i h)));
      }

  pub slot-fitting : (x : Slot) → slot_right cells clock x ≡ true → Fitting w (lay x)
  unfolding slot_right commit_between
  slot-fitting idle p =
      record {
        start_fits = omega arith;
        commit_fits = omega arith;
        reads_length = refl;
        writes_length = refl;
        read_words = padded-each (λ (e : ReadEntry). e.word < 2 ^ 32) no_read [] read_capacity (omega arith) (λ i h. absurd (omega arith));
        write_words = padded-each (λ (e : WriteEntry). e.word < 2 ^ 32) no_write [] write_capacity (omega arith) (λ i h. absurd (omega arith));
      }
  slot-fitting (opened start reads writes) p =
      busy-fits 1 false 0 start 0 reads writes (logs-hold cells clock start reads writes (and_left _ _ p)) (omega arith)
  slot-fitting (locking taken start reads writes) p =
      busy-fits 2 false taken start 0 reads writes (logs-hold cells clock start reads writes (and_left _ _ p)) (omega arith)
  slot-fitting (twilight ignoring start commit reads writes) p =
      busy-fits 3 ignoring 0 start commit reads writes (logs-hold cells clock start reads writes (and_left _ _ p))
      (leb-true _ _ (and_right _ _ (and_left _ _ (and_right _ _ p))))
  slot-fitting (publishing ignoring taken start commit reads writes) p =
      busy-fits 4 ignoring taken start commit reads writes (logs-hold cells clock start reads writes (and_left _ _ p))
      (leb-true _ _ (and_right _ _ (and_left _ _ (and_right _ _ (and_right _ _ p)))))

module _ (M : Model) (fits : FitsBytes M) (S : State) (right : state_right_but_holders M S ≡ true) where
  clock-fits : S.clock < 256 ^ M.stamp_bytes
  unfolding state_right_but_holders shape_right
  clock-fits =
      let below : S.clock ≤ last_stamp M = leb-true _ _ (and_left _ _ (and_left _ _ right)) in
      let some : 0 < 256 ^ M.stamp_bytes = one-le-pow M.stamp_bytes 256 (omega arith) in
      omega arith

  pub state-sized : Sized M S
  unfolding state_right_but_holders shape_right cell_count_right cell_right
  state-sized =
      let few : cell_count S ≤ M.cells = leb-true _ _ (and_right _ _ (and_left _ _ (and_right _ _ right))) in
      let more : cell_size M * cell_count S ≤ cell_size M * M.cells = mul-le-mul_left (cell_size M) few in
      let whole = fits.length_fits in
      let count : length S.slots ≡ M.slots = eqb-true _ _ (and_right _ _ (and_left _ _ right)) in
      let rest = and_right _ _ (and_right _ _ right) in
      let cell : (c : ℕ) → c < cell_count S → cell_right S.clock (cell_at S c) ≡ true = all-at (cell_right S.clock) S.cells no_cell (and_left _ _ rest) in
      record {
        length_fits = omega arith;
        clock_fits = clock-fits;
        slot_count = count;
        cells_fit = λ c h.
            let stamp : (cell_at S c).stamp ≤ S.clock = leb-true _ _ (and_right _ _ (cell c h)) in
            let clock = clock-fits in
            record { word_fits = legal-bound _ _ (and_left _ _ (cell c h)); stamp_fits = omega arith };
        slots_fit = λ s h.
            slot-fitting M.stamp_bytes S.cells S.clock clock-fits (slot_at S s)
            (all-at (slot_right S.cells S.clock) S.slots idle (and_left _ _ (and_right _ _ rest)) s (rw count h));
      }
