-- What an operation that has begun knows of its slot and its set, and one read and the write of an open slot.
use mathlib.Core.Bool.{true, not, false≢true}
use mathlib.Core.List.{List, [], ◌∷◌, ◌++◌, map, map-append}
use mathlib.Core.Option.{none}
use mathlib.Core.Path.{◌≡◌, refl, sym, ◌∙◌, ap}
use Prim.Native.Nat.{ℕ, suc, pred, ◌<◌, ◌≤◌}
use native.Mathlib.Omega.{arith}
use lib.Dec.{eqb, leb}
use lib.ListN.{length, get_or, take, set as replaced, length-map}
use lib.Seq.{take-suc, length-take-le, get_or-take, get_or-set_same, set-set, set-get_or}
use borrow.Author.Tests.{eqb-true, eqb-false, ltb-true, leb-true, not-true, lt-leb, ne_eqb}
use Rattle.value.specs.Legal.{legal_word}
use Rattle.value.specs.Value.{parsed}
use Rattle.value.proofs.RoundTrip.{kind-back, word_back}
use Rattle.call.specs.declared.Answer.TheVariants.{Done}
use Rattle.call.specs.declared.Refusal.TheVariants.{ReadHeld, ReadNewer}
use Rattle.call.specs.Decode.{decoded}
use Rattle.slot.specs.declared.ReadEntry.{ReadEntry}
use Rattle.slot.specs.declared.WriteEntry.{WriteEntry}
use Rattle.slot.specs.Logic.{◌and◌, first, any}
use Rattle.slot.specs.Logs.{read_entry, write_entry, writes_cell, put_write}
use Rattle.slot.proofs.Logic.{and_left, and_right, every-at, all_of, all_map}
use Rattle.slot.proofs.Search.{none_of}
use Rattle.rules.specs.Model.{Model}
use Rattle.rules.specs.State.{State, Slot, idle, opened, locking, twilight, publishing, cell_count, cell_at, slot_at, start_of, turn}
use Rattle.rules.specs.StateRight.{state_right}
use Rattle.rules.specs.LogsRight.{cell_right}
use Rattle.rules.specs.Cells.{held_by_other, newer}
use Rattle.rules.specs.Outcome.{accepted, refuse_if}
use Rattle.rules.specs.Steps.{answer, read_shared, read, write}
use Rattle.rules.specs.Step.{step_of, step}
use Rattle.history.proofs.Right.{Right, right_of}
use Rattle.history.proofs.Keeps.Lists.{any_none}
use Rattle.wearset.specs.WearSet.{kind_due, set_length_right, cell_fits, place_right, set_right}
use Rattle.wearset.specs.OpenEmpty.{open_and_empty}
use Rattle.level.specs.Level.{read_of, write_of}
use Rattle.levelling.specs.AsCalls.{admitted}
use Rattle.levelling.specs.Leaves.{entry_of, with_logs}

-- a transaction that is open with empty logs
is-empty : (x : Slot) → open_and_empty x ≡ true → x ≡ opened (start_of x) [] []
is-empty idle e = absurd (false≢true e)
is-empty (opened start [] []) e = refl
is-empty (opened start [] (w ∷ writes)) e = absurd (false≢true e)
is-empty (opened start (r ∷ reads) writes) e = absurd (false≢true e)
is-empty (locking taken start reads writes) e = absurd (false≢true e)
is-empty (twilight ignoring start commit reads writes) e = absurd (false≢true e)
is-empty (publishing ignoring taken start commit reads writes) e = absurd (false≢true e)

-- what is known of a well-formed state in which the operation is admitted
pub record Begun (M : Model) (S : State) (set : List ℕ) (slot : ℕ) : Type 0 where
  pub right : Right M S
  -- the slot is one of the model's, and open with empty logs
  pub slot_inside : (leb 1 slot and leb slot M.slots) ≡ true
  pub slot_there : pred slot < length S.slots
  pub slot_empty : slot_at S (pred slot) ≡ opened (start_of (slot_at S (pred slot))) [] []
  -- the set has its length, and each of its cells is there, of its kind, and no earlier one
  pub short : length set ≤ 16
  pub cell_inside : (place : ℕ) → place < length set → get_or set place 0 < cell_count S
  pub cell_kind : (place : ℕ) → place < length set → (cell_at S (get_or set place 0)).kind ≡ kind_due place
  pub cell_new : (place earlier : ℕ) → place < length set → earlier < place → get_or set earlier 0 ≡ get_or set place 0 → ⊥
  -- every cell's word is legal
  pub cell_legal : (c : ℕ) → c < cell_count S → legal_word (cell_at S c).kind (cell_at S c).word ≡ true

module _ (M : Model) (S : State) (set : List ℕ) (slot : ℕ) (right : state_right M S ≡ true) (adm : admitted M S set slot ≡ true) where
  -- the set, and each of its places
  set-right : set_right S set ≡ true
  unfolding admitted
  set-right = and_left _ _ adm

  place-right : (place : ℕ) → place < length set → place_right S set place ≡ true
  unfolding set_right
  place-right = every-at (length set) (place_right S set) (and_right _ _ set-right)

  -- all of it from the tests
  pub is-begun : Begun M S set slot
  unfolding admitted set_right set_length_right cell_fits place_right cell_right
  is-begun =
      let inside = and_left _ _ (and_right _ _ adm) in
      record {
        right = right_of M S right;
        slot_inside = inside;
        slot_there = omega (arith, (right_of M S right).slot_count, leb-true 1 slot (and_left _ _ inside), leb-true slot M.slots (and_right _ _ inside));
        slot_empty = is-empty (slot_at S (pred slot)) (and_right _ _ (and_right _ _ adm));
        short = leb-true _ _ (and_right _ _ (and_right _ _ (and_left _ _ set-right)));
        cell_inside = λ place h. ltb-true _ _ (and_left _ _ (and_left _ _ (place-right place h)));
        cell_kind = λ place h. eqb-true _ _ (and_right _ _ (and_left _ _ (place-right place h)));
        cell_new = λ place earlier h l.
            eqb-false _ _
            (not-true _
            (every-at place (λ e. not (eqb (get_or set e 0) (get_or set place 0))) (and_right _ _ (place-right place h)) earlier l));
        cell_legal = λ c h. and_left _ _ ((right_of M S right).cell c h);
      }

-- a read of a cell that stands in neither log, where the write log is empty
shared-read : (M : Model) (S : State) (slot c start : ℕ) (reads : List ReadEntry) → (leb 1 slot and leb slot M.slots) ≡ true
    → slot_at S (pred slot) ≡ opened start reads [] → c < cell_count S → read_entry reads c ≡ none → length reads < 16
    → step M S (read_of slot c) ≡ refuse_if (held_by_other (pred slot) (cell_at S c)) (ReadHeld (cell_at S c).holder)
    (refuse_if (newer start (cell_at S c)) ReadNewer
    (accepted (answer S c (cell_at S c).word) (turn S (pred slot) S.clock S.cells (opened start (reads ++ (entry_of S c ∷ [])) []))))
unfolding step step_of decoded read read_shared write_entry first ◌and◌
shared-read M S slot c start reads inside x h lacks room =
    rw (inside, x, lt-leb (cell_count S) c h, lacks, lt-leb 16 (length reads) room)

-- the write of a count to a cell of kind 2, where the write log is empty
pub count-write : (M : Model) (S : State) (slot c count start : ℕ) (reads : List ReadEntry) → (leb 1 slot and leb slot M.slots) ≡ true
    → slot_at S (pred slot) ≡ opened start reads [] → c < cell_count S → (cell_at S c).kind ≡ 2 → legal_word 2 count ≡ true
    → step M S (write_of slot c count) ≡ accepted Done (turn S (pred slot) S.clock S.cells (opened start reads (record { cell = c; word = count } ∷ [])))
unfolding step step_of decoded parsed write writes_cell any put_write ◌and◌
count-write M S slot c count start reads inside x h kind legal =
    rw (legal, inside, x, lt-leb (cell_count S) c h, kind-back 2 count legal, word_back 2 count legal, legal, kind)

module _ (M : Model) (S : State) (set : List ℕ) (slot : ℕ) (b : Begun M S set slot) where
  -- the slot, from 0, and its transaction's start
  abbrev i : ℕ
  i = pred slot

  abbrev start : ℕ
  start = start_of (slot_at S i)

  -- the logs that stand in the slot
  pub slot-with : (cells : List ℕ) (writes : List WriteEntry) → slot_at (with_logs S slot cells writes) i ≡ opened start (map (entry_of S) cells) writes
  slot-with cells writes = get_or-set_same S.slots i (opened start (map (entry_of S) cells) writes) idle b.slot_there

  -- logs that are put anew
  pub logs-anew : (cells more : List ℕ) (writes : List WriteEntry)
      → turn (with_logs S slot cells []) i S.clock S.cells (opened start (map (entry_of S) more) writes) ≡ with_logs S slot more writes
  logs-anew cells more writes =
      ap (λ (slots : List Slot). record { clock = S.clock; cells = S.cells; slots = slots })
      (set-set S.slots i (opened start (map (entry_of S) cells) []) (opened start (map (entry_of S) more) writes))

  -- with empty logs it is the state itself
  pub no-logs : with_logs S slot [] [] ≡ S
  no-logs =
      ap (λ (slots : List Slot). record { clock = S.clock; cells = S.cells; slots = slots })
      (ap (replaced S.slots i) (sym b.slot_empty) ∙ set-get_or S.slots i idle)

  -- a map of the first cells, with one more
  pub map_next : {A : Type 0} (f : ℕ → A) (n : ℕ) → n < length set → map f (take (suc n) set) ≡ map f (take n set) ++ (f (get_or set n 0) ∷ [])
  map_next f n h = ap (map f) (take-suc set n 0 h) ∙ map-append f (take n set) (get_or set n 0 ∷ [])

  -- the set's next cell is not in the read log
  not-read : (n : ℕ) → n < length set → read_entry (map (entry_of S) (take n set)) (get_or set n 0) ≡ none
  unfolding read_entry
  not-read n h =
      let c = get_or set n 0 in
      let few : length (take n set) ≡ n = length-take-le n set (omega arith) in
      none_of _ _
      (any_none (λ (e : ReadEntry). eqb e.cell c) (map (entry_of S) (take n set))
      (all_map (λ (e : ReadEntry). not (eqb e.cell c)) (entry_of S) (take n set)
      ∙ all_of (λ d. not (eqb d c)) (take n set) 0
      (λ k l. rw (get_or-take n set k 0 (omega arith)) (ap not (ne_eqb (get_or set k 0) c (b.cell_new n k h (omega arith)))))))

  -- the set's next cell: it can't be read, or it joins the log
  pub read_next : (n : ℕ) → n < length set
      → step M (with_logs S slot (take n set) []) (read_of slot (get_or set n 0))
      ≡ refuse_if (held_by_other i (cell_at S (get_or set n 0))) (ReadHeld (cell_at S (get_or set n 0)).holder)
      (refuse_if (newer start (cell_at S (get_or set n 0))) ReadNewer
      (accepted (answer S (get_or set n 0) (cell_at S (get_or set n 0)).word) (with_logs S slot (take (suc n) set) [])))
  read_next n h =
      let short = b.short in
      let few : length (map (entry_of S) (take n set)) ≡ n = length-map (take n set) (entry_of S) ∙ length-take-le n set (omega arith) in
      shared-read M (with_logs S slot (take n set) []) slot (get_or set n 0) start (map (entry_of S) (take n set)) b.slot_inside (slot-with (take n set) [])
      (b.cell_inside n h) (not-read n h) (omega arith)
      ∙ rw (← (map_next (entry_of S) n h), logs-anew (take n set) (take (suc n) set) [])
