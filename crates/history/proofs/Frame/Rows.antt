-- Two states that a step can't tell apart lead to the same: each test of the step's row looks only at the slot, n, the clock and the cells that the step
-- names or logs, so both rows go the same way.
use mathlib.Core.Bool.{Bool, true, false, not}
use mathlib.Core.List.{List, [], ◌∷◌, ◌++◌, map}
use mathlib.Core.Option.{some}
use mathlib.Core.Path.{◌≡◌, refl, sym, ◌∙◌, ap, ap₂}
use Prim.Native.Nat.{ℕ, suc, ◌<◌}
use lib.Dec.{eqb, ltb, leb}
use lib.ListN.{length, get_or}
use borrow.Author.Tests.{eq-eqb, leb-false}
use Rattle.value.specs.declared.CellValue.{CellValue}
use Rattle.value.specs.Legal.{legal_word}
use Rattle.value.specs.Value.{kind_of, word_of, value_of}
use Rattle.call.specs.declared.Step.{Step}
use Rattle.call.specs.declared.Step.TheVariants.{Begin, Read, Write, Close, Lock, Enter, Reread, Update, Ask, Reload, Ignore, Finish, Publish, GiveUp}
use Rattle.call.specs.declared.Answer.{Answer}
use Rattle.call.specs.declared.Answer.TheVariants.{Done, Verdict, Value, Aborted}
use Rattle.call.specs.declared.Refusal.TheVariants.{NotAllowed, MarkedWritten, NoSuchCell, IllegalValue, OtherKind, LogFull, ReadHeld, ReadNewer, LockHeld, ReloadHeld, LastStamp}
use Rattle.slot.specs.declared.ReadEntry.{ReadEntry}
use Rattle.slot.specs.declared.WriteEntry.{WriteEntry}
use Rattle.slot.specs.Layout.{read_capacity, write_capacity, no_read, no_write}
use Rattle.rules.specs.declared.Cell.{Cell}
use Rattle.slot.specs.Logic.{◌and◌, ◌or◌}
use Rattle.rules.specs.Model.{Model, last_stamp}
use Rattle.rules.specs.State.{State, Slot, idle, opened, twilight, cell_at, slot_at, turn, reads_of, writes_of, no_cell}
use Rattle.slot.specs.Logs.{read_entry, reads_cell, write_entry, writes_cell, some_marked, marked_written}
use Rattle.rules.specs.Cells.{held_by_other, newer, with_mark, reloaded, obstacle, taken_by, published_as, free_all}
use Rattle.rules.specs.Outcome.{Outcome, accepted, inside_cells, fitting_value, below_last_stamp}
use Rattle.rules.specs.Steps.{answer, begin, read_shared, read, write, close, lock, enter, reread, update, ask, reload, ignore, finish, publish, give_up}
use Rattle.rules.specs.Step.{row}
use Rattle.slot.proofs.Logic.{true-or, or-true}
use Rattle.history.specs.Frame.{names_cell, concerns, Alike}
use Rattle.history.proofs.Keeps.Lists.{set_same, any_at, first-agree, first-elim, map-agree}
use Rattle.history.proofs.Keeps.Logs.{logged-there}
use Rattle.rules.proofs.Freed.{freed_from}
use Rattle.history.proofs.Keeps.Kinds.{free-cell}
use Rattle.history.proofs.Frame.Both.{Acceptance, Matches, both-refused, both-accepted, both_cond, both-refuse, both_found, both-log, both-idle, both-open, both-locking, both-twilight, both-publishing, both-uncommitted}

module _ {S S' : State} {i : ℕ} {names : ℕ → Bool} (a : Alike S S' i names) where
  -- the cells that the step names, and those of a log's entries, are the same
  named : (c : ℕ) → names c ≡ true → cell_at S c ≡ cell_at S' c
  unfolding concerns
  named c p = a.cells c (rw p (true-or _))

  at_read : (reads : List ReadEntry) → reads_of (slot_at S i) ≡ reads → (k : ℕ) → k < length reads
      → cell_at S (get_or reads k no_read).cell ≡ cell_at S' (get_or reads k no_read).cell
  unfolding concerns reads_cell
  at_read reads e k h =
      a.cells (get_or reads k no_read).cell
      (rw (e, any_at (λ (y : ReadEntry). eqb y.cell (get_or reads k no_read).cell) reads no_read k h (eq-eqb (get_or reads k no_read).cell _ refl), true-or) (or-true _))

  at-write : (writes : List WriteEntry) → writes_of (slot_at S i) ≡ writes → (k : ℕ) → k < length writes
      → cell_at S (get_or writes k no_write).cell ≡ cell_at S' (get_or writes k no_write).cell
  unfolding concerns
  at-write writes e k h =
      a.cells (get_or writes k no_write).cell (rw (e, logged-there writes k (get_or writes k no_write).cell h refl, or-true) (or-true _))

  -- so the read log gets the same marks and the same words, and meets the same obstacle
  same-marks : (reads : List ReadEntry) → reads_of (slot_at S i) ≡ reads → (start : ℕ) → map (with_mark S i start) reads ≡ map (with_mark S' i start) reads
  unfolding with_mark
  same-marks reads e start =
      map-agree (with_mark S i start) (with_mark S' i start) reads no_read
      (λ k h.
      let y = get_or reads k no_read in
      ap (λ (x : Cell). record { cell = y.cell; mark = held_by_other i x or newer start x; word = y.word }) (at_read reads e k h))

  same-words : (reads : List ReadEntry) → reads_of (slot_at S i) ≡ reads → map (reloaded S) reads ≡ map (reloaded S') reads
  unfolding reloaded
  same-words reads e =
      map-agree (reloaded S) (reloaded S') reads no_read
      (λ k h. ap (λ (x : Cell). record { cell = (get_or reads k no_read).cell; mark = false; word = x.word }) (at_read reads e k h))

  same-obstacle : (reads : List ReadEntry) → reads_of (slot_at S i) ≡ reads → obstacle S i reads ≡ obstacle S' i reads
  unfolding obstacle
  same-obstacle reads e = first-agree _ _ reads no_read (λ k h. ap (held_by_other i) (at_read reads e k h))

  at-obstacle : (reads : List ReadEntry) → reads_of (slot_at S i) ≡ reads → (y : ReadEntry) → obstacle S i reads ≡ some y → cell_at S y.cell ≡ cell_at S' y.cell
  unfolding obstacle
  at-obstacle reads e y = first-elim (λ (x : ReadEntry). cell_at S x.cell ≡ cell_at S' x.cell) _ reads no_read y (at_read reads e)

  -- the tests that look at n, at the named cell's kind and at the clock
  pub inside : (c : ℕ) (o o' : Outcome) → Matches S S' i o o' → Matches S S' i (inside_cells S c o) (inside_cells S' c o')
  inside c o o' m = both-refuse _ _ NoSuchCell NoSuchCell o o' (ap (λ (n : ℕ). leb n c) a.count) refl (tt, tt) (λ e. m)

  fitting : (c : ℕ) (v : CellValue) (o o' : Outcome) → names c ≡ true → Matches S S' i o o' → Matches S S' i (fitting_value S c v o) (fitting_value S' c v o')
  fitting c v o o' n m =
      both-refuse (not (legal_word (kind_of v) (word_of v))) _ IllegalValue IllegalValue _ _ refl refl (tt, tt)
      (λ e.
      both-refuse _ _ OtherKind OtherKind o o' (ap (λ (y : Cell). not (eqb (kind_of v) y.kind)) (named c n)) refl (tt, tt) (λ q. m))

  stamp : (M : Model) (o o' : Outcome) → Matches S S' i o o' → Matches S S' i (below_last_stamp M S o) (below_last_stamp M S' o')
  stamp M o o' m =
      both-refuse _ _ LastStamp LastStamp o o' (ap (λ (n : ℕ). eqb n (last_stamp M)) a.clock) refl (tt, tt) (λ e. m)

  -- nothing changes; and a log answers for the named cell
  stays : (r r' : Answer) → r ≡ r' → Acceptance r → Matches S S' i (accepted r S) (accepted r' S')
  stays r r' e code = both-accepted e code (record { clock = a.clock; slot = λ n. a.slot; cells = λ c q. q })

  answers : (c w : ℕ) → names c ≡ true → Matches S S' i (accepted (answer S c w) S) (accepted (answer S' c w) S')
  answers c w n = stays (answer S c w) (answer S' c w) (ap (λ (y : Cell). Value (value_of y.kind w)) (named c n)) tt

  -- the slot turns, and cells that were the same stay so; or no cell changes; or all that the slot holds are freed
  turns : (r r' : Answer) (k k' : ℕ) (cells cells' : List Cell) (x x' : Slot) → r ≡ r' → Acceptance r → k ≡ k' → x ≡ x'
      → ((c : ℕ) → cell_at S c ≡ cell_at S' c → get_or cells c no_cell ≡ get_or cells' c no_cell)
      → Matches S S' i (accepted r (turn S i k cells x)) (accepted r' (turn S' i k' cells' x'))
  turns r r' k k' cells cells' x x' e code p q f =
      both-accepted e code (record { clock = p; slot = λ n. set_same S.slots S'.slots i i x x' idle n (λ h. q) a.slot; cells = f })

  steady : (r r' : Answer) (x x' : Slot) → r ≡ r' → Acceptance r → x ≡ x'
      → Matches S S' i (accepted r (turn S i S.clock S.cells x)) (accepted r' (turn S' i S'.clock S'.cells x'))
  steady r r' x x' e code q = turns r r' S.clock S'.clock S.cells S'.cells x x' e code a.clock q (λ c p. p)

  done : (x : Slot) → Matches S S' i (accepted Done (turn S i S.clock S.cells x)) (accepted Done (turn S' i S'.clock S'.cells x))
  done x = steady Done Done x x refl tt refl

  frees : (r : Answer) → Acceptance r
      → Matches S S' i (accepted r (turn S i S.clock (free_all i S.cells) idle)) (accepted r (turn S' i S'.clock (free_all i S'.cells) idle))
  frees r code =
      turns r r _ _ _ _ idle idle refl code a.clock refl
      (λ c e. free-cell i S.cells c ∙ ap (freed_from i) e ∙ sym (free-cell i S'.cells c))

module _ (M : Model) (S S' : State) (i : ℕ) where
  pub matches : (s : Step) → Alike S S' i (names_cell s) → Matches S S' i (row M S i s) (row M S' i s)
  unfolding begin read read_shared write close lock enter reread update ask reload ignore finish publish give_up
  matches Begin a =
      rw (← a.slot)
      (both-idle (slot_at S i) _ _ λ x.
      steady a Done Done _ _ refl tt (ap (λ (k : ℕ). opened k [] []) a.clock))
  matches (Read c) a =
      rw (← a.slot)
      (both-open (slot_at S i) _ _ λ start reads writes x.
      let here : cell_at S c ≡ cell_at S' c = named a c (eq-eqb c c refl) in
      inside a c _ _
      (both_found (write_entry writes c) _ _ _ _ _ refl (λ e w. answers a c e.word (eq-eqb c c refl)) λ w.
      both_found (read_entry reads c) _ _ _ _ _ refl (λ e w. answers a c e.word (eq-eqb c c refl)) λ r.
      both-refuse (leb read_capacity (length reads)) _ LogFull LogFull _ _ refl refl (tt, tt) λ room.
      both-refuse _ _ (ReadHeld (cell_at S c).holder) (ReadHeld (cell_at S' c).holder) _ _ (ap (held_by_other i) here) (ap (λ (y : Cell). ReadHeld y.holder) here) (tt, tt) λ held.
      both-refuse _ _ ReadNewer ReadNewer _ _ (ap (newer start) here) refl (tt, tt) λ new.
      steady a (answer S c (cell_at S c).word) _ _ _ (ap (λ (y : Cell). Value (value_of y.kind y.word)) here) tt
      (ap (λ (y : Cell). opened start (reads ++ (record { cell = c; mark = false; word = y.word } ∷ [])) writes) here)))
  matches (Write c v) a =
      rw (← a.slot)
      (both-open (slot_at S i) _ _ λ start reads writes x.
      inside a c _ _
      (fitting a c v _ _ (eq-eqb c c refl)
      (both-refuse (not (writes_cell writes c) and leb write_capacity (length writes)) _ LogFull LogFull _ _ refl refl (tt, tt) λ room.
      done a _)))
  matches Close a = rw (← a.slot) (both-open (slot_at S i) _ _ λ start reads writes x. done a _)
  matches Lock a =
      rw (← a.slot)
      (both-locking (slot_at S i) _ _ λ count start reads writes x.
      both-refuse (leb (length writes) count) _ NotAllowed NotAllowed _ _ refl refl (tt, tt) λ missing.
      let c = (get_or writes count no_write).cell in
      let here : cell_at S c ≡ cell_at S' c = at-write a writes (ap writes_of x) count (leb-false _ _ missing) in
      both-refuse _ _ (LockHeld c (cell_at S c).holder) (LockHeld c (cell_at S' c).holder) _ _ (ap (held_by_other i) here) (ap (λ (y : Cell). LockHeld c y.holder) here)
      (tt, tt) λ free.
      turns a Done Done _ _ _ _ _ _ refl tt a.clock refl
      (λ d e. set_same S.cells S'.cells c d _ _ no_cell a.count (λ q. ap (taken_by i) here) e))
  matches Enter a =
      rw (← a.slot)
      (both-locking (slot_at S i) _ _ λ count start reads writes x.
      both-refuse (ltb count (length writes)) _ NotAllowed NotAllowed _ _ refl refl (tt, tt) λ whole.
      stamp a M _ _
      (let marks = same-marks a reads (ap reads_of x) start in
      turns a (Verdict (not (some_marked (map (with_mark S i start) reads)))) _ _ _ _ _ _ _ (ap (λ (l : List ReadEntry). Verdict (not (some_marked l))) marks) tt (ap suc a.clock)
      (ap₂ (λ (k : ℕ) (l : List ReadEntry). twilight false start (suc k) l writes) a.clock marks) (λ c e. e)))
  matches (Reread c) a =
      rw (← a.slot)
      (both-twilight (slot_at S i) _ _ λ ignoring start commit reads writes x.
      inside a c _ _
      (both-log (read_entry reads c) _ _ λ e r. answers a c e.word (eq-eqb c c refl)))
  matches (Update c v) a =
      rw (← a.slot)
      (both-twilight (slot_at S i) _ _ λ ignoring start commit reads writes x.
      inside a c _ _
      (fitting a c v _ _ (eq-eqb c c refl)
      (both-log (write_entry writes c) _ _ λ e w. done a _)))
  matches (Ask c) a =
      rw (← a.slot)
      (both-twilight (slot_at S i) _ _ λ ignoring start commit reads writes x.
      inside a c _ _ (both-log (read_entry reads c) _ _ λ e r. stays a (Verdict e.mark) _ refl tt))
  matches Reload a =
      rw (← a.slot)
      (both-twilight (slot_at S i) _ _ λ ignoring start commit reads writes x.
      both_found (obstacle S i reads) (obstacle S' i reads) _ _ _ _ (same-obstacle a reads (ap reads_of x))
      (λ e o.
      both-refused {r = ReloadHeld e.cell (cell_at S e.cell).holder}
      (ap (λ (y : Cell). ReloadHeld e.cell y.holder) (at-obstacle a reads (ap reads_of x) e o)) (tt, tt)) λ clear.
      stamp a M _ _
      (turns a Done Done _ _ _ _ _ _ refl tt (ap suc a.clock)
      (ap₂ (λ (k : ℕ) (l : List ReadEntry). twilight false start (suc k) l writes) a.clock (same-words a reads (ap reads_of x))) (λ c e. e)))
  matches Ignore a =
      rw (← a.slot)
      (both-twilight (slot_at S i) _ _ λ ignoring start commit reads writes x.
      both-refuse (marked_written reads writes) _ MarkedWritten MarkedWritten _ _ refl refl (tt, tt) λ free.
      both_cond (some_marked reads) _ _ _ _ _ refl (λ m. done a _) (λ m. stays a Done Done refl tt))
  matches Finish a =
      rw (← a.slot)
      (both-twilight (slot_at S i) _ _ λ ignoring start commit reads writes x.
      both_cond (some_marked reads and not ignoring) _ _ _ _ _ refl (λ m. frees a Aborted tt) (λ m. done a _))
  matches Publish a =
      rw (← a.slot)
      (both-publishing (slot_at S i) _ _ λ ignoring count start commit reads writes x.
      let e = get_or writes count no_write in
      turns a Done Done _ _ _ _ _ _ refl tt a.clock refl
      (λ d same. set_same S.cells S'.cells e.cell d _ _ no_cell a.count (λ q. ap (published_as e.word commit) (rw q at same)) same))
  matches GiveUp a = rw (← a.slot) (both-uncommitted (slot_at S i) _ _ (frees a Done tt))
