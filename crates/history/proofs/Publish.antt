-- A publish keeps the invariant: the cell gets the word that the replay has at the slot's stamp, which is above every other stamp that writes the cell.
use mathlib.Core.Bool.{Bool, true, false, false≢true}
use mathlib.Core.List.{List, [], ◌∷◌}
use mathlib.Core.Logic.{◌⊎◌, inl, inr, ⊎_elim}
use mathlib.Core.Option.{some}
use mathlib.Core.Path.{◌≡◌, refl, sym, ◌∙◌, ap, subst}
use Prim.Native.Nat.{ℕ, zero, suc, ◌<◌, ◌≤◌}
use native.Mathlib.Nat.{not-suc-le-zero, le_of_suc-le-suc}
use native.Mathlib.Omega.{arith}
use lib.Dec.{eqb, ltb}
use lib.ListN.{length, get_or, set, drop, length-set, length-drop}
use borrow.Author.Tests.{eqb-true, eqb-false, eq-eqb, ne_eqb, ltb-true}
use Rattle.slot.specs.declared.ReadEntry.{ReadEntry}
use Rattle.slot.specs.declared.WriteEntry.{WriteEntry}
use Rattle.slot.specs.Layout.{no_write}
use Rattle.slot.proofs.Logic.{and_left, and_right, or-true, all-at}
use Rattle.rules.specs.declared.Cell.{Cell}
use Rattle.slot.specs.Logic.{◌or◌, first, pairwise}
use Rattle.rules.specs.Model.{Model}
use Rattle.rules.specs.State.{State, Slot, publishing, cell_count, cell_at, slot_at, no_cell, turn, commit_of}
use Rattle.rules.specs.Cells.{published_as}
use Rattle.rules.specs.LogsRight.{logged_right, writes_right, commit_between}
use Rattle.rules.specs.StateRight.{holds, slot_right}
use Rattle.rules.specs.Steps.{publishing_or_idle}
use Rattle.slot.specs.Logs.{write_entry, writes_cell}
use Rattle.rules.proofs.StateSized.{LogsHold, logs-hold}
use Rattle.history.specs.History.{up_to}
use Rattle.history.proofs.Right.{Right}
use Rattle.history.proofs.Keeps.Lists.{set-elim}
use Rattle.history.proofs.Keeps.Logs.{published-one, published-once}
use Rattle.history.proofs.Invariant.{LateWrite, Owes, LogKnown, ReadsKnown, Inv, Stable, turned, turned-own, turned-other}
use Rattle.history.proofs.Replay.{writer-leaves}
use Rattle.history.proofs.Holders.{one-holder, owes-holds}
use Rattle.history.proofs.Turn.{reads-stay}
use Rattle.history.proofs.Commit.{some_written, owing-case, owing-owes, owing-late, owing-log, owing-reads}

-- in an ascending log each entry is found by its cell
pub found_at : (writes : List WriteEntry) (k : ℕ) → k < length writes → pairwise (λ (e f : WriteEntry). ltb e.cell f.cell) writes ≡ true
    → write_entry writes (get_or writes k no_write).cell ≡ some (get_or writes k no_write)
unfolding write_entry first pairwise
found_at [] k h p = absurd (not-suc-le-zero h)
found_at (e ∷ writes) zero h p = rw (eq-eqb e.cell e.cell refl)
found_at (e ∷ writes) (suc k) h p =
    let below : e.cell < (get_or writes k no_write).cell =
    ltb-true _ _ (all-at (λ (f : WriteEntry). ltb e.cell f.cell) writes no_write (and_left _ _ p) k (le_of_suc-le-suc h)) in
    rw (ne_eqb e.cell (get_or writes k no_write).cell (λ same. omega arith)) (found_at writes k (le_of_suc-le-suc h) (and_right _ _ p))

module _ (begun : ℕ → ℕ) (M : Model) (logs : ℕ → List WriteEntry) (S : State) (inv : Inv begun M logs S) (i : ℕ) (inside : i < length S.slots)
    (ignoring : Bool) (count start commit : ℕ) (reads : List ReadEntry) (writes : List WriteEntry)
    (x : slot_at S i ≡ publishing ignoring count start commit reads writes) where
  abbrev pub entry : WriteEntry
  entry = get_or writes count no_write

  abbrev pub cells : List Cell
  cells = set S.cells entry.cell (published_as entry.word commit (cell_at S entry.cell))

  right-slot : slot_right S.cells S.clock (publishing ignoring count start commit reads writes) ≡ true
  right-slot = subst (λ (y : Slot). slot_right S.cells S.clock y ≡ true) x (inv.right.slot i)

  logs-right : LogsHold S.cells S.clock start reads writes
  unfolding slot_right
  logs-right = logs-hold S.cells S.clock start reads writes (and_left _ _ right-slot)

  missing : count < length writes
  unfolding slot_right
  missing = ltb-true _ _ (and_left _ _ (and_right _ _ right-slot))

  positive : 0 < commit
  unfolding slot_right commit_between
  positive =
      let above : start < commit = ltb-true _ _ (and_left _ _ (and_left _ _ (and_right _ _ (and_right _ _ right-slot)))) in
      omega arith

  ascends : pairwise (λ (e f : WriteEntry). ltb e.cell f.cell) writes ≡ true
  unfolding writes_right
  ascends = and_right _ _ logs-right.writes_hold

  there : entry.cell < cell_count S
  unfolding writes_right logged_right
  there =
      ltb-true _ _
      (and_left _ _ (all-at (λ (e : WriteEntry). logged_right S.cells e.cell e.word) writes no_write (and_left _ _ logs-right.writes_hold) count missing))

  log : logs commit ≡ writes
  log = subst (LogKnown logs) x (inv.slot_logs i)

  -- the slot holds the cell, and what it has left
  pub mine : holds (slot_at S i) entry.cell ≡ true
  unfolding holds ◌or◌
  mine =
      subst (λ (y : Slot). holds y (get_or writes count no_write).cell ≡ true) (sym x)
      (published-one writes count (get_or writes count no_write).cell missing ∙ rw (eq-eqb (get_or writes count no_write).cell (get_or writes count no_write).cell refl))

  holds-left : (c : ℕ) → writes_cell (drop count writes) c ≡ true → holds (slot_at S i) c ≡ true
  unfolding holds
  holds-left c w = subst (λ (y : Slot). holds y c ≡ true) (sym x) w

  pub lower : (c : ℕ) → holds (slot_at S i) c ≡ true → (cell_at S c).stamp < commit
  lower c held =
      let stamp : commit_of (slot_at S i) ≡ commit = ap commit_of x in
      let above = positive in
      rw (← stamp) (inv.later i c (omega arith) held)

  -- of another cell, what was left before is left still
  left-still : (c : ℕ) → (c ≡ entry.cell → ⊥) → writes_cell (drop count writes) c ≡ true → writes_cell (drop (suc count) writes) c ≡ true
  unfolding ◌or◌
  left-still c other w =
      let cut = published-one writes count c missing in
      let differs : eqb (get_or writes count no_write).cell c ≡ false = ne_eqb _ c (λ same. other (sym same)) in
      rw differs at (sym cut ∙ w)

  left-before : (c : ℕ) → writes_cell (drop (suc count) writes) c ≡ true → writes_cell (drop count writes) c ≡ true
  left-before c w = published-one writes count c missing ∙ rw w (or-true (eqb (get_or writes count no_write).cell c))

  not_left : (c : ℕ) → writes_cell (drop (suc count) writes) c ≡ true → c ≡ entry.cell → ⊥
  not_left c w same = false≢true (sym (published-once writes count missing ascends) ∙ ap (writes_cell (drop (suc count) writes)) (sym same) ∙ w)

  more_left : (c : ℕ) → writes_cell (drop (suc count) writes) c ≡ true → suc count < length writes
  more_left c w =
      let some = some_written (drop (suc count) writes) c w in
      let cut = length-drop (suc count) writes in
      omega arith

  abbrev pub owing : Slot
  owing = publishing_or_idle ignoring (suc count) start commit reads writes

  abbrev pub next : State
  next = turn S i S.clock cells owing

  -- what is settled stays so
  pub publish-stable : Stable begun logs S logs next
  publish-stable b c word known =
      record {
        replayed = known.replayed;
        past = known.past;
        still =
            turned (λ s y. LateWrite y b c → ⊥) S i S.clock cells (publishing_or_idle ignoring (suc count) start commit reads writes) inside
            (owing-late ignoring (suc count) start commit reads writes b c) (λ s other. known.still s);
      }

  -- of the cells: the one that was published, and the others
  cell-case : (P : ℕ → Cell → Type 0) → P entry.cell (published_as entry.word commit (cell_at S entry.cell))
      → ((c : ℕ) → (c ≡ entry.cell → ⊥) → P c (cell_at S c)) → (c : ℕ) → P c (get_or cells c no_cell)
  cell-case P own others = set-elim P S.cells entry.cell (published_as entry.word commit (cell_at S entry.cell)) no_cell there own others

  next-words : (c : ℕ) → c < cell_count S → up_to logs begun (get_or cells c no_cell).stamp c ≡ (get_or cells c no_cell).word
  next-words =
      cell-case (λ c (y : Cell). c < cell_count S → up_to logs begun y.stamp c ≡ y.word)
      (λ h.
      writer-leaves logs begun commit (get_or writes count no_write).cell (get_or writes count no_write) positive
      (ap (λ (l : List WriteEntry). write_entry l (get_or writes count no_write).cell) log ∙ found_at writes count missing ascends))
      (λ c other h. inv.words c h)

  other-slot : (s : ℕ) → (s ≡ i → ⊥) → slot_at next s ≡ slot_at S s
  other-slot s other = turned-other S i S.clock cells owing s other

  own-slot : slot_at next i ≡ owing
  own-slot = turned-own S i S.clock cells owing inside

  -- the published cell: every other log that writes it has a lower stamp
  last-published : (j : ℕ) → writes_cell (logs j) entry.cell ≡ true → j ≤ commit
  last-published j w =
      ⊎_elim (λ l. let below = lower entry.cell mine in omega arith) (λ o. by o.0 o.1 (eqb o.0 i) refl) (inv.last entry.cell j there w)
    where
      by : (s : ℕ) → Owes (slot_at S s) j entry.cell → (t : Bool) → eqb s i ≡ t → j ≤ commit
      by s o true e =
          let debt = subst (λ (y : Slot). Owes y j entry.cell) x (subst (λ (t : ℕ). Owes (slot_at S t) j entry.cell) (eqb-true s i e) o) in
          let same = debt.0 in
          omega arith
      by s o false e = absurd (eqb-false s i e (one-holder M S inv.right s i entry.cell there (owes-holds (slot_at S s) j entry.cell o) mine))

  -- any other cell: what is owed is owed still
  last-other : (c j : ℕ) → c < cell_count S → (c ≡ entry.cell → ⊥) → writes_cell (logs j) c ≡ true
      → (j ≤ (cell_at S c).stamp) ⊎ ((s : ℕ) × Owes (slot_at next s) j c)
  last-other c j h other w = ⊎_elim inl (λ o. inr (o.0, by o.0 o.1 (eqb o.0 i) refl)) (inv.last c j h w)
    where
      by : (s : ℕ) → Owes (slot_at S s) j c → (t : Bool) → eqb s i ≡ t → Owes (slot_at next s) j c
      by s o true e =
          let same : s ≡ i = eqb-true s i e in
          let debt = subst (λ (y : Slot). Owes y j c) x (subst (λ (t : ℕ). Owes (slot_at S t) j c) same o) in
          let left = left-still c other debt.1 in
          rw (same, own-slot, ← debt.0) (owing-owes ignoring (suc count) start commit reads writes c (more_left c left) left)
      by s o false e = rw (other-slot s (eqb-false s i e)) o

  next_last : (c j : ℕ) → c < cell_count S → writes_cell (logs j) c ≡ true → (j ≤ (get_or cells c no_cell).stamp) ⊎ ((s : ℕ) × Owes (slot_at next s) j c)
  next_last c j =
      cell-case (λ d (y : Cell). d < cell_count S → writes_cell (logs j) d ≡ true → (j ≤ y.stamp) ⊎ ((s : ℕ) × Owes (slot_at next s) j d))
      (λ h w. inl (last-published j w)) (λ d other h w. last-other d j h other w) c

  -- the cells of another slot, and those that this one has left, keep their stamps
  kept-stamp : (c : ℕ) → (c ≡ entry.cell → ⊥) → (get_or cells c no_cell).stamp ≡ (cell_at S c).stamp
  kept-stamp c =
      cell-case (λ d (y : Cell). (d ≡ entry.cell → ⊥) → y.stamp ≡ (cell_at S d).stamp) (λ other. absurd (other refl)) (λ d other again. refl) c

  next-later : (s c : ℕ) → 0 < commit_of (slot_at next s) → holds (slot_at next s) c ≡ true → (get_or cells c no_cell).stamp < commit_of (slot_at next s)
  unfolding holds
  next-later =
      turned (λ s y. (c : ℕ) → 0 < commit_of y → holds y c ≡ true → (get_or cells c no_cell).stamp < commit_of y) S i S.clock cells
      (publishing_or_idle ignoring (suc count) start commit reads writes) inside
      (λ c.
      owing-case ignoring (suc count) start commit reads writes (λ y. 0 < commit_of y → holds y c ≡ true → (get_or cells c no_cell).stamp < commit_of y)
      (λ h p held. rw (kept-stamp c (not_left c held)) (lower c (holds-left c (left-before c held)))) (λ p held. absurd (omega arith)))
      (λ s other c p held.
      rw (kept-stamp c (λ same. other (one-holder M S inv.right s i entry.cell there (subst (λ (d : ℕ). holds (slot_at S s) d ≡ true) same held) mine)))
      (inv.later s c p held))

  pub publish-inv : Right M next → Inv begun M logs next
  publish-inv right =
      record {
        right = right;
        above = inv.above;
        slot_logs =
            turned (λ s y. LogKnown logs y) S i S.clock cells (publishing_or_idle ignoring (suc count) start commit reads writes) inside
            (owing-log ignoring (suc count) start commit reads writes logs log) (λ s other. inv.slot_logs s);
        words = λ c h. next-words c (rw length-set at h);
        last = λ c j h. next_last c j (rw length-set at h);
        later = next-later;
        slot_reads =
            turned (λ s y. ReadsKnown begun logs next y) S i S.clock cells (publishing_or_idle ignoring (suc count) start commit reads writes) inside
            (owing-reads ignoring (suc count) start commit reads writes begun logs next)
            (λ s other. reads-stay begun logs logs S next publish-stable (slot_at S s) (inv.slot_reads s));
      }
