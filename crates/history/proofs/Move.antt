-- Each accepted step is one of these moves, with what its tests have shown, and each refused one bare or one of three that say who is in the way. The theorems about steps go
-- by cases on the move and look at no test again.
use mathlib.Core.Bool.{Bool, true, false, not}
use mathlib.Core.List.{List, [], ◌∷◌, ◌++◌, map}
use mathlib.Core.Option.{none, some}
use mathlib.Core.Path.{◌≡◌, refl}
use Prim.Native.Nat.{ℕ, suc, ◌<◌, ◌≤◌}
use lib.Dec.{eqb, ltb, leb}
use lib.ListN.{length, get_or, set}
use borrow.Author.Tests.{leb-false, ltb-false, eqb-true, eqb-false, not-false}
use Rattle.value.specs.declared.CellValue.{CellValue}
use Rattle.value.specs.Legal.{legal_word}
use Rattle.value.specs.Value.{kind_of, word_of}
use Rattle.call.specs.declared.Step.{Step}
use Rattle.call.specs.declared.Step.TheVariants.{Begin, Read, Write, Close, Lock, Enter, Reread, Update, Ask, Reload, Ignore, Finish, Publish, GiveUp}
use Rattle.call.specs.declared.Answer.{Answer}
use Rattle.call.specs.declared.Refusal.{Refusal}
use Rattle.call.specs.declared.Answer.TheVariants.{Done, Verdict, Aborted}
use Rattle.call.specs.declared.Refusal.TheVariants.{NotAllowed, MarkedWritten, NoSuchCell, IllegalValue, OtherKind, LogFull, ReadHeld, ReadNewer, LockHeld, ReloadHeld, LastStamp}
use Rattle.slot.specs.declared.ReadEntry.{ReadEntry}
use Rattle.slot.specs.declared.WriteEntry.{WriteEntry}
use Rattle.slot.specs.Layout.{read_capacity, write_capacity, no_write}
use Rattle.slot.specs.Logs.{read_entry, write_entry, writes_cell, put_write, some_marked, marked_written}
use Rattle.slot.specs.Logic.{◌and◌}
use Rattle.rules.specs.Model.{Model, last_stamp}
use Rattle.rules.specs.State.{State, idle, opened, locking, twilight, publishing, cell_count, cell_at, slot_at, turn}
use Rattle.rules.specs.Cells.{held_by_other, newer, with_mark, reloaded, obstacle, taken_by, published_as, free_all}
use Rattle.rules.specs.Outcome.{Outcome, refused, accepted, inside_cells, fitting_value, below_last_stamp}
use Rattle.rules.specs.Steps.{answer, begin, read_shared, read, write, close, lock, enter, reread, update, ask, reload, ignore, publishing_or_idle, finish, publish, give_up}
use Rattle.rules.specs.Step.{row}
use Rattle.history.proofs.Cases.{Uncommitted, Bare, bare, cond-case, refuse-case, log-case, found-case, idle-case, open-case, locking-case, twilight-case, publishing-case, uncommitted-case}

-- a value that may go to the cell
pub record Fitting (S : State) (c : ℕ) (v : CellValue) : Type 0 where
  pub inside : c < cell_count S
  pub legal : legal_word (kind_of v) (word_of v) ≡ true
  pub kind : kind_of v ≡ (cell_at S c).kind

abbrev pub new_read : State → ℕ → ReadEntry
new_read S c = record { cell = c; mark = false; word = (cell_at S c).word }

abbrev pub new_write : ℕ → CellValue → WriteEntry
new_write c v = record { cell = c; word = word_of v }

pub data Move (M : Model) (S : State) (i : ℕ) : Step → Answer → State → Type 0 where
  began : slot_at S i ≡ idle → Move M S i Begin Done (turn S i S.clock S.cells (opened S.clock [] []))
  -- answered from a log; rereads, asks; an ignore that changes nothing
  read-written : {start c : ℕ} {reads : List ReadEntry} {writes : List WriteEntry} {e : WriteEntry}
      → slot_at S i ≡ opened start reads writes → c < cell_count S → write_entry writes c ≡ some e → Move M S i (Read c) (answer S c e.word) S
  read_again : {start c : ℕ} {reads : List ReadEntry} {writes : List WriteEntry} {e : ReadEntry}
      → slot_at S i ≡ opened start reads writes → c < cell_count S → write_entry writes c ≡ none → read_entry reads c ≡ some e → Move M S i (Read c) (answer S c e.word) S
  read_first : {start c : ℕ} {reads : List ReadEntry} {writes : List WriteEntry}
      → slot_at S i ≡ opened start reads writes → c < cell_count S → write_entry writes c ≡ none → read_entry reads c ≡ none
      → length reads < read_capacity → held_by_other i (cell_at S c) ≡ false → newer start (cell_at S c) ≡ false
      → Move M S i (Read c) (answer S c (cell_at S c).word) (turn S i S.clock S.cells (opened start (reads ++ (new_read S c ∷ [])) writes))
  wrote : {start c : ℕ} {v : CellValue} {reads : List ReadEntry} {writes : List WriteEntry}
      → slot_at S i ≡ opened start reads writes → Fitting S c v → (not (writes_cell writes c) and leb write_capacity (length writes)) ≡ false
      → Move M S i (Write c v) Done (turn S i S.clock S.cells (opened start reads (put_write (new_write c v) writes)))
  closed : {start : ℕ} {reads : List ReadEntry} {writes : List WriteEntry}
      → slot_at S i ≡ opened start reads writes → Move M S i Close Done (turn S i S.clock S.cells (locking 0 start reads writes))
  locked : {count start c : ℕ} {reads : List ReadEntry} {writes : List WriteEntry}
      → slot_at S i ≡ locking count start reads writes → count < length writes → c ≡ (get_or writes count no_write).cell → held_by_other i (cell_at S c) ≡ false
      → Move M S i Lock Done (turn S i S.clock (set S.cells c (taken_by i (cell_at S c))) (locking (suc count) start reads writes))
  entered : {count start : ℕ} {reads : List ReadEntry} {writes : List WriteEntry}
      → slot_at S i ≡ locking count start reads writes → length writes ≤ count → (S.clock ≡ last_stamp M → ⊥)
      → Move M S i Enter (Verdict (not (some_marked (map (with_mark S i start) reads))))
      (turn S i (suc S.clock) S.cells (twilight false start (suc S.clock) (map (with_mark S i start) reads) writes))
  reread-done : {c : ℕ} (e : ReadEntry) → Move M S i (Reread c) (answer S c e.word) S
  updated : {ignoring : Bool} {start commit c : ℕ} {v : CellValue} {e : WriteEntry} {reads : List ReadEntry} {writes : List WriteEntry}
      → slot_at S i ≡ twilight ignoring start commit reads writes → Fitting S c v → write_entry writes c ≡ some e
      → Move M S i (Update c v) Done (turn S i S.clock S.cells (twilight ignoring start commit reads (put_write (new_write c v) writes)))
  ask-done : {c : ℕ} (e : ReadEntry) → Move M S i (Ask c) (Verdict e.mark) S
  reloading : {ignoring : Bool} {start commit : ℕ} {reads : List ReadEntry} {writes : List WriteEntry}
      → slot_at S i ≡ twilight ignoring start commit reads writes → obstacle S i reads ≡ none → (S.clock ≡ last_stamp M → ⊥)
      → Move M S i Reload Done (turn S i (suc S.clock) S.cells (twilight false start (suc S.clock) (map (reloaded S) reads) writes))
  ignored : {ignoring : Bool} {start commit : ℕ} {reads : List ReadEntry} {writes : List WriteEntry}
      → slot_at S i ≡ twilight ignoring start commit reads writes → marked_written reads writes ≡ false → some_marked reads ≡ true
      → Move M S i Ignore Done (turn S i S.clock S.cells (twilight true start commit reads writes))
  nothing-to-ignore : Move M S i Ignore Done S
  aborted : {start commit : ℕ} {ignoring : Bool} {reads : List ReadEntry} {writes : List WriteEntry}
      → slot_at S i ≡ twilight ignoring start commit reads writes → (some_marked reads and not ignoring) ≡ true
      → Move M S i Finish Aborted (turn S i S.clock (free_all i S.cells) idle)
  committed : {ignoring : Bool} {start commit : ℕ} {reads : List ReadEntry} {writes : List WriteEntry}
      → slot_at S i ≡ twilight ignoring start commit reads writes → (some_marked reads and not ignoring) ≡ false
      → Move M S i Finish Done (turn S i S.clock S.cells (publishing_or_idle ignoring 0 start commit reads writes))
  published : {ignoring : Bool} {count start commit : ℕ} {e : WriteEntry} {reads : List ReadEntry} {writes : List WriteEntry}
      → slot_at S i ≡ publishing ignoring count start commit reads writes → e ≡ get_or writes count no_write
      → Move M S i Publish Done
      (turn S i S.clock (set S.cells e.cell (published_as e.word commit (cell_at S e.cell))) (publishing_or_idle ignoring (suc count) start commit reads writes))
  gave-up : Uncommitted (slot_at S i) → Move M S i GiveUp Done (turn S i S.clock (free_all i S.cells) idle)

-- why a step is refused: bare, or another slot holds a cell, with what the tests have shown
pub data Declined (S : State) (i : ℕ) : Step → Refusal → Type 0 where
  bare-refusal : {s : Step} {r : Refusal} → Bare r → Declined S i s r
  read_held : {c : ℕ} → held_by_other i (cell_at S c) ≡ true → Declined S i (Read c) (ReadHeld (cell_at S c).holder)
  lock-held : {count start c : ℕ} {reads : List ReadEntry} {writes : List WriteEntry}
      → slot_at S i ≡ locking count start reads writes → count < length writes → c ≡ (get_or writes count no_write).cell → held_by_other i (cell_at S c) ≡ true
      → Declined S i Lock (LockHeld c (cell_at S c).holder)
  reload-held : {ignoring : Bool} {start commit : ℕ} {e : ReadEntry} {reads : List ReadEntry} {writes : List WriteEntry}
      → slot_at S i ≡ twilight ignoring start commit reads writes → obstacle S i reads ≡ some e
      → Declined S i Reload (ReloadHeld e.cell (cell_at S e.cell).holder)

-- a refusal has its cause, and an accepted step is a move
abbrev pub Lawful : (M : Model) (S : State) (i : ℕ) → Step → Outcome → Type 0
Lawful M S i s (refused r) = Declined S i s r
Lawful M S i s (accepted r T) = Move M S i s r T

module _ (M : Model) (S : State) (i : ℕ) where
  inside-case : (s : Step) (c : ℕ) (o : Outcome) → (c < cell_count S → Lawful M S i s o) → Lawful M S i s (inside_cells S c o)
  inside-case s c o f = refuse-case (Lawful M S i s) (λ r k. bare-refusal k) (leb (cell_count S) c) NoSuchCell bare o (λ e. f (leb-false (cell_count S) c e))

  fitting-case : (s : Step) (c : ℕ) (v : CellValue) (o : Outcome) → c < cell_count S → (Fitting S c v → Lawful M S i s o) → Lawful M S i s (fitting_value S c v o)
  fitting-case s c v o inside f =
      refuse-case (Lawful M S i s) (λ r k. bare-refusal k) (not (legal_word (kind_of v) (word_of v))) IllegalValue bare _
      (λ legal.
      refuse-case (Lawful M S i s) (λ r k. bare-refusal k) (not (eqb (kind_of v) (cell_at S c).kind)) OtherKind bare o
      (λ kind. f (record { inside = inside; legal = not-false _ legal; kind = eqb-true _ _ (not-false _ kind) })))

  stamp-case : (s : Step) (o : Outcome) → ((S.clock ≡ last_stamp M → ⊥) → Lawful M S i s o) → Lawful M S i s (below_last_stamp M S o)
  stamp-case s o f = refuse-case (Lawful M S i s) (λ r k. bare-refusal k) (eqb S.clock (last_stamp M)) LastStamp bare o (λ e. f (eqb-false _ _ e))

  pub lawful : (s : Step) → Lawful M S i s (row M S i s)
  unfolding begin read read_shared write close lock enter reread update ask reload ignore finish publish give_up
  lawful Begin = idle-case (Lawful M S i Begin) (λ r k. bare-refusal k) (slot_at S i) _ began
  lawful (Read c) =
      open-case (Lawful M S i (Read c)) (λ r k. bare-refusal k) (slot_at S i) _ λ start reads writes x.
      inside-case (Read c) c _ λ inside.
      found-case (Lawful M S i (Read c)) (λ r k. bare-refusal k) (write_entry writes c) _ _ (λ e w. read-written x inside w) λ w.
      found-case (Lawful M S i (Read c)) (λ r k. bare-refusal k) (read_entry reads c) _ _ (λ e r. read_again x inside w r) λ r.
      refuse-case (Lawful M S i (Read c)) (λ r k. bare-refusal k) (leb read_capacity (length reads)) LogFull bare _ λ room.
      cond-case (Lawful M S i (Read c)) (λ r k. bare-refusal k) (held_by_other i (cell_at S c)) _ _ (λ taken. read_held taken) λ held.
      refuse-case (Lawful M S i (Read c)) (λ r k. bare-refusal k) (newer start (cell_at S c)) ReadNewer bare _ λ new.
      read_first x inside w r (leb-false _ _ room) held new
  lawful (Write c v) =
      open-case (Lawful M S i (Write c v)) (λ r k. bare-refusal k) (slot_at S i) _ λ start reads writes x.
      inside-case (Write c v) c _ λ inside.
      fitting-case (Write c v) c v _ inside λ fit.
      refuse-case (Lawful M S i (Write c v)) (λ r k. bare-refusal k) (not (writes_cell writes c) and leb write_capacity (length writes)) LogFull bare _ λ room.
      wrote x fit room
  lawful Close = open-case (Lawful M S i Close) (λ r k. bare-refusal k) (slot_at S i) _ λ start reads writes x. closed x
  lawful Lock =
      locking-case (Lawful M S i Lock) (λ r k. bare-refusal k) (slot_at S i) _ λ count start reads writes x.
      refuse-case (Lawful M S i Lock) (λ r k. bare-refusal k) (leb (length writes) count) NotAllowed bare _ λ missing.
      cond-case (Lawful M S i Lock) (λ r k. bare-refusal k) (held_by_other i (cell_at S (get_or writes count no_write).cell)) _ _ (λ taken. lock-held x (leb-false _ _ missing) refl taken) λ free.
      locked x (leb-false _ _ missing) refl free
  lawful Enter =
      locking-case (Lawful M S i Enter) (λ r k. bare-refusal k) (slot_at S i) _ λ count start reads writes x.
      refuse-case (Lawful M S i Enter) (λ r k. bare-refusal k) (ltb count (length writes)) NotAllowed bare _ λ whole.
      stamp-case Enter _ λ below.
      entered x (ltb-false _ _ whole) below
  lawful (Reread c) =
      twilight-case (Lawful M S i (Reread c)) (λ r k. bare-refusal k) (slot_at S i) _ λ ignoring start commit reads writes x.
      inside-case (Reread c) c _ λ inside.
      log-case (Lawful M S i (Reread c)) (λ r k. bare-refusal k) (read_entry reads c) _ λ e r. reread-done e
  lawful (Update c v) =
      twilight-case (Lawful M S i (Update c v)) (λ r k. bare-refusal k) (slot_at S i) _ λ ignoring start commit reads writes x.
      inside-case (Update c v) c _ λ inside.
      fitting-case (Update c v) c v _ inside λ fit.
      log-case (Lawful M S i (Update c v)) (λ r k. bare-refusal k) (write_entry writes c) _ λ e w.
      updated x fit w
  lawful (Ask c) =
      twilight-case (Lawful M S i (Ask c)) (λ r k. bare-refusal k) (slot_at S i) _ λ ignoring start commit reads writes x.
      inside-case (Ask c) c _ λ inside.
      log-case (Lawful M S i (Ask c)) (λ r k. bare-refusal k) (read_entry reads c) _ λ e r. ask-done e
  lawful Reload =
      twilight-case (Lawful M S i Reload) (λ r k. bare-refusal k) (slot_at S i) _ λ ignoring start commit reads writes x.
      found-case (Lawful M S i Reload) (λ r k. bare-refusal k) (obstacle S i reads) _ _ (λ e o. reload-held x o) λ clear.
      stamp-case Reload _ λ below.
      reloading x clear below
  lawful Ignore =
      twilight-case (Lawful M S i Ignore) (λ r k. bare-refusal k) (slot_at S i) _ λ ignoring start commit reads writes x.
      refuse-case (Lawful M S i Ignore) (λ r k. bare-refusal k) (marked_written reads writes) MarkedWritten bare _ λ free.
      cond-case (Lawful M S i Ignore) (λ r k. bare-refusal k) (some_marked reads) _ _ (λ m. ignored x free m) (λ m. nothing-to-ignore)
  lawful Finish =
      twilight-case (Lawful M S i Finish) (λ r k. bare-refusal k) (slot_at S i) _ λ ignoring start commit reads writes x.
      cond-case (Lawful M S i Finish) (λ r k. bare-refusal k) (some_marked reads and not ignoring) _ _ (λ m. aborted x m) (λ m. committed x m)
  lawful Publish =
      publishing-case (Lawful M S i Publish) (λ r k. bare-refusal k) (slot_at S i) _ λ ignoring count start commit reads writes x. published x refl
  lawful GiveUp = uncommitted-case (Lawful M S i GiveUp) (λ r k. bare-refusal k) (slot_at S i) _ gave-up
