-- The operation levels: its logs are the set's cells with their words and the one write. The steps up to the finish leave the slot's logs, marks aside.
use mathlib.Core.Bool.{true, false≢true}
use mathlib.Core.List.{List, [], ◌∷◌, map, map-id, map-map}
use mathlib.Core.Path.{◌≡◌, refl, sym, ◌∙◌, ap, subst}
use Prim.Native.Nat.{ℕ, pred}
use lib.ListN.{length, get_or, take, set as replaced}
use lib.Seq.{take-length}
use Rattle.call.specs.declared.Step.{Step}
use Rattle.call.specs.declared.Answer.{Answer}
use Rattle.call.specs.Decode.{step_number}
use Rattle.call.proofs.Numbers.{number-back}
use Rattle.slot.specs.declared.ReadEntry.{ReadEntry}
use Rattle.slot.specs.declared.WriteEntry.{WriteEntry}
use Rattle.slot.specs.Logic.{◌and◌, ◌or◌, All}
use Rattle.rules.specs.Model.{Model}
use Rattle.rules.specs.State.{State, Slot, idle, slot_at}
use Rattle.rules.specs.StateRight.{state_right}
use Rattle.rules.specs.Cells.{with_mark}
use Rattle.rules.specs.Outcome.{after}
use Rattle.rules.specs.Step.{Call, step}
use Rattle.history.specs.History.{final}
use Rattle.history.proofs.Move.{Move, began, read-written, read_again, read_first, wrote, closed, locked, entered, reread-done, updated, ask-done, reloading, ignored, nothing-to-ignore, aborted, committed, published, gave-up}
use Rattle.history.proofs.StepCase.{step_case}
use Rattle.history.proofs.Keeps.Lists.{same_or_not, set-each}
use Rattle.history.proofs.Frame.{frame}
use Rattle.wear.specs.Wear.{wear}
use Rattle.levelling.specs.AsCalls.{admitted}
use Rattle.levelling.specs.Leaves.{entry_of, words_of}
use Rattle.levelling.specs.CountsUp.{words_read, cells_read, LevelsWith}
use Rattle.levelling.specs.Levels.{SlotLevels, leaves_logs, LogsStay, OperationLevels}
use Rattle.levelling.proofs.ReadLaws.{is-begun, slot-with}
use Rattle.levelling.proofs.Leaves.{leaves}

-- two read logs with the same cells and words level alike
alike : (set : List ℕ) (g : ℕ) (reads reads' : List ReadEntry) (writes : List WriteEntry) → cells_read reads' ≡ cells_read reads → words_read reads' ≡ words_read reads
    → LevelsWith set g reads writes → LevelsWith set g reads' writes
alike set g reads reads' writes cells words l =
    record { cells = rw cells l.cells; sound = rw words l.sound; pick = rw words l.pick; write = rw words l.write }

module _ (M : Model) (S : State) (set : List ℕ) (slot : ℕ) (right : state_right M S ≡ true) (adm : admitted M S set slot ≡ true) (ok : (wear M S set slot).code ≡ 0) where
  -- the cells and the words of the log that it leaves
  cells-read : cells_read (map (entry_of S) set) ≡ set
  cells-read = map-map (λ (e : ReadEntry). e.cell) (entry_of S) set ∙ map-id set

  words-read : words_read (map (entry_of S) set) ≡ words_of S set
  words-read = map-map (λ (e : ReadEntry). e.word) (entry_of S) set

  levels : SlotLevels set (wear M S set slot).word (slot_at (wear M S set slot).state (pred slot))
  levels =
      let left = ((leaves M).operation S set slot right adm).written ok in
      let there = ap (λ (T : State). slot_at T (pred slot)) left.2 ∙ slot-with M S set slot (is-begun M S set slot right adm) set _ in
      subst (SlotLevels set (wear M S set slot).word) (sym there)
      (record {
        cells = ap (take (length set)) cells-read ∙ take-length set;
        sound = rw words-read left.1;
        pick = rw words-read left.0;
        write = rw words-read;
      })

-- marks aside, enter leaves the read log
module _ (S : State) (i start : ℕ) where
  marked-cells : (reads : List ReadEntry) → cells_read (map (with_mark S i start) reads) ≡ cells_read reads
  unfolding with_mark
  marked-cells [] = refl
  marked-cells (e ∷ reads) = ap (◌∷◌ e.cell) (marked-cells reads)

  marked-words : (reads : List ReadEntry) → words_read (map (with_mark S i start) reads) ≡ words_read reads
  unfolding with_mark
  marked-words [] = refl
  marked-words (e ∷ reads) = ap (◌∷◌ e.word) (marked-words reads)

module _ (M : Model) (set : List ℕ) (g : ℕ) (S : State) where
  -- what holds of each slot after a turn of slot i
  abbrev Stays : ℕ → Slot → Type 0
  Stays j y = SlotLevels set g (slot_at S j) → SlotLevels set g y

  turned : (i : ℕ) (y : Slot) → Stays i y → (j : ℕ) → Stays j (get_or (replaced S.slots i y) j idle)
  turned i y new = set-each Stays S.slots i y idle new (λ j l. l)

  -- a move of one of those steps leaves every slot's logs
  move-stays : (i : ℕ) {s : Step} {r : Answer} {T : State} → Move M S i s r T → leaves_logs (step_number s) ≡ true → (j : ℕ) → Stays j (slot_at T j)
  unfolding leaves_logs ◌and◌ ◌or◌
  move-stays i (began x) p = absurd (false≢true p)
  move-stays i (read-written x h w) p = absurd (false≢true p)
  move-stays i (read_again x h w r) p = absurd (false≢true p)
  move-stays i (read_first x h w r room held new) p = absurd (false≢true p)
  move-stays i (wrote x fit room) p = absurd (false≢true p)
  move-stays i (closed x) p = turned i _ (rw x (λ l. l))
  move-stays i (locked x more same free) p = turned i _ (rw x (λ l. l))
  move-stays i (entered {start = start} {reads = reads} {writes = writes} x whole below) p =
      turned i _ (rw x (alike set g reads _ writes (marked-cells S i start reads) (marked-words S i start reads)))
  move-stays i (reread-done e) p = λ j l. l
  move-stays i (updated x fit found) p = absurd (false≢true p)
  move-stays i (ask-done e) p = λ j l. l
  move-stays i (reloading x clear below) p = absurd (false≢true p)
  move-stays i (ignored x free m) p = turned i _ (rw x (λ l. l))
  move-stays i nothing-to-ignore p = λ j l. l
  move-stays i (aborted x m) p = absurd (false≢true p)
  move-stays i (committed x m) p = absurd (false≢true p)
  move-stays i (published x same) p = absurd (false≢true p)
  move-stays i (gave-up x) p = absurd (false≢true p)

  -- a call of another slot leaves the slot, and one of those steps its logs
  call_stays : (slot : ℕ) (a : Call) → LogsStay slot a → Stays (pred slot) (slot_at (after S (step M S a)) (pred slot))
  call_stays slot a quiet =
      same_or_not _ (pred a.slot) (pred slot)
      (λ own.
      step_case M S (λ o. Stays (pred slot) (slot_at (after S o) (pred slot))) (λ r k l. l) a
      (λ s made h r T m.
      move-stays (pred a.slot) m (subst (λ n. leaves_logs n ≡ true) (number-back a.step a.cell a.kind a.word s made) (quiet own)) (pred slot)))
      (λ other. rw (((frame M).calls a).other_slots S (pred slot) (λ e. other (sym e))) (λ l. l))

-- .. and so do any number of them
calls-stay : (M : Model) (set : List ℕ) (g slot : ℕ) (S : State) (calls : List Call) → All (LogsStay slot) calls
    → SlotLevels set g (slot_at S (pred slot)) → SlotLevels set g (slot_at (final (step M) S calls) (pred slot))
unfolding final
calls-stay M set g slot S [] quiet l = l
calls-stay M set g slot S (a ∷ calls) quiet l = calls-stay M set g slot (after S (step M S a)) calls quiet.1 (call_stays M set g S slot a quiet.0 l)

-- The operation levels.
pub operation-levels : (M : Model) → OperationLevels M
operation-levels M =
    record {
      levels = levels M;
      kept = λ S set g slot. call_stays M set g S slot;
      commit_levels = λ S set slot right adm ok calls quiet.
          (set, (wear M S set slot).word, calls-stay M set (wear M S set slot).word slot (wear M S set slot).state calls quiet (levels M S set slot right adm ok));
    }
