-- The lowest code that applies is given: for each step its row and the table ask the same tests in the same order.
use Rattle.std.specs.Prelude.{Err}
use mathlib.Core.Bool.{Bool, true, false, not, cond}
use mathlib.Core.List.{List, [], ◌∷◌}
use mathlib.Core.Path.{◌≡◌, refl, sym, ◌∙◌, ap, subst}
use Prim.Native.Nat.{ℕ, zero, suc, pred, ◌<◌}
use native.Mathlib.Omega.{arith}
use borrow.Author.Tests.{leb-true, leb-false, ltb-true, le-ltb, lt-ltb, le-leb, lt-leb}
use lib.Dec.{eqb, ltb, leb}
use lib.ListN.{length, get_or}
use Rattle.value.specs.Legal.{legal_word}
use Rattle.value.specs.Value.{value_of, parsed}
use Rattle.value.proofs.RoundTrip.{kind-back, word_back}
use Rattle.call.specs.declared.Refusal.{Refusal}
use Rattle.call.specs.Answer.{refusal_code, reply_code}
use Rattle.call.specs.declared.Answer.TheVariants.{Verdict}
use Rattle.call.specs.declared.Refusal.TheVariants.{NotWellFormed, NoSuchSlot, NotAllowed, MarkedWritten, NoSuchCell, IllegalValue, NotInLog, OtherKind, LogFull, ReadHeld, ReadNewer, LockHeld, LastStamp}
use Rattle.call.specs.Decode.{decoded}
use Rattle.slot.specs.declared.ReadEntry.{ReadEntry}
use Rattle.slot.specs.declared.WriteEntry.{WriteEntry}
use Rattle.slot.specs.Layout.{read_capacity, write_capacity, no_write}
use Rattle.slot.specs.Logic.{◌and◌, ◌or◌, any, first, pairwise, all}
use Rattle.slot.specs.Logs.{read_entry, write_entry, reads_cell, writes_cell, some_marked, marked_written}
use Rattle.slot.proofs.Logic.{and_left, and_right}
use Rattle.slot.proofs.Search.{of_none, of_some}
use Rattle.rules.specs.Model.{Model, last_stamp}
use Rattle.rules.specs.State.{State, cell_count, cell_at, slot_at}
use Rattle.rules.specs.Cells.{held_by_other, newer, obstacle}
use Rattle.rules.specs.Outcome.{Outcome, refused, accepted, when_twilight, refuse_if, inside_cells, fitting_value, in_log, found_or, below_last_stamp}
use Rattle.rules.specs.Steps.{answer, begin, read_shared, read, write, illegal_write, close, lock, enter, reread, update, illegal_update, ask, reload, ignore, finish, publish, give_up}
use Rattle.rules.specs.Step.{Call, inside_slots, step_of, step}
use Rattle.rules.specs.Layout.{state_of}
use Rattle.rules.specs.AreaRight.{well_formed}
use Rattle.rules.specs.Area.{answered, step_on_bytes}
use Rattle.rules.specs.Run.{call}
use Rattle.rules.specs.Allowed.{Row, ◌when◌, row_number, allowed}
use Rattle.rules.proofs.Cases.{cond-case, found-case, log-case, idle-case, open-case, locking-case, twilight-case, publishing-case, uncommitted-case}
use Rattle.rules.specs.Codes.{code_table, step_outside, slot_outside, not_allowed, marked_also_written, cell_outside, value_illegal, kind_differs, not_in_log, log_full, read_held, read_newer, cell_held, stamps_spent, outcome_code, Ending, refusal, outcome, ending_code, first_of, table_ending}
use Rattle.rules.specs.LowestCode.{ending, height, lower_applies, LowestCode}

-- opens the table and the way from a call to its row
unfoldable table : ℕ
unfolding step step_of decoded table_ending first_of step_outside slot_outside not_allowed allowed marked_also_written cell_outside value_illegal kind_differs not_in_log log_full read_held read_newer cell_held stamps_spent outcome_code any first reads_cell writes_cell read_entry write_entry ◌and◌ ◌or◌
table = 0

-- the outcome ends so
abbrev Ends : Ending → Outcome → Type 0
Ends e o = ending o ≡ e

-- a test that the row and the table both ask
tested : (t : Bool) (r : Refusal) (o : Outcome) (e : Ending) → Ends e o → Ends (cond t (refusal (refusal_code r)) e) (refuse_if t r o)
tested true r o e f = refl
tested false r o e f = f

-- .. or that the table asks beside another one, which doesn't apply
tested-beside : (t : Bool) (r : Refusal) (o : Outcome) (e : Ending) → Ends e o → Ends (cond (t or false) (refusal (refusal_code r)) e) (refuse_if t r o)
unfolding ◌or◌
tested-beside true r o e f = refl
tested-beside false r o e f = f

-- a log's entry of a cell is there exactly if some entry passes
found : {A : Type 0} (f : A → Bool) (l : List A) (o : A → Outcome) (other : Outcome) (e : Ending)
    → ((x : A) → any f l ≡ true → Ends e (o x)) → (any f l ≡ false → Ends e other) → Ends e (found_or (first f l) o other)
found f l o other e there gone = found-case (Ends e) (first f l) o other (λ x p. there x (of_some f l x p)) (λ p. gone (of_none f l p))

logged : {A : Type 0} (f : A → Bool) (l : List A) (o : A → Outcome) (e : Ending)
    → (any f l ≡ false → Ends e (refused NotInLog)) → ((x : A) → any f l ≡ true → Ends e (o x)) → Ends e (in_log (first f l) o)
logged f l o e gone there = log-case (Ends e) (first f l) o (λ p. gone (of_none f l p)) (λ x p. there x (of_some f l x p))

-- some missing; none missing
missing : (taken n : ℕ) (o : Outcome) (e : Ending) → Ends e o → Ends (cond (not (ltb taken n or false)) (refusal 4) e) (refuse_if (leb n taken) NotAllowed o)
unfolding ◌or◌
missing taken n o e f =
    cond-case (Ends (cond (not (ltb taken n or false)) (refusal 4) e)) (leb n taken) (refused NotAllowed) o
    (λ p. rw (le-ltb taken n (leb-true n taken p))) (λ p. rw (lt-ltb taken n (leb-false n taken p)) f)

none-missing : (t : Bool) (o : Outcome) (e : Ending) → Ends e o → Ends (cond (not (not t or false)) (refusal 4) e) (refuse_if t NotAllowed o)
unfolding ◌or◌
none-missing true o e f = refl
none-missing false o e f = f

module _ (M : Model) (S : State) (slot c kind word : ℕ) where
  -- the step with this number ends as the table says
  abbrev Numbered : ℕ → Type 0
  Numbered number = Ends (table_ending M S (call number slot c kind word)) (step M S (call number slot c kind word))

  abbrev i : ℕ
  i = pred slot

  inside : (o : Outcome) (e : Ending) → Ends e o → Ends (cond (not (leb 1 slot and leb slot M.slots)) (refusal 3) e) (inside_slots M slot o)
  inside o e f = tested (not (leb 1 slot and leb slot M.slots)) NoSuchSlot o e f

  below : (o : Outcome) (e : Ending) → Ends e o → Ends (cond (leb (cell_count S) c) (refusal 5) e) (inside_cells S c o)
  below o e f = tested (leb (cell_count S) c) NoSuchCell o e f

  fitting : legal_word kind word ≡ true → (o : Outcome) (e : Ending) → Ends e o
      → Ends (cond (not (legal_word kind word)) (refusal 6) (cond (not (eqb kind (cell_at S c).kind)) (refusal 7) e)) (fitting_value S c (value_of kind word) o)
  fitting legal o e f =
      rw (kind-back kind word legal, word_back kind word legal)
      (tested (not (legal_word kind word)) IllegalValue _ _ (tested (not (eqb kind (cell_at S c).kind)) OtherKind o e f))

  stamped : (o : Outcome) (e : Ending) → Ends e o → Ends (cond (eqb S.clock (last_stamp M)) (refusal 12) e) (below_last_stamp M S o)
  stamped o e f = tested (eqb S.clock (last_stamp M)) LastStamp o e f

  begin-row : Numbered 1
  unfolding table begin
  begin-row = inside _ _ (idle-case (Ends _) (slot_at S i) _ (λ p. rw p) λ x. rw x)

  read-row : Numbered 2
  unfolding table read read_shared
  read-row =
      inside _ _
      (open-case (Ends _) (slot_at S i) _ (λ p. rw p) λ start reads writes x.
      rw x
      (below _ _
      (found (λ (e : WriteEntry). eqb e.cell c) writes _ _ _ (λ e w. rw w) λ w.
      rw w
      (found (λ (e : ReadEntry). eqb e.cell c) reads _ _ _ (λ e r. rw r) λ r.
      rw r
      (tested-beside (leb read_capacity (length reads)) LogFull _ _
      (tested (held_by_other i (cell_at S c)) (ReadHeld (cell_at S c).holder) _ _
      (tested (newer start (cell_at S c)) ReadNewer _ _ refl)))))))

  write-row : legal_word kind word ≡ true → Ends (table_ending M S (call 3 slot c kind word)) (inside_slots M slot (write M S i c (value_of kind word)))
  unfolding table write
  write-row legal =
      inside _ _
      (open-case (Ends _) (slot_at S i) _ (λ p. rw p) λ start reads writes x.
      rw x
      (below _ _
      (fitting legal _ _
      (tested (not (writes_cell writes c) and leb write_capacity (length writes)) LogFull _ _ refl))))

  illegal-write-row : legal_word kind word ≡ false → Ends (table_ending M S (call 3 slot c kind word)) (inside_slots M slot (illegal_write M S i c))
  unfolding table illegal_write
  illegal-write-row illegal =
      inside _ _
      (open-case (Ends _) (slot_at S i) _ (λ p. rw p) λ start reads writes x.
      rw x (below _ _ (rw illegal)))

  close_row : Numbered 4
  unfolding table close
  close_row = inside _ _ (open-case (Ends _) (slot_at S i) _ (λ p. rw p) λ start reads writes x. rw x)

  lock-row : Numbered 5
  unfolding table lock
  lock-row =
      inside _ _
      (locking-case (Ends _) (slot_at S i) _ (λ p. rw p) λ taken start reads writes x.
      let next = (get_or writes taken no_write).cell in
      rw x (missing taken (length writes) _ _ (tested-beside (held_by_other i (cell_at S next)) (LockHeld next (cell_at S next).holder) _ _ refl)))

  enter-row : Numbered 6
  unfolding table enter
  enter-row =
      inside _ _
      (locking-case (Ends _) (slot_at S i) _ (λ p. rw p) λ taken start reads writes x.
      rw x (none-missing (ltb taken (length writes)) _ _ (stamped _ _ refl)))

  -- reread and ask, which the table treats alike
  from-read-log : (o : ReadEntry → Outcome) → ((e : ReadEntry) → Ends (outcome 0) (o e))
      → Ends (table_ending M S (call 7 slot c kind word))
      (inside_slots M slot (when_twilight (slot_at S i) λ ignoring start commit reads writes. inside_cells S c (in_log (read_entry reads c) o)))
  unfolding table
  from-read-log o done =
      inside _ _
      (twilight-case (Ends _) (slot_at S i) _ (λ p. rw p) λ ignoring start commit reads writes x.
      rw x
      (below _ _
      (logged (λ (e : ReadEntry). eqb e.cell c) reads _ _ (λ r. rw r) λ e r. rw r (done e))))

  reread-row : Numbered 7
  unfolding table reread
  reread-row = from-read-log (λ e. accepted (answer S c e.word) S) (λ e. refl)

  update-row : legal_word kind word ≡ true → Ends (table_ending M S (call 8 slot c kind word)) (inside_slots M slot (update M S i c (value_of kind word)))
  unfolding table update
  update-row legal =
      inside _ _
      (twilight-case (Ends _) (slot_at S i) _ (λ p. rw p) λ ignoring start commit reads writes x.
      rw x
      (below _ _
      (fitting legal _ _
      (logged (λ (e : WriteEntry). eqb e.cell c) writes _ _ (λ w. rw w) λ e w. rw w))))

  illegal-update-row : legal_word kind word ≡ false → Ends (table_ending M S (call 8 slot c kind word)) (inside_slots M slot (illegal_update M S i c))
  unfolding table illegal_update
  illegal-update-row illegal =
      inside _ _
      (twilight-case (Ends _) (slot_at S i) _ (λ p. rw p) λ ignoring start commit reads writes x.
      rw x (below _ _ (rw illegal)))

  ask-row : Numbered 9
  unfolding table ask
  ask-row = from-read-log (λ e. accepted (Verdict e.mark) S) (λ e. refl)

  reload-row : Numbered 10
  unfolding table reload obstacle
  reload-row =
      inside _ _
      (twilight-case (Ends _) (slot_at S i) _ (λ p. rw p) λ ignoring start commit reads writes x.
      rw x
      (found (λ (e : ReadEntry). held_by_other i (cell_at S e.cell)) reads _ _ _ (λ e r. rw r) λ r.
      rw r (stamped _ _ refl)))

  ignore-row : Numbered 11
  unfolding table ignore
  ignore-row =
      inside _ _
      (twilight-case (Ends _) (slot_at S i) _ (λ p. rw p) λ ignoring start commit reads writes x.
      rw x (tested (marked_written reads writes) MarkedWritten _ _ (cond-case (Ends _) (some_marked reads) _ _ (λ m. refl) (λ m. refl))))

  finish-row : Numbered 12
  unfolding table finish
  finish-row =
      inside _ _
      (twilight-case (Ends _) (slot_at S i) _ (λ p. rw p) λ ignoring start commit reads writes x.
      rw x (cond-case (Ends _) (some_marked reads and not ignoring) _ _ (λ m. rw m) (λ m. rw m)))

  publish-row : Numbered 13
  unfolding table publish
  publish-row = inside _ _ (publishing-case (Ends _) (slot_at S i) _ (λ p. rw p) λ ignoring taken start commit reads writes x. rw x)

  give-up-row : Numbered 14
  unfolding table give_up
  give-up-row = inside _ _ (uncommitted-case (Ends _) (slot_at S i) _ (λ p. rw p) λ p. rw p)

  -- a write or an update, with a value and without
  with_write : (t : Bool) → legal_word kind word ≡ t → Numbered 3
  unfolding step step_of decoded parsed ◌and◌
  with_write true legal = rw legal (write-row legal)
  with_write false illegal = rw illegal (illegal-write-row illegal)

  with-update : (t : Bool) → legal_word kind word ≡ t → Numbered 8
  unfolding step step_of decoded parsed ◌and◌
  with-update true legal = rw legal (update-row legal)
  with-update false illegal = rw illegal (illegal-update-row illegal)

  -- a number outside 1 to 14
  outside : (number : ℕ) → 14 < number → Numbered number
  unfolding table
  outside number far = rw (le-leb 1 number (omega arith), lt-leb number 14 far)

  nought : Numbered 0
  unfolding table
  nought = refl

  numbered : (number : ℕ) → Numbered number
  numbered zero = nought
  numbered (suc zero) = begin-row
  numbered (suc (suc zero)) = read-row
  numbered (suc (suc (suc zero))) = with_write (legal_word kind word) refl
  numbered (suc (suc (suc (suc zero)))) = close_row
  numbered (suc (suc (suc (suc (suc zero))))) = lock-row
  numbered (suc (suc (suc (suc (suc (suc zero)))))) = enter-row
  numbered (suc (suc (suc (suc (suc (suc (suc zero))))))) = reread-row
  numbered (suc (suc (suc (suc (suc (suc (suc (suc zero)))))))) = with-update (legal_word kind word) refl
  numbered (suc (suc (suc (suc (suc (suc (suc (suc (suc zero))))))))) = ask-row
  numbered (suc (suc (suc (suc (suc (suc (suc (suc (suc (suc zero)))))))))) = reload-row
  numbered (suc (suc (suc (suc (suc (suc (suc (suc (suc (suc (suc zero))))))))))) = ignore-row
  numbered (suc (suc (suc (suc (suc (suc (suc (suc (suc (suc (suc (suc zero)))))))))))) = finish-row
  numbered (suc (suc (suc (suc (suc (suc (suc (suc (suc (suc (suc (suc (suc zero))))))))))))) = publish-row
  numbered (suc (suc (suc (suc (suc (suc (suc (suc (suc (suc (suc (suc (suc (suc zero)))))))))))))) = give-up-row
  numbered (suc (suc (suc (suc (suc (suc (suc (suc (suc (suc (suc (suc (suc (suc (suc n))))))))))))))) = outside (suc (suc (suc (suc (suc (suc (suc (suc (suc (suc (suc (suc (suc (suc (suc n))))))))))))))) (omega arith)

-- the code that an area's answer has
answer-code : (M : Model) (bytes : List ℕ) (o : Outcome) → reply_code (answered M bytes o).reply ≡ ending_code (ending o)
answer-code M bytes (refused r) = refl
answer-code M bytes (accepted r T) = refl

on-bytes : (M : Model) (bytes : List ℕ) (right : Bool) (o : Outcome) (e : Ending) → Ends e o
    → reply_code (cond right (answered M bytes o) (record { reply = Err NotWellFormed; bytes = bytes })).reply ≡ cond right (ending_code e) 1
on-bytes M bytes true o e f = answer-code M bytes o ∙ ap ending_code f
on-bytes M bytes false o e f = refl

-- rows above a code have no lower one that applies, and in rows that ascend those after the first that applies are above it
none-lower : (k : ℕ) (rows : List Row) → all (λ (q : Row). ltb (height k) (height (row_number q))) rows ≡ true → any (lower_applies k) rows ≡ false
unfolding any all ◌and◌ ◌or◌
none-lower k [] p = refl
none-lower k (code when true ∷ rows) p =
    let above : height k < height code = ltb-true (height k) (height code) (and_left (ltb (height k) (height code)) _ p) in
    rw (le-ltb (height code) (height k) (omega arith)) (none-lower k rows (and_right (ltb (height k) (height code)) _ p))
none-lower k (code when false ∷ rows) p = none-lower k rows (and_right (ltb (height k) (height code)) _ p)

first-lowest : (rows : List Row) (n k : ℕ) → pairwise (λ (r q : Row). ltb (height (row_number r)) (height (row_number q))) rows ≡ true
    → first_of rows (outcome n) ≡ refusal k → any (lower_applies k) rows ≡ false
unfolding first_of any pairwise ◌and◌ ◌or◌
first-lowest [] n k p e = refl
first-lowest (code when true ∷ rows) n k p e =
    let same : code ≡ k = ap ending_code e in
    subst (λ (k : ℕ). any (lower_applies k) (code when true ∷ rows) ≡ false) same
    (rw (le-ltb (height code) (height code) (omega arith)) (none-lower code rows (and_left (all (λ (q : Row). ltb (height code) (height (row_number q))) rows) _ p)))
first-lowest (code when false ∷ rows) n k p e =
    first-lowest rows n k (and_right (all (λ (q : Row). ltb (height code) (height (row_number q))) rows) _ p) e

pub lowest-code : (M : Model) → LowestCode M
unfolding step_on_bytes table_ending pairwise all ◌and◌
lowest-code M =
    let given : (S : State) (a : Call) → Ends (table_ending M S a) (step M S a) = λ S a. numbered M S a.slot a.cell a.kind a.word a.step in
    record {
      given = given;
      on_bytes = λ bytes a. on-bytes M bytes (well_formed M bytes) (step M (state_of M bytes) a) _ (given (state_of M bytes) a);
      lowest = λ S a k e. first-lowest (code_table M S a) _ k refl (sym (given S a) ∙ e);
      ascending = λ S a. refl;
    }
