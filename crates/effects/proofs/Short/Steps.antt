-- Each call pays for its line, whatever its numbers.
use Rattle.std.specs.Prelude.{Ok, Err}
use mathlib.Core.Bool.{Bool, true, false, not, cond}
use mathlib.Core.List.{List, [], ◌∷◌}
use mathlib.Core.Path.{◌≡◌, refl, subst}
use Prim.Native.Nat.{ℕ, suc, pred, ◌+◌, ◌*◌, ◌^◌, ◌<◌, ◌≤◌}
use native.Mathlib.Omega.{arith}
use lib.Dec.{T, eqb, leb→le}
use lib.ListN.{length, length-map}
use borrow.Author.Tests.{ne_eqb, ltb-true, leb-true}
use Rattle.call.specs.declared.Step.{Step}
use Rattle.call.specs.Answer.{Reply, reply_code, refusal_code}
use Rattle.call.specs.declared.Answer.{Answer}
use Rattle.call.specs.declared.Refusal.{Refusal}
use Rattle.call.specs.declared.Answer.TheVariants.{Done, Aborted}
use Rattle.call.specs.Decode.{step_number, decoded}
use Rattle.call.proofs.Numbers.{number-back}
use Rattle.slot.specs.declared.ReadEntry.{ReadEntry}
use Rattle.slot.specs.declared.WriteEntry.{WriteEntry}
use Rattle.slot.specs.Logic.{◌and◌, ◌or◌, All}
use Rattle.slot.proofs.Logic.{and_left, and_right, and-false}
use Rattle.slot.proofs.Laws.Operations.{put-length}
use Rattle.line.specs.declared.Style.TheVariants.{Decimal}
use Rattle.line.specs.Number.{decimal}
use Rattle.line.proofs.Number.{few}
use Rattle.rules.specs.declared.Cell.{Cell}
use Rattle.rules.specs.Model.{controller}
use Rattle.rules.specs.State.{State, Slot, twilight, cell_count, slot_at, turn}
use Rattle.rules.specs.LogsRight.{logged_right, writes_right, cell_count_right}
use Rattle.rules.specs.StateRight.{state_right}
use Rattle.rules.specs.Outcome.{reply_of, after}
use Rattle.rules.specs.Step.{Call, step}
use Rattle.history.specs.History.{Event, from_shared}
use Rattle.history.proofs.Cases.{OfStep}
use Rattle.history.proofs.Invariant.{All-mapped, all-each}
use Rattle.history.proofs.Keeps.Lists.{cond-elim}
use Rattle.history.proofs.Keeps.Slots.{SlotHolds, slot-holds}
use Rattle.history.proofs.Move.{new_write, Move, began, read-written, read_again, read_first, wrote, closed, locked, entered, reread-done, updated, ask-done, reloading, ignored, nothing-to-ignore, aborted, committed, published, gave-up}
use Rattle.history.proofs.Record.{read_names}
use Rattle.history.proofs.Right.{Right, right_of}
use Rattle.history.proofs.StepCase.{step_case}
use Rattle.effects.specs.Effects.{Effect, written_cells, effect_of}
use Rattle.effects.specs.Effects as effect
use Rattle.effects.specs.Trace.{effect_word, effect_fields, trace}
use Rattle.effects.proofs.Short.Lines.{spaced, cells-short, none-long, one-long}
use Rattle.effects.proofs.Short.Credit.{credit_of, spent, Pays, stays, turns}

-- a test that fails is false
off : (b : Bool) → T (not b) → b ≡ false
off true t = absurd t
off false t = refl

-- A call on state S, for the number of its slot's transaction.
module _ (S : State) (a : Call) (number : ℕ) where
  abbrev event : Reply → Event
  event r = record { before = S; call = a; reply = r }

  -- the bytes of its line
  abbrev bytes : Reply → ℕ
  bytes r = length (trace (effect_of number (event r)))

  -- a refused call has none
  refused-silent : (r : Refusal) → OfStep r → effect_of number (event (Err r)) ≡ []
  unfolding effect_of ◌and◌ ◌or◌
  refused-silent r k =
      let low = leb→le 2 (refusal_code r) k.0 in
      simp (ne_eqb (refusal_code r) 0 (omega arith), off (eqb (refusal_code r) 13) k.1, and-false)

  -- a silent call that changes nothing
  rests : (r : Reply) → effect_of number (event r) ≡ [] → Pays S (bytes r) S
  rests r silent = rw silent (stays S (length (trace [])) (omega (arith, none-long)))

  -- a call with a line
  line-short : (x : Effect) (r : Reply) (k : ℕ) → effect_of number (event r) ≡ x ∷ [] → length (effect_word x) + spaced (effect_fields x) + 1 ≤ k → bytes r ≤ k
  line-short x r k shown h = rw (shown, one-long x) h

  -- .. of one of the 8 slots, in a right state, where the transaction's number and the clock have at most four digits
  module _ (right : Right controller S) (slot : pred a.slot < 8) (small : number < 10 ^ 4) (young : S.clock < 10 ^ 4) where
    inside : pred a.slot < length S.slots
    inside = rw right.slot_count slot

    -- digits of the slot, digits of the number, cells of the area
    slot-few : length (decimal a.slot) ≤ 1
    slot-few = few Decimal 1 a.slot (omega arith) (omega arith)

    number-few : length (decimal number) ≤ 4
    number-few = few Decimal 4 number small (omega arith)

    cells-few : cell_count S ≤ 64
    unfolding cell_count_right
    cells-few = leb-true (cell_count S) 64 (and_right _ _ right.cell_count_fits)

    -- a silent step that turns its slot
    quiet : (r : Reply) (clock : ℕ) (cells : List Cell) (x y : Slot) → effect_of number (event r) ≡ [] → slot_at S (pred a.slot) ≡ y → clock ≤ suc S.clock
        → credit_of x ≤ 12 + credit_of y → Pays S (bytes r) (turn S (pred a.slot) clock cells x)
    quiet r clock cells x y silent was later h = rw silent (turns S (pred a.slot) (length (trace [])) clock cells x y inside was later (omega (arith, none-long)))

    -- a step that turns its slot at the same clock, with a line of at most `most` bytes
    prints : (r : Reply) (most : ℕ) (cells : List Cell) (x y : Slot) → bytes r ≤ most → slot_at S (pred a.slot) ≡ y → most + credit_of x ≤ 12 + credit_of y
        → Pays S (bytes r) (turn S (pred a.slot) S.clock cells x)
    prints r most cells x y short was h = turns S (pred a.slot) (bytes r) S.clock cells x y inside was (omega arith) (omega arith)

    -- `at`, `rl` and `ab` have at most 10 bytes
    plain : (x : Effect) (r : Reply) → effect_of number (event r) ≡ x ∷ [] → length (effect_word x) ≡ 2 → effect_fields x ≡ a.slot ∷ number ∷ [] → bytes r ≤ 10
    plain x r shown word fields = line-short x r 10 shown (rw fields (omega (arith, slot-few, number-few)))

    -- `r` has at most 12
    read_short : (r : Reply) (c : ℕ) → a.step ≡ 2 → reply_code r ≡ 0 → a.cell ≡ c → c < cell_count S → bytes r ≤ 12
    unfolding effect_of ◌and◌ ◌or◌
    read_short r c e code named there =
        let cell-few = few Decimal 2 a.cell (omega (arith, cells-few)) (omega arith) in
        let x = effect.read_shared a.slot number a.cell in
        let shown : effect_of number (event r) ≡ cond (from_shared (event r)) (x ∷ []) [] = rw (e, code) in
        rw shown
        (cond-elim (λ (l : List Effect). length (trace l) ≤ 12) (from_shared (event r)) (x ∷ []) []
        (λ h. rw (one-long x) (omega (arith, slot-few, number-few))) (λ h. omega (arith, none-long)))

    -- A slot in twilight, at its finish.
    module _ (ignoring : Bool) (start commit : ℕ) (reads : List ReadEntry) (writes : List WriteEntry)
        (was : slot_at S (pred a.slot) ≡ twilight ignoring start commit reads writes) where
      holds : SlotHolds S.cells S.clock (twilight ignoring start commit reads writes)
      holds = subst (SlotHolds S.cells S.clock) was (slot-holds S.cells S.clock (slot_at S (pred a.slot)) (right.slot (pred a.slot)))

      -- its stamp is at most the clock, and the cells of its write log are below n
      stamp-few : length (decimal commit) ≤ 4
      stamp-few = let past = holds.2 in few Decimal 4 commit (omega arith) (omega arith)

      log-short : spaced (written_cells writes) ≤ 3 * length writes
      unfolding writes_right logged_right
      log-short =
          let low : All (λ (c : ℕ). c < 100) (written_cells writes) =
          All-mapped (λ (e : WriteEntry). logged_right S.cells e.cell e.word ≡ true) (λ c. c < 100) (λ (e : WriteEntry). e.cell)
          (λ e logged. omega (arith, cells-few, ltb-true e.cell (cell_count S) (and_left _ _ logged))) writes
          (all-each (λ (e : WriteEntry). logged_right S.cells e.cell e.word) writes (and_left _ _ holds.0.writes_hold)) in
          rw length-map at (cells-short (written_cells writes) low)

      -- so `co` has at most 15 bytes, and 3 more for each cell
      commit-short : a.step ≡ 12 → bytes (Ok Done) ≤ 15 + 3 * length writes
      unfolding effect_of ◌and◌ ◌or◌
      commit-short e =
          line-short (effect.committed a.slot number commit (written_cells writes)) (Ok Done) (15 + 3 * length writes) (rw (e, was))
          (omega (arith, slot-few, number-few, stamp-few, log-short))

    -- every accepted step pays
    move-pays : {s : Step} {r : Answer} {T : State} → Move controller S (pred a.slot) s r T → decoded a.step a.cell a.kind a.word ≡ Ok s
        → a.step ≡ step_number s → Pays S (bytes (Ok r)) T
    unfolding effect_of ◌and◌ ◌or◌
    move-pays (began x) d e = prints (Ok Done) 10 _ _ _ (plain (effect.begun a.slot number) (Ok Done) (rw e) refl refl) x (omega arith)
    move-pays {r = r} (read-written {c = c} x there w) d e = stays S (bytes (Ok r)) (read_short (Ok r) c e refl (read_names _ _ _ _ c e d) there)
    move-pays {r = r} (read_again {c = c} x there w q) d e = stays S (bytes (Ok r)) (read_short (Ok r) c e refl (read_names _ _ _ _ c e d) there)
    move-pays {r = r} (read_first {c = c} x there w q room held new) d e =
        prints (Ok r) 12 _ _ _ (read_short (Ok r) c e refl (read_names _ _ _ _ c e d) there) x (omega arith)
    move-pays (wrote {c = c} {v = v} {writes = writes} x fit room) d e = quiet (Ok Done) _ _ _ _ (rw e) x (omega arith) (omega (arith, put-length (new_write c v) writes))
    move-pays (closed x) d e = quiet (Ok Done) _ _ _ _ (rw e) x (omega arith) (omega arith)
    move-pays (locked x more same free) d e = quiet (Ok Done) _ _ _ _ (rw e) x (omega arith) (omega arith)
    move-pays {r = r} (entered x whole below) d e = quiet (Ok r) _ _ _ _ (rw e) x (omega arith) (omega arith)
    move-pays {r = r} (reread-done f) d e = rests (Ok r) (rw e)
    move-pays (updated {c = c} {v = v} {writes = writes} x fit found) d e = quiet (Ok Done) _ _ _ _ (rw e) x (omega arith) (omega (arith, put-length (new_write c v) writes))
    move-pays {r = r} (ask-done f) d e = rests (Ok r) (rw e)
    move-pays (reloading x clear below) d e =
        turns S (pred a.slot) _ _ _ _ _ inside x (omega arith) (omega (arith, plain (effect.reloaded a.slot number) (Ok Done) (rw e) refl refl))
    move-pays (ignored x free m) d e = quiet (Ok Done) _ _ _ _ (rw e) x (omega arith) (omega arith)
    move-pays nothing-to-ignore d e = rests (Ok Done) (rw e)
    move-pays (aborted x m) d e = prints (Ok Aborted) 10 _ _ _ (plain (effect.aborted a.slot number) (Ok Aborted) (rw e) refl refl) x (omega arith)
    move-pays (committed {ignoring = ignoring} {start = start} {commit = commit} {reads = reads} {writes = writes} x m) d e =
        prints (Ok Done) (15 + 3 * length writes) _ _ _ (commit-short ignoring start commit reads writes x e) x (omega (arith, spent ignoring 0 start commit reads writes))
    move-pays (published {ignoring = ignoring} {count = count} {start = start} {commit = commit} {reads = reads} {writes = writes} x same) d e =
        quiet (Ok Done) _ _ _ _ (rw e) x (omega arith) (omega (arith, spent ignoring (suc count) start commit reads writes))
    move-pays (gave-up u) d e = prints (Ok Done) 10 _ _ _ (plain (effect.aborted a.slot number) (Ok Done) (rw e) refl refl) refl (omega arith)

  -- .. and so does any call, of any numbers
  pub step-pays : state_right controller S ≡ true → number < 10 ^ 4 → S.clock < 10 ^ 4
      → Pays S (bytes (reply_of (step controller S a))) (after S (step controller S a))
  step-pays right small young =
      step_case controller S (λ o. Pays S (bytes (reply_of o)) (after S o)) (λ r k. rests (Err r) (refused-silent r k)) a
      (λ s made h r T m. move-pays (right_of controller S right) h small young m made (number-back a.step a.cell a.kind a.word s made))
