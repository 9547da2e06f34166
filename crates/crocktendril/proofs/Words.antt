-- Every reply of a step has a word of 32 bits: an answer is made of a cell value, and the word of any value that a kind and a word stand for fits; so do a cell and its holder.
use Rattle.std.specs.Prelude.{Err}
use mathlib.Core.Bool.{Bool, true, false, cond, not}
use mathlib.Core.List.{List, map}
use mathlib.Core.Logic.{⊎_elim}
use mathlib.Core.Path.{◌≡◌, refl}
use Prim.Native.Nat.{ℕ, suc, pred, ◌-◌, ◌^◌, ◌<◌, ◌≤◌}
use native.Mathlib.Omega.{arith}
use lib.Dec.{eqb, ltb, lit<, leb→le}
use lib.ListN.{get_or}
use borrow.Author.Tests.{leb-true, ltb-true}
use lib.Ieee.{binary32, of_bits}
use lib.Ieee.Bits.{to_bits-lt, of_bits-fits}
use lib.IntN.{pos, negsuc}
use mir.Syntax.{w32}
use mir.Val.{to_z, of_z, sel}
use Rattle.value.specs.declared.CellValue.TheVariants.{Truth, Whole, Real}
use Rattle.value.specs.Value.{word_of, value_of}
use Rattle.wire.proofs.Laws.Table.{length-tab}
use Rattle.call.specs.declared.Step.{Step}
use Rattle.call.specs.declared.Answer.{Answer}
use Rattle.call.specs.declared.Refusal.{Refusal}
use Rattle.call.specs.Answer.{held_word, answer_word, refusal_code, refusal_word, reply_word}
use Rattle.call.proofs.Replies.{refusal-bare}
use Rattle.slot.specs.Layout.{empty}
use Rattle.slot.specs.Logs.{some_marked}
use Rattle.slot.proofs.Logic.{and_left, and_right}
use Rattle.rules.specs.Model.{Model, FitsBytes}
use Rattle.rules.specs.Cells.{with_mark, held_by_other}
use Rattle.rules.specs.State.{State, cell_count, cell_at}
use Rattle.rules.specs.LogsRight.{cell_count_right}
use Rattle.rules.specs.Layout.{count_in, cells_in, records_in, state_of}
use Rattle.rules.specs.AreaRight.{well_formed_but_holders, record_holds, area_holders_right, well_formed}
use Rattle.rules.specs.Outcome.{Outcome, refused, accepted, reply_of}
use Rattle.rules.specs.Step.{Call, step}
use Rattle.rules.proofs.Holders.{holder-within}
use Rattle.history.proofs.Cases.{Bare}
use Rattle.history.proofs.Move.{Move, began, read-written, read_again, read_first, wrote, closed, locked, entered, reread-done, updated, ask-done, reloading, ignored, nothing-to-ignore, aborted, committed, published, gave-up, bare-refusal, read_held, lock-held, reload-held, Lawful}
use Rattle.history.proofs.StepCase.{lawful-case}
use Rattle.history.proofs.InTheWay.{held-inside, obstacle-held}

bit_word : (b : Bool) → cond b 1 0 < 2 ^ 32
bit_word true = lit< tt
bit_word false = lit< tt

whole_word : (n : ℕ) → of_z w32 (to_z w32 n) < 2 ^ 32
whole_word n = by (ltb n (2 ^ 31)) refl
  where
    by : (b : Bool) → ltb n (2 ^ 31) ≡ b → of_z w32 (sel b (pos n) (negsuc (2 ^ 32 - suc n))) < 2 ^ 32
    by true e = let low : n < 2 ^ 31 = ltb-true n (2 ^ 31) e in omega arith
    by false e = omega arith

-- the word of a value that a kind and a word stand for
value-word : (kind word : ℕ) → word_of (value_of kind word) < 2 ^ 32
unfolding value_of
value-word kind word = by (eqb kind 1) (eqb kind 2)
  where
    by : (a b : Bool) → word_of (cond a (Truth (eqb word 1)) (cond b (Whole (to_z w32 word)) (Real (of_bits binary32 word)))) < 2 ^ 32
    by true b = bit_word (eqb word 1)
    by false true = whole_word word
    by false false = to_bits-lt binary32 (of_bits binary32 word) (of_bits-fits binary32 word)

move-word : {M : Model} {S : State} {i : ℕ} {s : Step} {a : Answer} {T : State} → Move M S i s a T → answer_word a < 2 ^ 32
move-word (began x) = lit< tt
move-word {S = S} (read-written {c = c} {e = e} x inside w) = value-word (cell_at S c).kind e.word
move-word {S = S} (read_again {c = c} {e = e} x inside w r) = value-word (cell_at S c).kind e.word
move-word {S = S} (read_first {c = c} x inside w r room held new) = value-word (cell_at S c).kind (cell_at S c).word
move-word (wrote x fit room) = lit< tt
move-word (closed x) = lit< tt
move-word (locked x more same free) = lit< tt
move-word {S = S} {i = i} (entered {start = start} {reads = reads} x whole below) = bit_word (not (some_marked (map (with_mark S i start) reads)))
move-word {S = S} (reread-done {c = c} e) = value-word (cell_at S c).kind e.word
move-word (updated x fit found) = lit< tt
move-word (ask-done e) = bit_word e.mark
move-word (reloading x clear below) = lit< tt
move-word (ignored x free m) = lit< tt
move-word nothing-to-ignore = lit< tt
move-word (aborted x m) = lit< tt
move-word (committed x m) = lit< tt
move-word (published x e) = lit< tt
move-word (gave-up x) = lit< tt

-- a bare refusal has word 0; a holder, and a cell with its holder, fit where both are bytes
bare-word : (r : Refusal) → Bare r → refusal_word r < 2 ^ 32
bare-word r k =
    let low = leb→le 2 (refusal_code r) k.0.0 in
    let bare = (refusal-bare (Err r) (λ e. omega arith) (⊎_elim (λ e. rw e at k.1) (λ e. rw e at k.2))).1 in
    omega arith

module _ (M : Model) (S : State) (holders : (c : ℕ) → (cell_at S c).holder < 256) (cells : cell_count S ≤ 256) where
  held_word_lem : (i c : ℕ) → held_by_other i (cell_at S c) ≡ true → held_word c (cell_at S c).holder < 2 ^ 32
  held_word_lem i c held = omega (arith, holders c, held-inside S i c held)

  lawful-word : (i : ℕ) (s : Step) (o : Outcome) → Lawful M S i s o → reply_word (reply_of o) < 2 ^ 32
  lawful-word i s (accepted r T) m = move-word m
  lawful-word i s (refused r) (bare-refusal k) = bare-word r k
  lawful-word i s (refused r) (read_held {c = c} held) = omega (arith, holders c)
  lawful-word i s (refused r) (lock-held {c = c} x more same held) = held_word_lem i c held
  lawful-word i s (refused r) (reload-held {e = e} x o) = held_word_lem i e.cell (obstacle-held S i _ e o)

  step-word : (a : Call) → reply_word (reply_of (step M S a)) < 2 ^ 32
  step-word a = lawful-case M S (λ o. reply_word (reply_of o) < 2 ^ 32) bare-word a (λ s made h. lawful-word (pred a.slot) s)

-- .. as they are in every area that is well formed: a cell's holder is a slot of the model or none, and there are as many cells as the model can have at most
module _ (M : Model) (l : List ℕ) (formed : well_formed M l ≡ true) where
  formed-holder : (c : ℕ) → (cell_at (state_of M l) c).holder ≤ M.slots
  unfolding well_formed area_holders_right state_of
  formed-holder = holder-within (cells_in M l) M.slots (λ s c. record_holds (get_or (records_in M l) s empty) c) (and_right (well_formed_but_holders M l) _ formed)

  formed-count : cell_count (state_of M l) ≤ M.cells
  unfolding well_formed well_formed_but_holders cell_count_right state_of cells_in
  formed-count =
      let but-holders = and_left (well_formed_but_holders M l) _ formed in
      let counted : cell_count_right M (count_in l) ≡ true = and_left _ _ (and_right _ _ (and_right _ _ but-holders)) in
      rw (length-tab (count_in l)) (leb-true _ _ (and_right _ _ counted))

  pub formed-word : FitsBytes M → (a : Call) → reply_word (reply_of (step M (state_of M l) a)) < 2 ^ 32
  formed-word fits = step-word M (state_of M l) (λ c. omega (arith, fits.slots_fit, formed-holder c)) (omega (arith, fits.cells_fit, formed-count))
