-- The core that is named after both does both, on every area: what it leaves fits its bytes, so the area holds it, and there every cell of the write log has its word.
use mathlib.Core.Bool.{true, not}
use mathlib.Core.List.{List, [], ◌∷◌}
use mathlib.Core.Path.{◌≡◌, refl, sym, ◌∙◌, ap, ap₂, subst}
use Prim.Native.Nat.{ℕ, pred, ◌^◌, ◌<◌, ◌≤◌}
use native.Mathlib.Omega.{arith}
use lib.Dec.{eqb, ltb, leb→le}
use lib.ListN.{length, get_or, set, length-set, get_or-eq_default}
use lib.Seq.{get_or-set_same, get_or-set_other}
use borrow.Author.Tests.{eq-eqb, ltb-true, leb-true}
use Rattle.value.proofs.RoundTrip.{legal-bound}
use Rattle.call.specs.declared.Step.{Step}
use Rattle.call.specs.declared.Answer.{Answer}
use Rattle.call.specs.declared.Refusal.{Refusal}
use Rattle.call.specs.Answer.{refusal_code, reply_number}
use Rattle.slot.specs.declared.WriteEntry.{WriteEntry}
use Rattle.slot.specs.Layout.{no_write}
use Rattle.slot.specs.Logic.{◌and◌, all, pairwise}
use Rattle.slot.specs.Logs.{some_marked}
use Rattle.slot.proofs.Logic.{and_intro, and_left, and_right}
use Rattle.rules.specs.declared.Cell.{Cell}
use Rattle.rules.specs.Model.{controller}
use Rattle.rules.specs.State.{State, Slot, twilight, no_cell, cell_at, slot_at, writes_of}
use Rattle.rules.specs.Cells.{freed}
use Rattle.rules.specs.LogsRight.{logged_right, writes_right, commit_between}
use Rattle.rules.specs.StateRight.{slot_right, state_right}
use Rattle.rules.specs.Outcome.{Outcome, refused}
use Rattle.rules.specs.Step.{Call, inside_slots}
use Rattle.rules.specs.Layout.{state_of}
use Rattle.rules.specs.Area.{answered}
use Rattle.rules.proofs.Controller.{controller-fits}
use Rattle.rules.proofs.CellBytes.{CellFits}
use Rattle.rules.proofs.Places.{Sized, state-packed}
use Rattle.rules.proofs.StateSized.{logs-hold}
use Rattle.rules.proofs.RoundTrip.{sized, state-right}
use Rattle.history.specs.Slips.{slip}
use Rattle.history.proofs.Right.{right_of}
use Rattle.history.proofs.Cases.{Bare, cond-case, twilight-case, publishing-case}
use Rattle.history.proofs.StepCase.{slots-case}
use Rattle.history.proofs.Move.{Move, committed, published}
use Rattle.history.proofs.Keeps.Lists.{below_or_not, set-each}
use Rattle.history.proofs.Keeps.Back.{right-back}
use Rattle.history.proofs.Keeps.Moves.{move-right}
use Rattle.tested.specs.Core.{Askable, Result, result_of, core_of, with_row}
use Rattle.tested.specs.WrongCores.{all_have_words, WritesAtFinish, PretendsToPublish, all_written, finish_writes, publish_nothing, writes_and_pretends}

abbrev Fit : List Cell → Type 0
Fit cells = (c : ℕ) → CellFits controller.stamp_bytes (get_or cells c no_cell)

module _ (cells : List Cell) (commit : ℕ) where
  abbrev Logged : List WriteEntry → Type 0
  Logged writes = all (λ (e : WriteEntry). logged_right cells e.cell e.word) writes ≡ true

  written-length : (writes : List WriteEntry) (now : List Cell) → length (all_written commit writes now) ≡ length now
  unfolding all_written
  written-length [] now = refl
  written-length (e ∷ writes) now = written-length writes _ ∙ length-set now e.cell _

  written-fit : commit < 256 ^ controller.stamp_bytes → (writes : List WriteEntry) (now : List Cell) → Logged writes → Fit now → Fit (all_written commit writes now)
  unfolding all_written all logged_right
  written-fit stamp [] now p fit = fit
  written-fit stamp (e ∷ writes) now p fit =
      written-fit stamp writes _ (and_right _ _ p)
      (set-each (λ j y. CellFits controller.stamp_bytes y) now e.cell _ no_cell
      (record { word_fits = legal-bound _ _ (and_right _ _ (and_left _ _ p)); stamp_fits = stamp }) fit)

  -- a cell below those of the log stays
  below_stays : (writes : List WriteEntry) (now : List Cell) (c : ℕ) → all (λ (f : WriteEntry). ltb c f.cell) writes ≡ true
      → get_or (all_written commit writes now) c no_cell ≡ get_or now c no_cell
  unfolding all_written all
  below_stays [] now c p = refl
  below_stays (e ∷ writes) now c p =
      let below : c < e.cell = ltb-true _ _ (and_left _ _ p) in
      below_stays writes _ c (and_right _ _ p) ∙ get_or-set_other now e.cell c _ no_cell (λ same. omega arith)

  written-words : (writes : List WriteEntry) (now : List Cell) → length now ≡ length cells → Logged writes
      → pairwise (λ (e f : WriteEntry). ltb e.cell f.cell) writes ≡ true
      → all (λ (e : WriteEntry). eqb (get_or (all_written commit writes now) e.cell no_cell).word e.word) writes ≡ true
  unfolding all_written all pairwise logged_right
  written-words [] now long p q = refl
  written-words (e ∷ writes) now long p q =
      let inside : e.cell < length cells = ltb-true _ _ (and_left _ _ (and_left _ _ p)) in
      and_intro _ _
      (eq-eqb _ _ (ap (λ (y : Cell). y.word) (below_stays writes _ e.cell (and_left _ _ q) ∙ get_or-set_same now e.cell _ no_cell (omega arith))))
      (written-words writes _ (length-set now e.cell _ ∙ long) (and_right _ _ p) (and_right _ _ q))

module _ (l : List ℕ) (call : Call) (asked : Askable l call) where
  abbrev S : State
  S = state_of controller l

  abbrev i : ℕ
  i = pred call.slot

  right : state_right controller S ≡ true
  right = state-right controller l asked.bytes asked.formed

  fit : Fit S.cells
  fit c =
      below_or_not _ c (length S.cells)
      ((sized controller controller-fits S right).cells_fit c)
      (λ h. rw (get_or-eq_default S.cells no_cell {n = c} h) (record { word_fits = omega arith; stamp_fits = omega arith }))

  -- the clock and the slots after a step of the rules, with cells that fit
  refit : {s : Step} {r : Answer} {T : State} → pred call.slot < controller.slots → Move controller S i s r T
      → (cells : List Cell) → length cells ≡ length T.cells → Fit cells → Sized controller (record { clock = T.clock; cells = cells; slots = T.slots })
  refit {T = T} there m cells long fits =
      let right-after = right-back controller T (move-right controller S (right_of controller S right) i there m) in
      let after = sized controller controller-fits T right-after in
      record {
        length_fits = rw long after.length_fits;
        clock_fits = after.clock_fits;
        slot_count = after.slot_count;
        cells_fit = λ c h. fits c;
        slots_fit = after.slots_fit;
      }

  abbrev Written : Outcome → Type 0
  Written o =
      reply_number (answered controller l o).reply ≡ 0 → all_have_words (state_of controller (answered controller l o).bytes) (writes_of (slot_at S i)) ≡ true

  not-refused : (r : Refusal) → Bare r → Written (refused r)
  unfolding reply_number
  not-refused r k e = absurd (omega (arith, leb→le 2 (refusal_code r) k.0.0))

  finish-writes : Written (inside_slots controller call.slot (finish_writes S i))
  unfolding finish_writes reply_number slot_right commit_between writes_right
  finish-writes =
      slots-case controller S Written not-refused call.slot _ λ there.
      twilight-case Written not-refused (slot_at S i) _ λ ignoring start commit reads writes x.
      cond-case Written not-refused (some_marked reads and not ignoring) _ _ (λ m e. absurd (omega arith)) λ m e.
      let held : slot_right S.cells S.clock (twilight ignoring start commit reads writes) ≡ true =
      subst (λ (y : Slot). slot_right S.cells S.clock y ≡ true) x ((right_of controller S right).slot i) in
      let logs = (logs-hold S.cells S.clock start reads writes (and_left _ _ held)).writes_hold in
      let last : commit ≤ S.clock = leb-true _ _ (and_right _ _ (and_left _ _ (and_right _ _ held))) in
      let clock = (sized controller controller-fits S right).clock_fits in
      let stamp : commit < 256 ^ controller.stamp_bytes = omega arith in
      ap₂ (λ (U : State) (y : Slot). all_have_words U (writes_of y))
      (state-packed controller _
      (refit there (committed x m) (all_written commit writes S.cells) (written-length S.cells commit writes S.cells)
      (written-fit S.cells commit stamp writes S.cells (and_left _ _ logs) fit)))
      x
      ∙ written-words S.cells commit writes S.cells refl (and_left _ _ logs) (and_right _ _ logs)

  abbrev Pretended : Outcome → Type 0
  Pretended o = (c : ℕ) → (cell_at (state_of controller (answered controller l o).bytes) c).word ≡ (cell_at S c).word

  publish-pretends : Pretended (inside_slots controller call.slot (publish_nothing S i))
  unfolding publish_nothing
  publish-pretends =
      slots-case controller S Pretended (λ r k c. refl) call.slot _ λ there.
      publishing-case Pretended (λ r k c. refl) (slot_at S i) _ λ ignoring taken start commit reads writes x c.
      let next = (get_or writes taken no_write).cell in
      let free = freed (cell_at S next) in
      let cells = set S.cells next free in
      ap (λ (U : State). (cell_at U c).word)
      (state-packed controller _
      (refit there (published x refl) cells (length-set S.cells next _ ∙ sym (length-set S.cells next _))
      (set-each (λ j y. CellFits controller.stamp_bytes y) S.cells next free no_cell (record { word_fits = (fit next).word_fits; stamp_fits = (fit next).stamp_fits }) fit)))
      ∙ set-each (λ j y. y.word ≡ (cell_at S j).word) S.cells next free no_cell refl (λ j. refl) c

  -- the core is made of these two rows
  row-12 : call.step ≡ 12 → core_of writes_and_pretends l call ≡ result_of (answered controller l (inside_slots controller call.slot (finish_writes S i)))
  unfolding core_of with_row slip
  row-12 e = rw (asked.formed, e)

  row-13 : call.step ≡ 13 → core_of writes_and_pretends l call ≡ result_of (answered controller l (inside_slots controller call.slot (publish_nothing S i)))
  unfolding core_of with_row slip
  row-13 e = rw (asked.formed, e)

pub writes-at-finish : WritesAtFinish (core_of writes_and_pretends)
writes-at-finish l call asked e =
    subst (λ (r : Result). r.answer ≡ 0 → all_have_words (state_of controller r.left) (writes_of (slot_at (state_of controller l) (pred call.slot))) ≡ true)
    (sym (row-12 l call asked e)) (finish-writes l call asked)

pub pretends-to-publish : PretendsToPublish (core_of writes_and_pretends)
pretends-to-publish l call asked e =
    subst (λ (r : Result). (c : ℕ) → (cell_at (state_of controller r.left) c).word ≡ (cell_at (state_of controller l) c).word)
    (sym (row-13 l call asked e)) (publish-pretends l call asked)
