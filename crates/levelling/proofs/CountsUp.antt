-- A commit that levels raises the picked group's count by exactly one, and a replay that only such commits write never falls. From demand 3 alone.
use mathlib.Core.Bool.{Bool, true, false, not, false≢true}
use mathlib.Core.List.{List, [], ◌∷◌}
use mathlib.Core.Logic.{inl, inr}
use mathlib.Core.Option.{some}
use mathlib.Core.Path.{◌≡◌, refl, sym, ◌∙◌, ap, subst, subst₂}
use Prim.Native.Nat.{ℕ, zero, suc, pred, ◌<◌, ◌≤◌}
use native.Mathlib.Omega.{arith}
use lib.Dec.{eqb}
use lib.ListN.{length, get_or}
use lib.Signed.{◌≤ℤ◌, ≤ℤ_refl}
use borrow.Author.Tests.{eqb-true, eq-eqb, ne_eqb, not-true}
use Rattle.slot.specs.declared.ReadEntry.{ReadEntry}
use Rattle.slot.specs.declared.WriteEntry.{WriteEntry}
use Rattle.slot.specs.Layout.{no_read}
use Rattle.slot.specs.Logic.{any, first, pairwise, All}
use Rattle.slot.specs.Logs.{write_entry, writes_cell}
use Rattle.slot.proofs.Logic.{and_left, and_right, or-false}
use Rattle.rules.specs.Model.{Model, FitsBytes}
use Rattle.rules.specs.State.{State}
use Rattle.history.specs.History.{Event, Commit, commits, log_at, replay, Demand3}
use Rattle.history.proofs.Keeps.Lists.{cond-elim, same_or_not}
use Rattle.history.proofs.Invariant.{All-map, All-both, all-each}
use Rattle.history.proofs.Replay.{quiet, writer-leaves}
use Rattle.history.proofs.Histories.{histories}
use Rattle.pick.specs.Groups.{erases_place, erases, last_count}
use Rattle.pick.proofs.PicksRight.{picks-right}
use Rattle.wearset.specs.WearSet.{group_count}
use Rattle.levelling.specs.CountsUp.{words_read, LevelsWith, signed, RaisesOne, RightPick, SetNotIgnored, OnlyLevelled, CountsUp, CountsAre, CountsUpFromRest, CountsAreFromRest}
use Rattle.levelling.proofs.RightPick.{set-has, set-cell, set_word, right-pick}
use Rattle.levelling.proofs.NoneLost.{stays_at, none-lost, all-counted}
use Rattle.levelling.proofs.SignedWords.{signed-next, signed-rises, ≤ℤ-trans}

-- where stamps are apart, the log of each commit's stamp is its own
own-logs : (L : List Commit) → pairwise (λ (x y : Commit). not (eqb x.stamp y.stamp)) L ≡ true
    → All (λ (x : Commit). log_at L x.stamp ≡ x.writes) L
unfolding pairwise log_at
own-logs [] p = tt
own-logs (x ∷ L) p = (
  rw (eq-eqb x.stamp x.stamp refl),
  All-map (λ (y : Commit). (not (eqb x.stamp y.stamp) ≡ true) × (log_at L y.stamp ≡ y.writes)) (λ (y : Commit). log_at (x ∷ L) y.stamp ≡ y.writes)
      (λ y both. rw (not-true (eqb x.stamp y.stamp) both.0) both.1) L
      (All-both _ _ L (all-each _ L (and_left _ _ p)) (own-logs L (and_right _ _ p))),
)

-- a log that writes a cell is that of a commit
written-by : (P : Commit → Type 0) (L : List Commit) → All P L → (k c : ℕ) → writes_cell (log_at L k) c ≡ true
    → (x : Commit) × P x × (x.stamp ≡ k) × (writes_cell x.writes c ≡ true)
unfolding log_at writes_cell any
written-by P [] a k c w = absurd (false≢true w)
written-by P (x ∷ L) a k c w =
    cond-elim (λ (l : List WriteEntry). writes_cell l c ≡ true → (y : Commit) × P y × (y.stamp ≡ k) × (writes_cell y.writes c ≡ true))
    (eqb x.stamp k) x.writes (log_at L k) (λ e v. (x, a.0, eqb-true _ _ e, v)) (λ e v. written-by P L a.1 k c v) w

-- a log with one entry: its cell is found and written, and it writes no other
one_found : (e : WriteEntry) → write_entry (e ∷ []) e.cell ≡ some e
unfolding write_entry first
one_found e = rw (eq-eqb e.cell e.cell refl)

one_written : (e : WriteEntry) → writes_cell (e ∷ []) e.cell ≡ true
unfolding writes_cell any
one_written e = or-false _ ∙ eq-eqb e.cell e.cell refl

one_cell : (e : WriteEntry) (c : ℕ) → writes_cell (e ∷ []) c ≡ true → e.cell ≡ c
unfolding writes_cell any
one_cell e c w = eqb-true _ _ (sym (or-false _) ∙ w)

one-other : (e : WriteEntry) (c : ℕ) → (c ≡ e.cell → ⊥) → writes_cell (e ∷ []) c ≡ false
unfolding writes_cell any
one-other e c other = or-false _ ∙ ne_eqb _ _ (λ same. other (sym same))

module _ (S : State) (events : List Event) where
  -- a commit with its own log at its stamp, whose entries of cells that it writes are what the replay holds just before it
  raises : (x : Commit) → 0 < x.stamp → log_at (commits events) x.stamp ≡ x.writes
      → All (λ (e : ReadEntry). writes_cell x.writes e.cell ≡ true → e.word ≡ replay S events (pred x.stamp) e.cell) x.reads
      → (set : List ℕ) (g : ℕ) → LevelsWith set g x.reads x.writes → RaisesOne S events x.stamp (get_or set (erases_place g) 0)
  raises x positive log had set g levels =
      let c : ℕ = get_or set (erases_place g) 0 in
      let least = picks-right.pick (words_read x.reads) (group_count set) g levels.pick in
      let inside : erases_place g < length set = omega (arith, least.inside) in
      let entry : WriteEntry = record { cell = c; word = suc (erases (words_read x.reads) g) } in
      let cell = set-cell x.reads set levels.cells (erases_place g) inside in
      let written : writes_cell x.writes (get_or x.reads (erases_place g) no_read).cell ≡ true = rw (cell, levels.write) (one_written entry) in
      let word : erases (words_read x.reads) g ≡ replay S events (pred x.stamp) c =
      set_word x.reads set levels.cells (erases_place g) inside (replay S events (pred x.stamp))
      (set-has x.reads set levels.cells (erases_place g) inside _ had written) in
      let raised : replay S events x.stamp c ≡ suc (replay S events (pred x.stamp) c) =
      writer-leaves (log_at (commits events)) _ x.stamp c entry positive
      (ap (λ (l : List WriteEntry). write_entry l c) (log ∙ levels.write) ∙ one_found entry)
      ∙ ap suc word in
      let below : replay S events (pred x.stamp) c < last_count = subst (λ w. w < last_count) word least.below in
      record {
        below = below;
        raised = raised;
        raised_signed = ap signed raised ∙ signed-next _ below;
        others = λ d other.
            quiet (log_at (commits events)) _ (pred x.stamp) x.stamp d (omega arith)
            (λ j above last.
            let same : j ≡ x.stamp = omega arith in
            ap (λ k. writes_cell (log_at (commits events) k) d) same
            ∙ ap (λ (l : List WriteEntry). writes_cell l d) (log ∙ levels.write) ∙ one-other entry d other);
      }

module _ {S : State} {events : List Event} {T : State} (holds : Demand3 S events T) where
  -- each commit that levels raises one count
  each-raises : All (λ (x : Commit). (set : List ℕ) (g : ℕ) → LevelsWith set g x.reads x.writes
      → RaisesOne S events x.stamp (get_or set (erases_place g) 0)) (commits events)
  each-raises =
      All-map _ _
      (λ x known set g levels.
      let above = known.1.0.0 in
      raises S events x (omega arith) known.0 known.1.1 set g levels)
      (commits events)
      (All-both _ _ (commits events) (own-logs (commits events) holds.stamps_apart) (All-both _ _ (commits events) holds.stamps_within holds.updates_had))

  -- .. that of the group which is least worn just before its stamp, if no mark on the set was ignored
  each_right : All (λ (x : Commit). (set : List ℕ) (g : ℕ) → LevelsWith set g x.reads x.writes → SetNotIgnored set x
      → RightPick S events x.stamp set g) (commits events)
  each_right =
      All-map _ _
      (λ x had set g levels kept.
      right-pick S events x set g levels λ k inside.
      let has = set-has x.reads set levels.cells k inside in
      elim kept [ inl off ↦ has _ (had.0 off) | inr unmarked ↦ has _ had.1 (unmarked k inside) ])
      (commits events) (All-both _ _ (commits events) holds.commits_had holds.entries_had)

  module _ (c : ℕ) (only : OnlyLevelled events c) where
    -- a stamp that writes the cell raises it by one
    raised_at : (k : ℕ) → writes_cell (log_at (commits events) k) c ≡ true → RaisesOne S events k c
    raised_at k w =
        let found = written-by _ (commits events) (All-both _ _ (commits events) only each-raises) k c w in
        let levels = found.1.0 found.3 in
        let cell = one_cell _ c (ap (λ (l : List WriteEntry). writes_cell l c) (sym levels.2.write) ∙ found.3) in
        subst₂ (RaisesOne S events) found.2 cell (found.1.1 levels.0 levels.1 levels.2)

    -- from a stamp to the next
    next-rises : (k : ℕ) → signed (replay S events k c) ≤ℤ signed (replay S events (suc k) c)
    next-rises k = by (writes_cell (log_at (commits events) (suc k)) c) refl
      where
        by : (t : Bool) → writes_cell (log_at (commits events) (suc k)) c ≡ t → signed (replay S events k c) ≤ℤ signed (replay S events (suc k) c)
        by true w = let raise = raised_at (suc k) w in rw raise.raised (signed-rises _ raise.below)
        by false w = rw (stays_at S events c k w) (≤ℤ_refl _)

    -- .. and to any later one
    replay-rises : (a b : ℕ) → a ≤ b → signed (replay S events a c) ≤ℤ signed (replay S events b c)
    replay-rises a zero h = let same : a ≡ 0 = omega arith in rw same (≤ℤ_refl _)
    replay-rises a (suc b) h =
        same_or_not _ a (suc b) (λ same. rw same (≤ℤ_refl _)) (λ other. ≤ℤ-trans (replay-rises a b (omega (arith, other))) (next-rises b))

  -- of any history that demand 3 holds of
  pub counts-up-of : CountsUp S events
  counts-up-of =
      record {
        counts_up = each-raises;
        least_worn = each_right;
        replay_never_falls = replay-rises;
        none_lost = λ c only. none-lost S events c (raised_at c only);
      }

  pub counts-are-of : CountsAre S events T
  counts-are-of =
      record {
        cell_counts = λ c there free only. holds.cells_hold c there free ∙ none-lost S events c (raised_at c only) T.clock;
        all_counted = λ c. all-counted (commits events) S.clock T.clock c holds.stamps_apart holds.stamps_within;
      }

-- from rest, for any calls
pub counts_up : (M : Model) → FitsBytes M → CountsUpFromRest M
counts_up M fits =
    record {
      of_states = λ S rest calls. counts-up-of ((histories M fits).of_states S rest calls);
      of_areas = λ a bytes rest calls. counts-up-of ((histories M fits).of_areas a bytes rest calls);
    }

pub counts-are : (M : Model) → FitsBytes M → CountsAreFromRest M
counts-are M fits =
    record {
      of_states = λ S rest calls. counts-are-of ((histories M fits).of_states S rest calls);
      of_areas = λ a bytes rest calls. counts-are-of ((histories M fits).of_areas a bytes rest calls);
    }
