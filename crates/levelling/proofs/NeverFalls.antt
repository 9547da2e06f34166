-- Why the cell itself never falls: its word is the replay up to its stamp, and stays so ever after; no stamp of a cell falls; and the replay never falls.
use mathlib.Core.Bool.{true}
use mathlib.Core.List.{List, [], ◌∷◌, ◌++◌, append_assoc}
use mathlib.Core.Path.{◌≡◌, refl, sym, ◌∙◌, ap, subst₂}
use Prim.Native.Nat.{ℕ, ◌<◌, ◌≤◌}
use native.Mathlib.Omega.{arith}
use lib.ListN.{get_or-eq_default}
use lib.Signed.{◌≤ℤ◌, ≤ℤ_refl}
use borrow.Author.Tests.{ltb-true}
use Rattle.slot.specs.declared.WriteEntry.{WriteEntry}
use Rattle.slot.specs.Logic.{All}
use Rattle.slot.proofs.Logic.{and_left, and_right}
use Rattle.rules.specs.declared.Cell.{Cell}
use Rattle.rules.specs.Model.{Model, FitsBytes}
use Rattle.rules.specs.State.{State, Slot, idle, opened, locking, twilight, publishing, cell_count, cell_at, slot_at, no_cell, commit_of}
use Rattle.rules.specs.LogsRight.{commit_between}
use Rattle.rules.specs.StateRight.{slot_right, state_at_rest}
use Rattle.rules.specs.Outcome.{Outcome, reply_of, after}
use Rattle.rules.specs.Step.{Call, step}
use Rattle.rules.specs.Layout.{state_of}
use Rattle.history.specs.History.{history, final, Commit, commits, SharedRead, shared_reads}
use Rattle.history.proofs.Keeps.{keeps}
use Rattle.history.proofs.Keeps.Lists.{below_or_not}
use Rattle.history.proofs.Invariant.{LateWrite, Settled, Inv}
use Rattle.history.proofs.Holders.{late-holds, stamp-past}
use Rattle.history.proofs.Along.{Along, ReadHolds, along-read}
use Rattle.history.proofs.Record.{commit_in}
use Rattle.history.proofs.Demand3.{rest-along, along-calls}
use Rattle.history.proofs.Histories.{same-history, same-final, rest-state, rest-right}
use Rattle.levelling.specs.CountsUp.{signed, OnlyLevelled, NeverFalls}
use Rattle.levelling.proofs.CountsUp.{counts_up}
use Rattle.levelling.proofs.StampsRise.{stamps-rise}

-- a late write has a commit stamp, and that is no later than it says
late-stamp : (cells : List Cell) (clock : ℕ) (x : Slot) (b c : ℕ) → slot_right cells clock x ≡ true → LateWrite x b c → (0 < commit_of x) × (commit_of x ≤ b)
unfolding slot_right commit_between
late-stamp cells clock idle b c right w = absurd w
late-stamp cells clock (opened start reads writes) b c right w = absurd w
late-stamp cells clock (locking taken start reads writes) b c right w = absurd w
late-stamp cells clock (twilight ignoring start commit reads writes) b c right w =
    let above = ltb-true start commit (and_left _ _ (and_left _ _ (and_right _ _ right))) in
    (omega arith, w.0)
late-stamp cells clock (publishing ignoring taken start commit reads writes) b c right w = absurd w

-- the word of a cell is settled at its stamp: whoever writes the cell late holds it, and has a later stamp
word-settled : (begun : ℕ → ℕ) (M : Model) (logs : ℕ → List WriteEntry) (S : State) → Inv begun M logs S → (c : ℕ) → c < cell_count S
    → Settled begun logs S (cell_at S c).stamp c (cell_at S c).word
word-settled begun M logs S inv c h =
    record {
      replayed = inv.words c h;
      past = stamp-past M S inv.right c;
      still = λ s late.
          let known = late-stamp S.cells S.clock (slot_at S s) (cell_at S c).stamp c (inv.right.slot s) late in
          let above = inv.later s c known.0 (late-holds (slot_at S s) (cell_at S c).stamp c late) in
          let last = known.1 in
          omega arith;
    }

-- calls, and later ones after them
module _ (next : State → Call → Outcome) where
  -- .. end where the later ones end
  final-append : (S : State) (earlier later : List Call) → final next S (earlier ++ later) ≡ final next (final next S earlier) later
  unfolding final
  final-append S [] later = refl
  final-append S (a ∷ earlier) later = final-append (after S (next S a)) earlier later

  -- .. and have the commits of both
  commits-append : (S : State) (earlier later : List Call)
      → commits (history next S (earlier ++ later)) ≡ commits (history next S earlier) ++ commits (history next (final next S earlier) later)
  unfolding history final commits
  commits-append S [] later = refl
  commits-append S (a ∷ earlier) later =
      let here : List Commit = commit_in (record { before = S; call = a; reply = reply_of (next S a) }) in
      ap (◌++◌ here) (commits-append (after S (next S a)) earlier later) ∙ sym (append_assoc here (commits (history next (after S (next S a)) earlier)) _)

-- .. and the number of cells stays
count_kept : (M : Model) → FitsBytes M → (S : State) (calls : List Call) → cell_count (final (step M) S calls) ≡ cell_count S
unfolding final
count_kept M fits S [] = refl
count_kept M fits S (a ∷ calls) = count_kept M fits (after S (step M S a)) calls ∙ (keeps M fits).count_kept S a

-- one of a list
all_there : {A : Type 0} (P : A → Type 0) (l : List A) (x : A) (m : List A) → All P ((l ++ (x ∷ [])) ++ m) → P x
all_there P [] x m a = a.0
all_there P (y ∷ l) x m a = all_there P l x m a.1

module _ (M : Model) (fits : FitsBytes M) (S : State) (rest : state_at_rest M S ≡ true) (earlier later : List Call) (c : ℕ) where
  -- the state after the earlier calls, and after all
  abbrev then : State
  then = final (step M) S earlier

  abbrev now : State
  now = final (step M) S (earlier ++ later)

  -- the reads so far, and those since
  abbrev reads_then : List SharedRead
  reads_then = shared_reads (history (step M) S earlier)

  abbrev reads_since : List SharedRead
  reads_since = shared_reads (history (step M) then later)

  -- what is kept along up to then, and up to now
  along_then : Along M S (commits (history (step M) S earlier)) reads_then then
  along_then = along-calls M S [] [] S (rest-along M S rest) earlier

  -- the cell, as a transaction that started at its stamp would read it then: what was read is kept along to the end
  abbrev looked : SharedRead
  looked = record { start = (cell_at then c).stamp; cell = c; kind = (cell_at then c).kind; word = (cell_at then c).word }

  along-now : c < cell_count then → Along M S (commits (history (step M) S (earlier ++ later))) ((reads_then ++ (looked ∷ [])) ++ reads_since) now
  along-now h =
      rw (commits-append (step M) S earlier later, final-append (step M) S earlier later)
      (along-calls M S _ _ then (along-read M S _ _ then along_then looked (along_then.kinds c, word-settled _ M _ then along_then.inv c h)) later)

  -- as many cells, and no stamp below what it was
  same_count : cell_count now ≡ cell_count then
  same_count = ap cell_count (final-append (step M) S earlier later) ∙ count_kept M fits then later

  later-stamp : (cell_at then c).stamp ≤ (cell_at now c).stamp
  later-stamp = rw (final-append (step M) S earlier later) (stamps-rise M S _ _ then along_then later c)

  -- of a cell that is there
  falls-not : OnlyLevelled (history (step M) S (earlier ++ later)) c → c < cell_count then → signed (cell_at then c).word ≤ℤ signed (cell_at now c).word
  falls-not only h =
      let along = along-now h in
      subst₂ (λ v w. signed v ≤ℤ signed w)
      (all_there (ReadHolds M S (commits (history (step M) S (earlier ++ later))) now) reads_then looked reads_since along.reads).1.replayed
      (along.inv.words c (rw same_count h))
      (((counts_up M fits).of_states S rest (earlier ++ later)).replay_never_falls c only _ _ later-stamp)

  -- of one that is not
  missing : cell_count then ≤ c → signed (cell_at then c).word ≤ℤ signed (cell_at now c).word
  missing h =
      rw (get_or-eq_default then.cells no_cell {n = c} h, get_or-eq_default now.cells no_cell {n = c} (rw same_count h)) (≤ℤ_refl _)

  -- of any cell
  of_calls : OnlyLevelled (history (step M) S (earlier ++ later)) c → signed (cell_at then c).word ≤ℤ signed (cell_at now c).word
  of_calls only = below_or_not _ c (cell_count then) (falls-not only) missing

-- from rest, of states and of areas
pub never-falls : (M : Model) → FitsBytes M → NeverFalls M
never-falls M fits =
    record {
      of_states = of_calls M fits;
      of_areas = λ a bytes rest earlier later c only.
          let right = rest-right M fits a rest in
          rw (same-final M fits earlier a bytes right, same-final M fits (earlier ++ later) a bytes right)
          (of_calls M fits (state_of M a) (rest-state M fits a bytes rest) earlier later c (rw (same-history M fits (earlier ++ later) a bytes right) at only));
    }
