-- Why a count can't fall. In document 01's words a commit has a stamp, a read log and a write log; the replay is what the cells hold once all commits up to a stamp are in.
use Rattle.std.specs.Prelude.{true, false, cond, List, [], ◌∷◌, ◌++◌, map, ◌⊎◌, ◌≡◌, ℕ, zero, suc, pred, ◌+◌, ◌<◌, ◌≤◌, ℤ, ◌≤ℤ◌, length, get_or, take, None, Some}
use Rattle.std.proofs.Math.IntN.{suc_ℤ}
use Rattle.std.specs.Int.{w32}
use Rattle.std.proofs.Common.{to_z}
use Rattle.wire.specs.Field.{Bytes}
use Rattle.slot.specs.declared.ReadEntry.{ReadEntry}
use Rattle.slot.specs.declared.WriteEntry.{WriteEntry}
use Rattle.slot.specs.Layout.{no_read}
use Rattle.slot.specs.Logic.{All}
use Rattle.slot.specs.Logs.{writes_cell}
use Rattle.rules.specs.Model.{Model}
use Rattle.rules.specs.State.{State, cell_count, cell_at}
use Rattle.rules.specs.StateRight.{state_at_rest}
use Rattle.rules.specs.Outcome.{Outcome}
use Rattle.rules.specs.Step.{Call, step}
use Rattle.rules.specs.Layout.{state_of}
use Rattle.rules.specs.Area.{at_rest}
use Rattle.history.specs.History.{Event, history, final, Commit, commits, log_at, replay, publishes}
use Rattle.history.specs.AreaHistory.{area_history}
use Rattle.history.specs.Keeps.{bytes_after}
use Rattle.pick.specs.Groups.{erases_place, erases, last_count}
use Rattle.pick.specs.Pick.{negative_at, picked}
use Rattle.pick.specs.PicksRight.{LeastWorn}
use Rattle.wearset.specs.WearSet.{group_count}

-- the words of a read log, and its cells
abbrev pub words_read : List ReadEntry → List ℕ
words_read reads = map (λ (e : ReadEntry). e.word) reads

abbrev pub cells_read : List ReadEntry → List ℕ
cells_read reads = map (λ (e : ReadEntry). e.cell) reads

-- Two logs *level* a set, with group g: the read log begins with the operation's reads (cells and words, marks aside; other cells may have been read after them), and the one
-- write is what the pick rule gives for those words.
-- Nothing else is asked: who made the logs, and how, is left open. So the operation levels, and so does a reload with the right update.
pub record LevelsWith (set : List ℕ) (g : ℕ) (reads : List ReadEntry) (writes : List WriteEntry) : Type 0 where
  pub cells : take (length set) (cells_read reads) ≡ set
  pub sound : negative_at (words_read reads) (group_count set) ≡ None
  pub pick : picked (words_read reads) (group_count set) ≡ Some g
  pub write : writes ≡ (record { cell = get_or set (erases_place g) 0; word = suc (erases (words_read reads) g) } ∷ [])

-- a commit levels, for some set and some group
abbrev pub Levels : Commit → Type 0
Levels x = (set : List ℕ) × (g : ℕ) × LevelsWith set g x.reads x.writes

-- a count as the signed number that it is
abbrev pub signed : ℕ → ℤ
signed word = to_z w32 word

-- between the replay just before a stamp and the replay with it, cell c is raised by exactly one, and no other cell changes
pub record RaisesOne (S : State) (events : List Event) (stamp c : ℕ) : Type 0 where
  pub below : replay S events (pred stamp) c < last_count
  pub raised : replay S events stamp c ≡ suc (replay S events (pred stamp) c)
  pub raised_signed : signed (replay S events stamp c) ≡ suc_ℤ (signed (replay S events (pred stamp) c))
  pub others : (d : ℕ) → (d ≡ c → ⊥) → replay S events stamp d ≡ replay S events (pred stamp) d

-- what the replay holds of a set's cells just before a stamp: what they come to if the commits run one at a time
abbrev pub words_before : State → List Event → ℕ → List ℕ → List ℕ
words_before S events stamp set = map (replay S events (pred stamp)) set

-- group g of a set is the right one at a stamp: just before it no count of the set is negative and g is what the pick rule gives, so it is usable and none that
-- is usable has fewer erases
pub record RightPick (S : State) (events : List Event) (stamp : ℕ) (set : List ℕ) (g : ℕ) : Type 0 where
  pub sound : negative_at (words_before S events stamp set) (group_count set) ≡ None
  pub pick : picked (words_before S events stamp set) (group_count set) ≡ Some g
  pub least : LeastWorn (words_before S events stamp set) (group_count set) g

-- a commit ignored no mark, or none on a cell of the set, whose entries come first in its read log
abbrev pub SetNotIgnored : List ℕ → Commit → Type 0
SetNotIgnored set x = (x.ignoring ≡ false) ⊎ ((place : ℕ) → place < length set → (get_or x.reads place no_read).mark ≡ false)

-- every commit that writes cell c levels
abbrev pub OnlyLevelled : List Event → ℕ → Type 0
OnlyLevelled events c = All (λ (x : Commit). writes_cell x.writes c ≡ true → Levels x) (commits events)

-- a write log counts as one write of a cell that it has, and as none of any other
abbrev pub counted : List WriteEntry → ℕ → ℕ
counted writes c = cond (writes_cell writes c) 1 0

-- how many of the stamps from 1 to b have a commit that writes cell c
unfoldable pub times_written : List Commit → ℕ → ℕ → ℕ
times_written L zero c = 0
times_written L (suc b) c = times_written L b c + counted (log_at L (suc b)) c

-- how many of the commits write cell c, whatever their stamps
unfoldable pub writers : List Commit → ℕ → ℕ
writers [] c = 0
writers (x ∷ L) c = counted x.writes c + writers L c

-- of a history from state S
pub record CountsUp (S : State) (events : List Event) : Type 0 where
  -- A commit that levels raises the picked group's count by exactly one over what the replay holds just before its stamp, and changes no other cell. Marks are no part of
  -- this: the count's cell is in both its logs, and for such cells demand 3 holds whatever is marked.
  pub counts_up :
      All (λ (x : Commit). (set : List ℕ) (g : ℕ) → LevelsWith set g x.reads x.writes
      → RaisesOne S events x.stamp (get_or set (erases_place g) 0)) (commits events)
  -- The group that it raises is the least worn one at its commit, and not only when its cells were read: whatever other tasks committed in between, the counts
  -- that it was picked by are those that stand just before its stamp. Here marks count, for the pick goes by all cells of the set, and only the written one is safe from ignoring.
  pub least_worn :
      All (λ (x : Commit). (set : List ℕ) (g : ℕ) → LevelsWith set g x.reads x.writes → SetNotIgnored set x
      → RightPick S events x.stamp set g) (commits events)
  -- If every commit that writes a cell levels, then the replay of that cell is at every stamp what the cell began with, and one more for each commit up to there that
  -- wrote it: no erase is lost, and none is counted twice.
  pub none_lost : (c : ℕ) → OnlyLevelled events c → (b : ℕ) → replay S events b c ≡ (cell_at S c).word + times_written (commits events) b c
  -- If every commit that writes a cell levels, then the replay of that cell never falls from one stamp to a later one.
  pub replay_never_falls : (c : ℕ) → OnlyLevelled events c → (a b : ℕ) → a ≤ b → signed (replay S events a c) ≤ℤ signed (replay S events b c)

-- .. and the cell itself, after any call, is at least what it was after any earlier call, whatever the tasks interleave; `next` takes the steps
abbrev pub NeverFallsBy : Model → (State → Call → Outcome) → Type 0
NeverFallsBy M next =
    (S : State) → state_at_rest M S ≡ true → (earlier later : List Call) (c : ℕ)
    → OnlyLevelled (history next S (earlier ++ later)) c
    → signed (cell_at (final next S earlier) c).word ≤ℤ signed (cell_at (final next S (earlier ++ later)) c).word

pub record NeverFalls (M : Model) : Type 0 where
  pub of_states : NeverFallsBy M (step M)
  pub of_areas : (a : List ℕ) → Bytes a → at_rest M a ≡ true → (earlier later : List Call) (c : ℕ)
      → OnlyLevelled (area_history M a (earlier ++ later)) c
      → signed (cell_at (state_of M (bytes_after M a earlier)) c).word ≤ℤ signed (cell_at (state_of M (bytes_after M a (earlier ++ later))) c).word

-- of a history from state S to state T: what stands in the cells at its end
pub record CountsAre (S : State) (events : List Event) (T : State) : Type 0 where
  -- If every commit that writes a cell levels, and no slot is just publishing to it, then the cell has the count that it began with and one more for each commit that
  -- wrote it.
  pub cell_counts : (c : ℕ) → c < cell_count T → publishes T (cell_at T c).holder ≡ false → OnlyLevelled events c
      → (cell_at T c).word ≡ (cell_at S c).word + times_written (commits events) T.clock c
  -- Each commit of the history is among those counted, and once: the stamps up to the clock have them all, and no two of them have the same.
  pub all_counted : (c : ℕ) → times_written (commits events) T.clock c ≡ writers (commits events) c

-- from rest, for any calls
pub record CountsUpFromRest (M : Model) : Type 0 where
  pub of_states : (S : State) → state_at_rest M S ≡ true → (calls : List Call) → CountsUp S (history (step M) S calls)
  pub of_areas : (a : List ℕ) → Bytes a → at_rest M a ≡ true → (calls : List Call) → CountsUp (state_of M a) (area_history M a calls)

pub record CountsAreFromRest (M : Model) : Type 0 where
  pub of_states : (S : State) → state_at_rest M S ≡ true → (calls : List Call) → CountsAre S (history (step M) S calls) (final (step M) S calls)
  pub of_areas : (a : List ℕ) → Bytes a → at_rest M a ≡ true → (calls : List Call)
      → CountsAre (state_of M a) (area_history M a calls) (state_of M (bytes_after M a calls))
