-- What is kept along a history: the invariant over the logs of the commits so far, and that each read and each entry so far is settled.
use mathlib.Core.Bool.{Bool, true, false, not, cond}
use mathlib.Core.List.{List, [], ◌∷◌, ◌++◌}
use mathlib.Core.Path.{◌≡◌, refl, sym, ◌∙◌, ap, subst}
use Prim.Native.Nat.{ℕ, pred, ◌<◌, ◌≤◌}
use native.Mathlib.Omega.{arith}
use lib.Dec.{eqb}
use lib.ListN.{length}
use borrow.Author.Tests.{eq-eqb, ne_eqb, not-true}
use Rattle.slot.specs.declared.ReadEntry.{ReadEntry}
use Rattle.slot.specs.declared.WriteEntry.{WriteEntry}
use Rattle.rules.specs.declared.Cell.{Cell}
use Rattle.slot.specs.Logic.{◌and◌, any, all, pairwise, All}
use Rattle.rules.specs.Model.{Model}
use Rattle.rules.specs.State.{State, Slot, idle, opened, locking, twilight, publishing, cell_at, slot_at, turn, commit_of}
use Rattle.slot.specs.Logs.{some_marked, marked_written}
use Rattle.rules.specs.LogsRight.{no_update_lost}
use Rattle.rules.specs.StateRight.{slot_right}
use Rattle.rules.specs.Steps.{publishing_or_idle}
use Rattle.slot.proofs.Logic.{and_intro, or-false, or_right}
use Rattle.history.specs.History.{Commit, committed_by, SharedRead, log_at}
use Rattle.history.proofs.Right.{Right}
use Rattle.history.proofs.Keeps.Lists.{or-neither, pairwise-snoc}
use Rattle.history.proofs.Keeps.Slots.{slot-holds}
use Rattle.history.proofs.Invariant.{Settled, ReadsKnown, Inv, Stable, turned, All-map, All-snoc}
use Rattle.history.proofs.Turn.{Turn, turn-stable, turn-inv, unmarked-stays}
use Rattle.history.proofs.Commit.{owing-case, between, other-stamp, commit-stable, commit-inv}

-- the log of a stamp once one more has committed
pub log-old : (L : List Commit) (x : Commit) (j : ℕ) → (j ≡ x.stamp → ⊥) → log_at (L ++ (x ∷ [])) j ≡ log_at L j
unfolding log_at
log-old [] x j d = rw (ne_eqb x.stamp j (λ e. d (sym e)))
log-old (y ∷ L) x j d = ap (cond (eqb y.stamp j) y.writes) (log-old L x j d)

pub log-new : (L : List Commit) (x : Commit) → All (λ (y : Commit). y.stamp ≡ x.stamp → ⊥) L → log_at (L ++ (x ∷ [])) x.stamp ≡ x.writes
unfolding log_at
log-new [] x a = rw (eq-eqb x.stamp x.stamp refl)
log-new (y ∷ L) x a = rw (ne_eqb y.stamp x.stamp a.0) (log-new L x a.1)

all_apart : (L : List Commit) (k : ℕ) → All (λ (y : Commit). y.stamp ≡ k → ⊥) L → all (λ (y : Commit). not (eqb y.stamp k)) L ≡ true
unfolding all
all_apart [] k a = refl
all_apart (y ∷ L) k a = and_intro _ _ (rw (ne_eqb y.stamp k a.0)) (all_apart L k a.1)

-- what may not go on without the flag has no mark
no-marks : (marks ignoring : Bool) → (marks and not ignoring) ≡ false → ignoring ≡ false → marks ≡ false
unfolding ◌and◌
no-marks true true p off = off
no-marks true false p off = p
no-marks false ignoring p off = refl

-- without a mark no marked cell is in the write log, and with the flag neither
no-mark-written : (reads : List ReadEntry) (writes : List WriteEntry) → some_marked reads ≡ false → marked_written reads writes ≡ false
unfolding some_marked marked_written any ◌and◌
no-mark-written [] writes p = refl
no-mark-written (e ∷ reads) writes p =
    let (off, rest) = or-neither e.mark (any (λ (f : ReadEntry). f.mark) reads) p in
    rw (off, no-mark-written reads writes rest) (or-false false)

none-lost : (ignoring : Bool) (reads : List ReadEntry) (writes : List WriteEntry) → (some_marked reads and not ignoring) ≡ false
    → no_update_lost ignoring reads writes ≡ true → marked_written reads writes ≡ false
unfolding no_update_lost
none-lost true reads writes p kept = not-true _ (or_right false _ refl kept)
none-lost false reads writes p kept = no-mark-written reads writes (no-marks (some_marked reads) false p refl)

module _ (M : Model) (start : State) where
  abbrev pub begun : ℕ → ℕ
  begun c = (cell_at start c).word

  -- a stamp in twilight is new: above the first clock, and no commit has it
  abbrev pub Fresh : List Commit → Slot → Type 0
  Fresh L idle = Unit
  Fresh L (opened begins reads writes) = Unit
  Fresh L (locking taken begins reads writes) = Unit
  Fresh L (twilight ignoring begins commit reads writes) = (start.clock < commit) × All (λ (y : Commit). y.stamp ≡ commit → ⊥) L
  Fresh L (publishing ignoring taken begins commit reads writes) = Unit

  -- a read is settled at its start; an unmarked entry of a commit just before its stamp
  abbrev pub ReadHolds : List Commit → State → SharedRead → Type 0
  ReadHolds L S r = (r.kind ≡ (cell_at start r.cell).kind) × Settled begun (log_at L) S r.start r.cell r.word

  abbrev pub EntriesHold : List Commit → State → Commit → Type 0
  EntriesHold L S x = All (λ (e : ReadEntry). e.mark ≡ false → Settled begun (log_at L) S (pred x.stamp) e.cell e.word) x.reads

  pub record Along (L : List Commit) (R : List SharedRead) (S : State) : Type 0 where
    pub inv : Inv begun M (log_at L) S
    pub apart : pairwise (λ (x y : Commit). not (eqb x.stamp y.stamp)) L ≡ true
    pub within : All (λ (x : Commit). (start.clock < x.stamp) × (x.stamp ≤ S.clock)) L
    pub begins : start.clock ≤ S.clock
    pub new_stamps : (s : ℕ) → Fresh L (slot_at S s)
    pub kinds : (c : ℕ) → (cell_at S c).kind ≡ (cell_at start c).kind
    pub reads : All (ReadHolds L S) R
    pub entries : All (EntriesHold L S) L
    -- without the flag there was no mark
    pub flagged : All (λ (x : Commit). x.ignoring ≡ false → some_marked x.reads ≡ false) L
    -- with it or without it, no marked cell was in the write log
    pub clear : All (λ (x : Commit). marked_written x.reads x.writes ≡ false) L

  -- the reads and entries so far stay settled
  reads_held : (L L' : List Commit) (S T : State) → Stable begun (log_at L) S (log_at L') T → (R : List SharedRead) → All (ReadHolds L S) R → All (ReadHolds L' T) R
  reads_held L L' S T stable =
      All-map (ReadHolds L S) (ReadHolds L' T) (λ r known. (known.0, stable r.start r.cell r.word known.1))

  entries-held : (L L' : List Commit) (S T : State) → Stable begun (log_at L) S (log_at L') T → (K : List Commit) → All (EntriesHold L S) K → All (EntriesHold L' T) K
  entries-held L L' S T stable =
      All-map (EntriesHold L S) (EntriesHold L' T) (λ x. unmarked-stays begun (log_at L) (log_at L') S T stable (pred x.stamp) x.reads)

  module _ (L : List Commit) (R : List SharedRead) (S : State) (along : Along L R S) (i : ℕ) where
    -- a step that neither commits nor reads for the first time
    pub along-still : (T : State) → S.clock ≤ T.clock → Inv begun M (log_at L) T → Stable begun (log_at L) S (log_at L) T → ((s : ℕ) → Fresh L (slot_at T s))
        → ((c : ℕ) → (cell_at T c).kind ≡ (cell_at S c).kind) → Along L R T
    along-still T rises next stable fresh kinds =
        let first = along.begins in
        record {
          inv = next;
          apart = along.apart;
          within =
              All-map (λ (x : Commit). (start.clock < x.stamp) × (x.stamp ≤ S.clock)) (λ (x : Commit). (start.clock < x.stamp) × (x.stamp ≤ T.clock))
              (λ x w. let last = w.1 in (w.0, omega arith)) L along.within;
          begins = omega arith;
          new_stamps = fresh;
          kinds = λ c. kinds c ∙ along.kinds c;
          reads = reads_held L L S T stable R along.reads;
          entries = entries-held L L S T stable L along.entries;
          flagged = along.flagged;
          clear = along.clear;
        }

    module _ (clock : ℕ) (cells : List Cell) (x : Slot) (t : Turn begun M (log_at L) S i clock cells x) where
      pub along-turn : Right M (turn S i clock cells x) → ReadsKnown begun (log_at L) (turn S i clock cells x) x → Fresh L x
          → ((c : ℕ) → (cell_at (turn S i clock cells x) c).kind ≡ (cell_at S c).kind) → Along L R (turn S i clock cells x)
      along-turn right known fresh =
          along-still (turn S i clock cells x) t.rises (turn-inv begun M (log_at L) S i clock cells x t along.inv right known)
          (turn-stable begun M (log_at L) S i clock cells x t)
          (turned (λ s y. Fresh L y) S i clock cells x t.inside fresh (λ s other. along.new_stamps s))

  -- one more read
  pub along-read : (L : List Commit) (R : List SharedRead) (S : State) → Along L R S → (r : SharedRead) → ReadHolds L S r → Along L (R ++ (r ∷ [])) S
  along-read L R S along r known =
      record {
        inv = along.inv;
        apart = along.apart;
        within = along.within;
        begins = along.begins;
        new_stamps = along.new_stamps;
        kinds = along.kinds;
        reads = All-snoc (ReadHolds L S) R r along.reads known;
        entries = along.entries;
        flagged = along.flagged;
        clear = along.clear;
      }

  -- a committing finish
  module _ (L : List Commit) (R : List SharedRead) (S : State) (along : Along L R S) (i : ℕ) (inside : i < length S.slots)
      (ignoring : Bool) (first commit : ℕ) (reads : List ReadEntry) (writes : List WriteEntry)
      (x : slot_at S i ≡ twilight ignoring first commit reads writes) (unmarked : (some_marked reads and not ignoring) ≡ false) where
    abbrev pub made : Commit
    made = committed_by (twilight ignoring first commit reads writes)

    abbrev pub next : State
    next = turn S i S.clock S.cells (publishing_or_idle ignoring 0 first commit reads writes)

    fresh : (start.clock < commit) × All (λ (y : Commit). y.stamp ≡ commit → ⊥) L
    fresh = subst (Fresh L) x (along.new_stamps i)

    stable : Stable begun (log_at L) S (log_at (L ++ (made ∷ []))) next
    stable =
        commit-stable begun M (log_at L) (log_at (L ++ (made ∷ []))) S along.inv i inside ignoring first commit reads writes x
        (log-new L made fresh.1) (log-old L made)

    stamp-apart : (s : ℕ) → (s ≡ i → ⊥) → commit_of (slot_at S s) ≡ commit → ⊥
    stamp-apart =
        other-stamp begun M (log_at L) (log_at (L ++ (made ∷ []))) S along.inv i inside ignoring first commit reads writes x
        (log-new L made fresh.1) (log-old L made)

    stamp-given : commit ≤ S.clock
    stamp-given =
        (between begun M (log_at L) (log_at (L ++ (made ∷ []))) S along.inv i inside ignoring first commit reads writes x
        (log-new L made fresh.1) (log-old L made)).1

    kept : no_update_lost ignoring reads writes ≡ true
    kept =
        (slot-holds S.cells S.clock (twilight ignoring first commit reads writes)
        (subst (λ (y : Slot). slot_right S.cells S.clock y ≡ true) x (along.inv.right.slot i))).4

    -- another slot's new stamp is new still
    fresh-still : (s : ℕ) → (s ≡ i → ⊥) → Fresh (L ++ (made ∷ [])) (slot_at S s)
    fresh-still s other = by (slot_at S s) (along.new_stamps s) (λ e. stamp-apart s other (sym e))
      where
        by : (y : Slot) → Fresh L y → (commit ≡ commit_of y → ⊥) → Fresh (L ++ (made ∷ [])) y
        by idle f d = tt
        by (opened begins reads writes) f d = tt
        by (locking taken begins reads writes) f d = tt
        by (twilight ignoring begins k reads writes) f d = (f.0, All-snoc (λ (y : Commit). y.stamp ≡ k → ⊥) L made f.1 d)
        by (publishing ignoring taken begins k reads writes) f d = tt

    pub along-commit : Right M next → Along (L ++ (made ∷ [])) R next
    along-commit right =
        record {
          inv =
              commit-inv begun M (log_at L) (log_at (L ++ (made ∷ []))) S along.inv i inside ignoring first commit reads writes x
              (log-new L made fresh.1) (log-old L made) right;
          apart =
              pairwise-snoc (λ (x y : Commit). not (eqb x.stamp y.stamp)) L made along.apart (all_apart L commit fresh.1);
          within = All-snoc (λ (x : Commit). (start.clock < x.stamp) × (x.stamp ≤ S.clock)) L made along.within (fresh.0, stamp-given);
          begins = along.begins;
          new_stamps =
              turned (λ s y. Fresh (L ++ (made ∷ [])) y) S i S.clock S.cells (publishing_or_idle ignoring 0 first commit reads writes) inside
              (owing-case ignoring 0 first commit reads writes (Fresh (L ++ (made ∷ []))) (λ h. tt) tt) fresh-still;
          kinds = along.kinds;
          reads = reads_held L (L ++ (made ∷ [])) S next stable R along.reads;
          entries =
              All-snoc (EntriesHold (L ++ (made ∷ [])) next) L made (entries-held L (L ++ (made ∷ [])) S next stable L along.entries)
              (unmarked-stays begun (log_at L) (log_at (L ++ (made ∷ []))) S next stable (pred commit) reads
              (subst (ReadsKnown begun (log_at L) S) x (along.inv.slot_reads i)));
          flagged = All-snoc (λ (x : Commit). x.ignoring ≡ false → some_marked x.reads ≡ false) L made along.flagged (no-marks (some_marked reads) ignoring unmarked);
          clear = All-snoc (λ (x : Commit). marked_written x.reads x.writes ≡ false) L made along.clear (none-lost ignoring reads writes unmarked kept);
        }
