-- Demand 3: what holds at rest is kept along any list of calls, and says at the end what the demand says.
use Rattle.std.specs.Prelude.{Err}
use mathlib.Core.Bool.{Bool, true, false, false≢true}
use mathlib.Core.List.{List, [], ◌∷◌, ◌++◌, append-nil, append_assoc}
use mathlib.Core.Path.{◌≡◌, refl, sym, ◌∙◌, ap}
use Prim.Native.Nat.{ℕ, suc, pred, ◌<◌}
use native.Mathlib.Omega.{arith}
use lib.Dec.{ltb}
use lib.ListN.{length, get_or-eq_default}
use borrow.Author.Tests.{ltb-true, ltb-false}
use Rattle.call.proofs.Numbers.{number-back}
use Rattle.slot.specs.declared.ReadEntry.{ReadEntry}
use Rattle.slot.specs.declared.WriteEntry.{WriteEntry}
use Rattle.slot.specs.Logic.{◌and◌, any, pairwise, All}
use Rattle.rules.specs.Model.{Model}
use Rattle.rules.specs.State.{State, Slot, idle, opened, locking, twilight, publishing, cell_count, cell_at, slot_at, is_publishing}
use Rattle.slot.specs.Logs.{writes_cell, some_marked, marked_written}
use Rattle.rules.specs.StateRight.{state_at_rest, is_idle}
use Rattle.rules.specs.Outcome.{reply_of, after}
use Rattle.rules.specs.Step.{Call, step}
use Rattle.slot.proofs.Logic.{and_left, and_right, and-true, all-at}
use Rattle.history.specs.History.{Event, history, final, Commit, commits, SharedRead, shared_reads, log_at, up_to, replay, publishes, Demand3}
use Rattle.history.proofs.StepCase.{step_case}
use Rattle.history.proofs.Right.{Right, right_of}
use Rattle.history.proofs.Keeps.Lists.{or-neither}
use Rattle.history.proofs.Keeps.Moves.{move-right}
use Rattle.history.proofs.Keeps.Effect.{effect, change-kinds}
use Rattle.history.proofs.Invariant.{Owes, Settled, Inv, All-map, All-both}
use Rattle.history.proofs.Replay.{quiet}
use Rattle.history.proofs.Holders.{owes-holds, is-holder, stamp-past, cell-now}
use Rattle.history.proofs.Along.{Along, begun, ReadHolds, EntriesHold}
use Rattle.history.proofs.Record.{commit_in, read_in, event, other-code, refusal-code, no-commit, no_read, records-commit, records-read}
use Rattle.history.proofs.Advance.{advance}

-- where no entry is marked, each is unmarked
no-mark : (reads : List ReadEntry) → some_marked reads ≡ false → All (λ (e : ReadEntry). e.mark ≡ false) reads
unfolding some_marked any
no-mark [] p = tt
no-mark (e ∷ reads) p = let both = or-neither e.mark (any (λ (f : ReadEntry). f.mark) reads) p in (both.0, no-mark reads both.1)

-- where no marked cell is in the write log, a read entry whose cell is there is unmarked
written-unmarked : (reads : List ReadEntry) (writes : List WriteEntry) → marked_written reads writes ≡ false
    → All (λ (e : ReadEntry). writes_cell writes e.cell ≡ true → e.mark ≡ false) reads
unfolding marked_written any
written-unmarked [] writes p = tt
written-unmarked (e ∷ reads) writes p =
    let (here, rest) = or-neither (e.mark and writes_cell writes e.cell) (marked_written reads writes) p in
    (λ w. sym (rw w (and-true e.mark)) ∙ here, written-unmarked reads writes rest)

owes-publishing : (x : Slot) (k c : ℕ) → Owes x k c → is_publishing x ≡ true
owes-publishing idle k c o = absurd o
owes-publishing (opened start reads writes) k c o = absurd o
owes-publishing (locking taken start reads writes) k c o = absurd o
owes-publishing (twilight ignoring start commit reads writes) k c o = absurd o
owes-publishing (publishing ignoring taken start commit reads writes) k c o = refl

-- what is kept along says what the demand says
module _ (M : Model) (start : State) (events : List Event) (T : State) (along : Along M start (commits events) (shared_reads events) T) where
  -- a cell whose holder is no publishing slot is owed by nobody
  paid : (c : ℕ) → c < cell_count T → publishes T (cell_at T c).holder ≡ false → (s k : ℕ) → Owes (slot_at T s) k c → ⊥
  paid c h idle-holder s k o =
      let holder : (cell_at T c).holder ≡ suc s = is-holder M T along.inv.right s c h (owes-holds (slot_at T s) k c o) in
      false≢true (sym idle-holder ∙ ap (publishes T) holder ∙ owes-publishing (slot_at T s) k c o)

  commit-had : (x : Commit) → EntriesHold M start (commits events) T x × (x.ignoring ≡ false → some_marked x.reads ≡ false)
      → x.ignoring ≡ false → All (λ (e : ReadEntry). e.word ≡ replay start events (pred x.stamp) e.cell) x.reads
  commit-had x known off =
      All-map (λ (e : ReadEntry). (e.mark ≡ false → Settled (begun M start) (log_at (commits events)) T (pred x.stamp) e.cell e.word) × (e.mark ≡ false))
      (λ (e : ReadEntry). e.word ≡ replay start events (pred x.stamp) e.cell) (λ e both. sym (both.0 both.1).replayed) x.reads
      (All-both _ (λ (e : ReadEntry). e.mark ≡ false) x.reads known.0 (no-mark x.reads (known.1 off)))

  update-had : (x : Commit) → EntriesHold M start (commits events) T x × (marked_written x.reads x.writes ≡ false)
      → All (λ (e : ReadEntry). writes_cell x.writes e.cell ≡ true → e.word ≡ replay start events (pred x.stamp) e.cell) x.reads
  update-had x known =
      All-map
      (λ (e : ReadEntry). (e.mark ≡ false → Settled (begun M start) (log_at (commits events)) T (pred x.stamp) e.cell e.word)
      × (writes_cell x.writes e.cell ≡ true → e.mark ≡ false))
      (λ (e : ReadEntry). writes_cell x.writes e.cell ≡ true → e.word ≡ replay start events (pred x.stamp) e.cell)
      (λ e both written. sym (both.0 (both.1 written)).replayed) x.reads
      (All-both _ (λ (e : ReadEntry). writes_cell x.writes e.cell ≡ true → e.mark ≡ false) x.reads known.0 (written-unmarked x.reads x.writes known.1))

  pub demand3-of : Demand3 start events T
  demand3-of =
      record {
        stamps_apart = along.apart;
        stamps_within = along.within;
        cells_hold = λ c h idle-holder.
            sym (cell-now (begun M start) M (log_at (commits events)) T along.inv T.clock c h (paid c h idle-holder) (stamp-past M T along.inv.right c));
        kinds_hold = along.kinds;
        reads_gave =
            All-map (ReadHolds M start (commits events) T)
            (λ (r : SharedRead). (r.kind ≡ (cell_at start r.cell).kind) × (r.word ≡ replay start events r.start r.cell))
            (λ r known. (known.0, sym known.1.replayed)) (shared_reads events) along.reads;
        entries_had =
            All-map (EntriesHold M start (commits events) T)
            (λ (x : Commit). All (λ (e : ReadEntry). e.mark ≡ false → e.word ≡ replay start events (pred x.stamp) e.cell) x.reads)
            (λ x. All-map (λ (e : ReadEntry). e.mark ≡ false → Settled (begun M start) (log_at (commits events)) T (pred x.stamp) e.cell e.word)
            (λ (e : ReadEntry). e.mark ≡ false → e.word ≡ replay start events (pred x.stamp) e.cell) (λ e known off. sym (known off).replayed) x.reads)
            (commits events) along.entries;
        commits_had =
            All-map (λ (x : Commit). EntriesHold M start (commits events) T x × (x.ignoring ≡ false → some_marked x.reads ≡ false))
            (λ (x : Commit). x.ignoring ≡ false → All (λ (e : ReadEntry). e.word ≡ replay start events (pred x.stamp) e.cell) x.reads)
            commit-had (commits events)
            (All-both (EntriesHold M start (commits events) T) (λ (x : Commit). x.ignoring ≡ false → some_marked x.reads ≡ false) (commits events) along.entries along.flagged);
        updates_had =
            All-map (λ (x : Commit). EntriesHold M start (commits events) T x × (marked_written x.reads x.writes ≡ false))
            (λ (x : Commit).
            All (λ (e : ReadEntry). writes_cell x.writes e.cell ≡ true → e.word ≡ replay start events (pred x.stamp) e.cell) x.reads)
            update-had (commits events)
            (All-both (EntriesHold M start (commits events) T) (λ (x : Commit). marked_written x.reads x.writes ≡ false) (commits events) along.entries along.clear);
      }

-- at rest nothing has happened yet
module _ (M : Model) (S : State) (rest : state_at_rest M S ≡ true) where
  rest-right : Right M S
  unfolding state_at_rest
  rest-right = right_of M S (and_left _ _ rest)

  is-idle : (x : Slot) → is_idle x ≡ true → x ≡ idle
  is-idle idle p = refl
  is-idle (opened start reads writes) p = absurd (false≢true p)
  is-idle (locking taken start reads writes) p = absurd (false≢true p)
  is-idle (twilight ignoring start commit reads writes) p = absurd (false≢true p)
  is-idle (publishing ignoring taken start commit reads writes) p = absurd (false≢true p)

  rest-idle : (s : ℕ) → slot_at S s ≡ idle
  unfolding state_at_rest
  rest-idle s = by (ltb s (length S.slots)) refl
    where
      by : (b : Bool) → ltb s (length S.slots) ≡ b → slot_at S s ≡ idle
      by true e = is-idle (slot_at S s) (all-at is_idle S.slots idle (and_right _ _ rest) s (ltb-true _ _ e))
      by false e = get_or-eq_default S.slots idle {n = s} (ltb-false _ _ e)

  rest-inv : Inv (begun M S) M (log_at []) S
  unfolding log_at up_to writes_cell any
  rest-inv =
      record {
        right = rest-right;
        above = λ j h. refl;
        slot_logs = λ s. rw (rest-idle s) tt;
        words = λ c h. quiet (log_at []) (begun M S) 0 (cell_at S c).stamp c (omega arith) (λ j above below. none_written c);
        last = λ c j h w. absurd (false≢true (sym (none_written c) ∙ w));
        later = λ s c. rw (rest-idle s) (λ p held. absurd (omega arith));
        slot_reads = λ s. rw (rest-idle s) tt;
      }
    where
      none_written : (c : ℕ) → writes_cell [] c ≡ false
      none_written c = refl

  pub rest-along : Along M S [] [] S
  unfolding pairwise
  rest-along =
      record {
        inv = rest-inv;
        apart = refl;
        within = tt;
        begins = omega arith;
        new_stamps = λ s. rw (rest-idle s) tt;
        kinds = λ c. refl;
        reads = tt;
        entries = tt;
        flagged = tt;
        clear = tt;
      }

module _ (M : Model) where
  -- one call further
  pub along-step : (start : State) (L : List Commit) (R : List SharedRead) (S : State) → Along M start L R S → (a : Call)
      → Along M start (L ++ commit_in (record { before = S; call = a; reply = reply_of (step M S a) }))
      (R ++ read_in (record { before = S; call = a; reply = reply_of (step M S a) })) (after S (step M S a))
  along-step start L R S along a =
      step_case M S
      (λ o. Along M start (L ++ commit_in (record { before = S; call = a; reply = reply_of o })) (R ++ read_in (record { before = S; call = a; reply = reply_of o })) (after S o))
      (λ r k.
      let e = event M S along.inv.right a (Err r) in
      rw (no-commit e (other-code e 12 (refusal-code r k)), no_read e (other-code e 2 (refusal-code r k)), append-nil L, append-nil R) along)
      a
      (λ s made h r T m.
      let number = number-back a.step a.cell a.kind a.word s made in
      rw (records-commit M S along.inv.right a m number, records-read M S along.inv.right a m made number)
      (advance M start L R S along (pred a.slot) h m (move-right M S along.inv.right (pred a.slot) h m) (change-kinds (effect M S (pred a.slot) m).change).kind))

  -- any list of calls
  pub along-calls : (start : State) (L : List Commit) (R : List SharedRead) (S : State) → Along M start L R S → (calls : List Call)
      → Along M start (L ++ commits (history (step M) S calls)) (R ++ shared_reads (history (step M) S calls)) (final (step M) S calls)
  unfolding history final commits shared_reads
  along-calls start L R S along [] = rw (append-nil L, append-nil R) along
  along-calls start L R S along (a ∷ calls) =
      let e : Event = record { before = S; call = a; reply = reply_of (step M S a) } in
      let rest = history (step M) (after S (step M S a)) calls in
      rw (← append_assoc L (commit_in e) (commits rest), ← append_assoc R (read_in e) (shared_reads rest))
      (along-calls start (L ++ commit_in e) (R ++ read_in e) (after S (step M S a)) (along-step start L R S along a) calls)

  pub demand3 : (S : State) → state_at_rest M S ≡ true → (calls : List Call) → Demand3 S (history (step M) S calls) (final (step M) S calls)
  demand3 S rest calls =
      demand3-of M S (history (step M) S calls) (final (step M) S calls) (along-calls S [] [] S (rest-along M S rest) calls)
