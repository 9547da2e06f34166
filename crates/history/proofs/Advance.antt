-- One step further: every move keeps what is kept along a history, with the commit or the read that it makes.
use mathlib.Core.Bool.{Bool, true, false, not}
use mathlib.Core.List.{List, [], ◌∷◌, ◌++◌, map, append-nil}
use mathlib.Core.Option.{none}
use mathlib.Core.Path.{◌≡◌, refl, sym, subst}
use Prim.Native.Nat.{ℕ, suc, ◌<◌, ◌≤◌}
use native.Mathlib.Omega.{arith}
use lib.ListN.{length, get_or, set, length-set}
use borrow.Author.Tests.{not-true}
use Rattle.call.specs.declared.Step.{Step}
use Rattle.call.specs.declared.Answer.{Answer}
use Rattle.slot.specs.declared.ReadEntry.{ReadEntry}
use Rattle.slot.specs.declared.WriteEntry.{WriteEntry}
use Rattle.slot.specs.Logs.{put_write}
use Rattle.rules.specs.declared.Cell.{Cell}
use Rattle.slot.specs.Logic.{All}
use Rattle.rules.specs.Model.{Model}
use Rattle.rules.specs.State.{State, Slot, idle, opened, locking, twilight, publishing, cell_count, cell_at, slot_at, turn}
use Rattle.rules.specs.Cells.{held_by_other, newer, with_mark, reloaded, obstacle, published_as, free_all}
use Rattle.history.specs.History.{Commit, SharedRead, log_at}
use Rattle.history.proofs.Cases.{Uncommitted, is_open, is-locking, is-twilight}
use Rattle.history.proofs.Move.{new_read, new_write, Move, began, read-written, read_again, read_first, wrote, closed, locked, entered, reread-done, updated, ask-done, reloading, ignored, nothing-to-ignore, aborted, committed, published, gave-up}
use Rattle.history.proofs.Record.{made, seen}
use Rattle.history.proofs.Right.{Right}
use Rattle.rules.specs.StateRight.{slot_right}
use Rattle.rules.specs.State.{commit_of, start_of, reads_of, writes_of}
use Rattle.rules.proofs.StateSized.{LogsHold, slot-logs-hold}
use Rattle.history.proofs.Keeps.Lists.{first-none}
use Rattle.history.proofs.Keeps.Logs.{put_same}
use Rattle.history.proofs.Keeps.Kinds.{kinds-free}
use Rattle.history.proofs.Invariant.{LateWrite, Owes, LogKnown, Settled, ReadsKnown, turned, All-map, All-both, All-snoc, All-mapped, all-each}
use Rattle.rules.specs.Steps.{publishing_or_idle}
use Rattle.slot.specs.Layout.{no_write}
use Rattle.slot.proofs.Search.{write-has}
use Rattle.history.proofs.Commit.{owing-case}
use Rattle.history.proofs.Publish.{publish-stable, publish-inv}
use Rattle.history.proofs.Turn.{Turn, turn-stable, reads-stay}
use Rattle.history.proofs.Turns.{owed-by, early-turn, moved-turn, twilight-turn, stamped-turn, lock-data, free-data}
use Rattle.history.proofs.Known.{reads-inside, first-settled, entered-settled, reloaded-settled}
use Rattle.history.proofs.Along.{Along, along-still, along-turn, along-read, along-commit, begun, Fresh}

-- a slot that has not committed owes nothing
uncommitted-owes : {x : Slot} → Uncommitted x → (k c : ℕ) → Owes x k c → ⊥
uncommitted-owes is_open k c o = o
uncommitted-owes is-locking k c o = o
uncommitted-owes is-twilight k c o = o

module _ (M : Model) (start : State) (L : List Commit) (R : List SharedRead) (S : State) (along : Along M start L R S) (i : ℕ) (h : i < M.slots) where
  inside : i < length S.slots
  inside = rw along.inv.right.slot_count h

  -- the reads of this slot, once it has turned
  known : (clock : ℕ) (cells : List Cell) (x y : Slot) → slot_at S i ≡ x → Turn (begun M start) M (log_at L) S i clock cells y
      → ReadsKnown (begun M start) (log_at L) (turn S i clock cells y) x
  known clock cells x y e t =
      reads-stay (begun M start) (log_at L) (log_at L) S (turn S i clock cells y)
      (turn-stable (begun M start) M (log_at L) S i clock cells y t) x
      (subst (ReadsKnown (begun M start) (log_at L) S) e (along.inv.slot_reads i))

  -- a turn that keeps the clock and the cells, of a slot that stays open or locking
  early : (x y : Slot) → slot_at S i ≡ x → ((k c : ℕ) → Owes x k c → ⊥) → ((b c : ℕ) → LateWrite y b c → ⊥) → commit_of y ≡ 0 → LogKnown (log_at L) y
      → Turn (begun M start) M (log_at L) S i S.clock S.cells y
  early x y e owes late unstamped log =
      early-turn (begun M start) M (log_at L) S along.inv i inside y late unstamped log
      (owed-by (begun M start) M (log_at L) S along.inv i inside x e owes)

  owed : (x : Slot) → slot_at S i ≡ x → ((k c : ℕ) → Owes x k c → ⊥) → (k c : ℕ) → Owes (slot_at S i) k c → ⊥
  owed = owed-by (begun M start) M (log_at L) S along.inv i inside

  -- a new stamp is above every stamp so far
  fresh-stamp : (ignoring : Bool) (begins : ℕ) (reads : List ReadEntry) (writes : List WriteEntry)
      → Fresh M start L (twilight ignoring begins (suc S.clock) reads writes)
  fresh-stamp ignoring begins reads writes =
      let first = along.begins in (
        omega arith,
        All-map (λ (x : Commit). (start.clock < x.stamp) × (x.stamp ≤ S.clock)) (λ (x : Commit). x.stamp ≡ suc S.clock → ⊥)
            (λ x w e. let last = w.1 in omega arith) L along.within,
      )

  -- the logs of the slot are right
  logs-now : (x : Slot) → slot_at S i ≡ x → LogsHold S.cells S.clock (start_of x) (reads_of x) (writes_of x)
  logs-now x e =
      slot-logs-hold S.cells S.clock x (subst (λ (y : Slot). slot_right S.cells S.clock y ≡ true) e (along.inv.right.slot i))

  -- the slot turns, and nothing is recorded
  turns : (clock : ℕ) (cells : List Cell) (y : Slot) → Turn (begun M start) M (log_at L) S i clock cells y
      → ReadsKnown (begun M start) (log_at L) (turn S i clock cells y) y → Fresh M start L y → Right M (turn S i clock cells y)
      → ((c : ℕ) → (cell_at (turn S i clock cells y) c).kind ≡ (cell_at S c).kind) → Along M start (L ++ []) (R ++ []) (turn S i clock cells y)
  turns clock cells y t reads fresh right kinds =
      rw (append-nil L, append-nil R) (along-turn M start L R S along i clock cells y t right reads fresh kinds)

  -- the entries of a slot that is in locking or twilight, with their cells inside
  inside-reads : (x : Slot) → slot_at S i ≡ x → All (λ (e : ReadEntry). e.cell < cell_count S) (reads_of x)
  inside-reads x e = reads-inside S.cells (reads_of x) (logs-now x e).reads_hold

  entered-reads : (taken begins : ℕ) (reads : List ReadEntry) (writes : List WriteEntry) (entries : List ReadEntry)
      → slot_at S i ≡ locking taken begins reads writes
      → All (λ (e : ReadEntry). e.mark ≡ false
      → Settled (begun M start) (log_at L) (turn S i (suc S.clock) S.cells (twilight false begins (suc S.clock) entries writes)) S.clock e.cell e.word)
      (map (with_mark S i begins) reads)
  unfolding with_mark
  entered-reads taken begins reads writes entries x =
      All-mapped (λ (e : ReadEntry). (e.cell < cell_count S) × Settled (begun M start) (log_at L) S begins e.cell e.word) _ (with_mark S i begins)
      (λ e both.
      entered-settled (begun M start) M (log_at L) S along.inv i inside (owed (locking taken begins reads writes) x (λ k c o. o)) begins reads writes entries e
      both.0 both.1)
      reads
      (All-both (λ (e : ReadEntry). e.cell < cell_count S) (λ (e : ReadEntry). Settled (begun M start) (log_at L) S begins e.cell e.word) reads
      (inside-reads (locking taken begins reads writes) x) (subst (ReadsKnown (begun M start) (log_at L) S) x (along.inv.slot_reads i)))

  reloaded-reads : (ignoring : Bool) (begins commit : ℕ) (reads : List ReadEntry) (writes : List WriteEntry) (entries : List ReadEntry)
      → slot_at S i ≡ twilight ignoring begins commit reads writes → obstacle S i reads ≡ none
      → All (λ (e : ReadEntry). e.mark ≡ false
      → Settled (begun M start) (log_at L) (turn S i (suc S.clock) S.cells (twilight false begins (suc S.clock) entries writes)) S.clock e.cell e.word)
      (map (reloaded S) reads)
  unfolding reloaded obstacle
  reloaded-reads ignoring begins commit reads writes entries x clear =
      All-mapped (λ (e : ReadEntry). (e.cell < cell_count S) × (not (held_by_other i (cell_at S e.cell)) ≡ true)) _ (reloaded S)
      (λ e both unmarked.
      reloaded-settled (begun M start) M (log_at L) S along.inv i inside (owed (twilight ignoring begins commit reads writes) x (λ k c o. o)) begins reads writes entries e
      both.0 (not-true _ both.1))
      reads
      (All-both (λ (e : ReadEntry). e.cell < cell_count S) (λ (e : ReadEntry). not (held_by_other i (cell_at S e.cell)) ≡ true) reads
      (inside-reads (twilight ignoring begins commit reads writes) x)
      (all-each (λ (e : ReadEntry). not (held_by_other i (cell_at S e.cell))) reads (first-none (λ (e : ReadEntry). held_by_other i (cell_at S e.cell)) reads clear)))

  -- nothing changes, and nothing is recorded
  stays : Along M start (L ++ []) (R ++ []) S
  stays = rw (append-nil L, append-nil R) along

  -- a first read joins the log, and is recorded
  first_read : (begins c : ℕ) (reads : List ReadEntry) (writes : List WriteEntry) → slot_at S i ≡ opened begins reads writes → c < cell_count S
      → held_by_other i (cell_at S c) ≡ false → newer begins (cell_at S c) ≡ false
      → Right M (turn S i S.clock S.cells (opened begins (reads ++ (new_read S c ∷ [])) writes))
      → Along M start (L ++ []) (R ++ (record { start = begins; cell = c; kind = (cell_at S c).kind; word = (cell_at S c).word } ∷ []))
      (turn S i S.clock S.cells (opened begins (reads ++ (new_read S c ∷ [])) writes))
  first_read begins c reads writes x there free old right =
      let joined : Slot = opened begins (reads ++ (new_read S c ∷ [])) writes in
      let t = early (opened begins reads writes) joined x (λ k d o. o) (λ b d w. w) refl tt in
      let settled = first-settled (begun M start) M (log_at L) S along.inv i inside (owed (opened begins reads writes) x (λ k d o. o)) begins c joined
      (λ b d w. w) (logs-now (opened begins reads writes) x).start_holds there free old in
      let next = along-turn M start L R S along i S.clock S.cells joined t right
      (All-snoc _ reads (new_read S c) (known S.clock S.cells (opened begins reads writes) joined x t) settled) tt (λ d. refl) in
      rw (append-nil L) (along-read M start L R (turn S i S.clock S.cells joined) next _ (along.kinds c, settled))

  -- the slot turns idle and its cells are freed
  frees : ((k c : ℕ) → Owes (slot_at S i) k c → ⊥) → Right M (turn S i S.clock (free_all i S.cells) idle)
      → ((c : ℕ) → (cell_at (turn S i S.clock (free_all i S.cells) idle) c).kind ≡ (cell_at S c).kind)
      → Along M start (L ++ []) (R ++ []) (turn S i S.clock (free_all i S.cells) idle)
  frees nothing =
      turns S.clock (free_all i S.cells) idle
      (moved-turn (begun M start) M (log_at L) S along.inv i inside (free_all i S.cells) idle (kinds-free i S.cells).count
      (free-data (begun M start) M (log_at L) S along.inv i inside) (λ b c w. w) refl tt nothing)
      tt tt

  -- the next cell is published
  abbrev published-state : Bool → ℕ → ℕ → ℕ → List ReadEntry → List WriteEntry → WriteEntry → State
  published-state ignoring count begins commit reads writes e =
      turn S i S.clock (set S.cells e.cell (published_as e.word commit (cell_at S e.cell))) (publishing_or_idle ignoring (suc count) begins commit reads writes)

  publishes : (ignoring : Bool) (count begins commit : ℕ) (reads : List ReadEntry) (writes : List WriteEntry)
      → slot_at S i ≡ publishing ignoring count begins commit reads writes → (e : WriteEntry) → e ≡ get_or writes count no_write
      → Right M (published-state ignoring count begins commit reads writes e)
      → ((c : ℕ) → (cell_at (published-state ignoring count begins commit reads writes e) c).kind ≡ (cell_at S c).kind)
      → Along M start (L ++ []) (R ++ []) (published-state ignoring count begins commit reads writes e)
  publishes ignoring count begins commit reads writes x e same =
      subst
      (λ (f : WriteEntry). Right M (published-state ignoring count begins commit reads writes f)
      → ((c : ℕ) → (cell_at (published-state ignoring count begins commit reads writes f) c).kind ≡ (cell_at S c).kind)
      → Along M start (L ++ []) (R ++ []) (published-state ignoring count begins commit reads writes f))
      (sym same)
      (λ right kinds.
      rw (append-nil L, append-nil R)
      (along-still M start L R S along i (published-state ignoring count begins commit reads writes (get_or writes count no_write)) (omega arith)
      (publish-inv (begun M start) M (log_at L) S along.inv i inside ignoring count begins commit reads writes x right)
      (publish-stable (begun M start) M (log_at L) S along.inv i inside ignoring count begins commit reads writes x)
      (turned (λ s y. Fresh M start L y) S i S.clock S.cells (publishing_or_idle ignoring (suc count) begins commit reads writes) inside
      (owing-case ignoring (suc count) begins commit reads writes (Fresh M start L) (λ b. tt) tt) (λ s other. along.new_stamps s))
      kinds))

  pub advance : {s : Step} {r : Answer} {T : State} (m : Move M S i s r T) → Right M T → ((c : ℕ) → (cell_at T c).kind ≡ (cell_at S c).kind)
      → Along M start (L ++ made m) (R ++ seen m) T
  advance (began x) = turns _ _ _ (early idle (opened S.clock [] []) x (λ k c o. o) (λ b c w. w) refl tt) tt tt
  advance (read-written x inside w) = λ right kinds. stays
  advance (read_again x inside w r) = λ right kinds. stays
  advance (read_first x there w r room held new) = λ right kinds. first_read _ _ _ _ x there held new right
  advance (wrote {start = begins} {reads = reads} {writes = writes} x fit room) =
      let t = early (opened begins reads writes) (opened begins reads _) x (λ k c o. o) (λ b c w. w) refl tt in
      turns _ _ _ t (known _ _ (opened begins reads writes) _ x t) tt
  advance (closed {start = begins} {reads = reads} {writes = writes} x) =
      let t = early (opened begins reads writes) (locking 0 begins reads writes) x (λ k c o. o) (λ b c w. w) refl tt in
      turns _ _ _ t (known _ _ (opened begins reads writes) _ x t) tt
  advance (locked {count = count} {start = begins} {c = c} {reads = reads} {writes = writes} x more same free) =
      let t = moved-turn (begun M start) M (log_at L) S along.inv i inside _ (locking (suc count) begins reads writes) (length-set S.cells c _)
      (lock-data (begun M start) M (log_at L) S along.inv i inside c) (λ b d w. w) refl tt (owed (locking count begins reads writes) x (λ k d o. o)) in
      turns _ _ _ t (known _ _ (locking count begins reads writes) _ x t) tt
  advance (entered {count = count} {start = begins} {reads = reads} {writes = writes} x whole below) =
      let entries = map (with_mark S i begins) reads in
      let t = stamped-turn (begun M start) M (log_at L) S along.inv i inside begins entries writes (owed (locking count begins reads writes) x (λ k c o. o)) in
      turns _ _ _ t (entered-reads count begins reads writes entries x) (fresh-stamp false begins entries writes)
  advance (reread-done e) = λ right kinds. stays
  advance (updated {ignoring = ignoring} {start = begins} {commit = commit} {c = c} {v = v} {e = e} {reads = reads} {writes = writes} x fit found) =
      let t = twilight-turn (begun M start) M (log_at L) S along.inv i inside ignoring ignoring begins commit reads writes (put_write (new_write c v) writes) x
      (λ d. put_same (new_write c v) writes d (write-has writes c e found)) in
      turns _ _ _ t (known _ _ (twilight ignoring begins commit reads writes) _ x t) (subst (Fresh M start L) x (along.new_stamps i))
  advance (ask-done e) = λ right kinds. stays
  advance (reloading {ignoring = ignoring} {start = begins} {commit = commit} {reads = reads} {writes = writes} x clear below) =
      let entries = map (reloaded S) reads in
      let t = stamped-turn (begun M start) M (log_at L) S along.inv i inside begins entries writes (owed (twilight ignoring begins commit reads writes) x (λ k c o. o)) in
      turns _ _ _ t (reloaded-reads ignoring begins commit reads writes entries x clear) (fresh-stamp false begins entries writes)
  advance (ignored {ignoring = ignoring} {start = begins} {commit = commit} {reads = reads} {writes = writes} x free m) =
      let t = twilight-turn (begun M start) M (log_at L) S along.inv i inside ignoring true begins commit reads writes writes x (λ d. refl) in
      turns _ _ _ t (known _ _ (twilight ignoring begins commit reads writes) _ x t) (subst (Fresh M start L) x (along.new_stamps i))
  advance nothing-to-ignore = λ right kinds. stays
  advance (aborted {start = begins} {commit = commit} {ignoring = ignoring} {reads = reads} {writes = writes} x m) =
      frees (owed (twilight ignoring begins commit reads writes) x (λ k c o. o))
  advance (committed {ignoring = ignoring} {start = begins} {commit = commit} {reads = reads} {writes = writes} x m) = λ right kinds.
      rw (append-nil R) (along-commit M start L R S along i inside ignoring begins commit reads writes x m right)
  advance (published {ignoring = ignoring} {count = count} {start = begins} {commit = commit} {e = e} {reads = reads} {writes = writes} x same) =
      publishes ignoring count begins commit reads writes x e same
  advance (gave-up u) = frees (uncommitted-owes u)
