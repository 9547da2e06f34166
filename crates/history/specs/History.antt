-- Demand 3. A history is what happened, call by call; the reads and the commits that the demand speaks of are functions of it.
use Rattle.std.specs.Prelude.{Bool, true, false, not, cond, List, [], ◌∷◌, ◌++◌, ◌≡◌, ℕ, zero, suc, pred, ◌<◌, ◌≤◌, eqb}
use Rattle.std.proofs.Math.Option.{Option, none, some}
use Rattle.call.specs.Answer.{Reply, reply_code, reply_kind, reply_word}
use Rattle.slot.specs.declared.ReadEntry.{ReadEntry}
use Rattle.slot.specs.declared.WriteEntry.{WriteEntry}
use Rattle.slot.specs.Logic.{◌and◌, pairwise, All}
use Rattle.rules.specs.State.{State, Slot, cell_count, cell_at, slot_at, reads_of, writes_of, start_of, commit_of, ignoring_of, is_publishing}
use Rattle.slot.specs.Logs.{write_entry, reads_cell, writes_cell}
use Rattle.rules.specs.Outcome.{Outcome, reply_of, after}
use Rattle.rules.specs.Step.{Call}

-- one call: the state before it, and what was replied
pub record Event : Type 0 where
  pub before : State
  pub call : Call
  pub reply : Reply

-- the history of a list of calls, and the state that it ends in; `next` takes the steps
unfoldable pub history : (State → Call → Outcome) → State → List Call → List Event
history next S [] = []
history next S (a ∷ calls) = record { before = S; call = a; reply = reply_of (next S a) } ∷ history next (after S (next S a)) calls

unfoldable pub final : (State → Call → Outcome) → State → List Call → State
final next S [] = S
final next S (a ∷ calls) = final next (after S (next S a)) calls

-- the caller's slot before the call; the call was an accepted step of this number
abbrev pub own_slot : Event → Slot
own_slot e = slot_at e.before (pred e.call.slot)

abbrev pub accepts : ℕ → Event → Bool
accepts step e = eqb e.call.step step and eqb (reply_code e.reply) 0

-- A commit is an accepted finish: its transaction's commit stamp, logs and ignoring flag.
pub record Commit : Type 0 where
  pub stamp : ℕ
  pub writes : List WriteEntry
  pub reads : List ReadEntry
  pub ignoring : Bool

abbrev pub committed_by : Slot → Commit
committed_by x = record { stamp = commit_of x; writes = writes_of x; reads = reads_of x; ignoring = ignoring_of x }

unfoldable pub commits : List Event → List Commit
commits [] = []
commits (e ∷ events) = cond (accepts 12 e) (committed_by (own_slot e) ∷ []) [] ++ commits events

-- A read answered from a shared cell is an accepted read of a cell that stood in neither log: its transaction's start, the cell, kind and word as replied.
pub record SharedRead : Type 0 where
  pub start : ℕ
  pub cell : ℕ
  pub kind : ℕ
  pub word : ℕ

abbrev pub from_shared : Event → Bool
from_shared e = accepts 2 e and not (writes_cell (writes_of (own_slot e)) e.call.cell) and not (reads_cell (reads_of (own_slot e)) e.call.cell)

abbrev pub read_by : Event → SharedRead
read_by e = record { start = start_of (own_slot e); cell = e.call.cell; kind = reply_kind e.reply; word = reply_word e.reply }

unfoldable pub shared_reads : List Event → List SharedRead
shared_reads [] = []
shared_reads (e ∷ events) = cond (from_shared e) (read_by e ∷ []) [] ++ shared_reads events

-- the write log of the commit with this stamp: no entry, if there is none
unfoldable pub log_at : List Commit → ℕ → List WriteEntry
log_at [] k = []
log_at (x ∷ commits) k = cond (eqb x.stamp k) x.writes (log_at commits k)

abbrev pub word_or : Option WriteEntry → ℕ → ℕ
word_or none word = word
word_or (some e) word = e.word

-- The replay, one transaction at a time, in order of commit stamp: cell c's word once all stamps up to b are in.
unfoldable pub up_to : (ℕ → List WriteEntry) → (ℕ → ℕ) → ℕ → ℕ → ℕ
up_to logs begun zero c = begun c
up_to logs begun (suc b) c = word_or (write_entry (logs (suc b)) c) (up_to logs begun b c)

-- .. of a history's committed write logs, on the cells that it starts from
abbrev pub replay : State → List Event → ℕ → ℕ → ℕ
replay S events = up_to (log_at (commits events)) (λ c. (cell_at S c).word)

-- a holder (0 for none) is a publishing slot
abbrev pub publishes : State → ℕ → Bool
publishes T zero = false
publishes T (suc s) = is_publishing (slot_at T s)

-- what demand 3 says of a history from state S to state T
pub record Demand3 (S : State) (events : List Event) (T : State) : Type 0 where
  -- commit stamps are pairwise different, above the first clock and at most the clock
  pub stamps_apart : pairwise (λ (x y : Commit). not (eqb x.stamp y.stamp)) (commits events) ≡ true
  pub stamps_within : All (λ (x : Commit). (S.clock < x.stamp) × (x.stamp ≤ T.clock)) (commits events)
  -- "Cells not held by a publishing slot hold exactly the replay's result."
  pub cells_hold : (c : ℕ) → c < cell_count T → publishes T (cell_at T c).holder ≡ false → (cell_at T c).word ≡ replay S events T.clock c
  pub kinds_hold : (c : ℕ) → (cell_at T c).kind ≡ (cell_at S c).kind
  -- "Every read answered from a shared cell gave what the replay holds once all stamps up to its transaction's start are in, even if that transaction
  -- aborted later."
  pub reads_gave : All (λ (r : SharedRead). (r.kind ≡ (cell_at S r.cell).kind) × (r.word ≡ replay S events r.start r.cell)) (shared_reads events)
  -- each unmarked entry of a committed transaction's read log is what the replay holds just before its stamp
  pub entries_had : All (λ (x : Commit). All (λ (e : ReadEntry). e.mark ≡ false → e.word ≡ replay S events (pred x.stamp) e.cell) x.reads) (commits events)
  -- "Each transaction that committed without ignoring marks had at its finish, for every cell in its read log, what the replay holds just before its own stamp."
  pub commits_had : All (λ (x : Commit). x.ignoring ≡ false → All (λ (e : ReadEntry). e.word ≡ replay S events (pred x.stamp) e.cell) x.reads) (commits events)
  -- "every committed transaction, ignoring or not, holds for each cell in both its logs the replay's value just before its stamp."
  pub updates_had : All
      (λ (x : Commit).
      All (λ (e : ReadEntry). writes_cell x.writes e.cell ≡ true → e.word ≡ replay S events (pred x.stamp) e.cell) x.reads)
      (commits events)
