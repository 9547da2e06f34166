-- What a call records in the history is what its move makes: a commit for a committing finish, a read for a first read, and nothing else.
use Rattle.std.specs.Prelude.{Ok}
use mathlib.Core.Bool.{true, false, not, cond}
use mathlib.Core.List.{List, [], ◌∷◌}
use mathlib.Core.Option.{none}
use mathlib.Core.Path.{◌≡◌, sym, ◌∙◌, ap}
use Prim.Native.Nat.{ℕ, pred, ◌<◌}
use native.Mathlib.Omega.{arith}
use lib.Dec.{eqb, leb→le}
use borrow.Author.Tests.{ne_eqb}
use Rattle.value.specs.Legal.{legal_word}
use Rattle.value.proofs.RoundTrip.{kind-back, word_back}
use Rattle.call.specs.declared.Step.{Step}
use Rattle.call.specs.declared.Step.TheVariants.{Read}
use Rattle.call.specs.declared.Answer.{Answer}
use Rattle.call.specs.declared.Refusal.{Refusal}
use Rattle.call.specs.Answer.{Reply, reply_code, refusal_code}
use Rattle.call.specs.declared.Answer.TheVariants.{Aborted}
use Rattle.call.specs.Decode.{Decoded, step_number, decoded}
use Rattle.slot.specs.declared.ReadEntry.{ReadEntry}
use Rattle.slot.specs.declared.WriteEntry.{WriteEntry}
use Rattle.slot.specs.Logic.{◌and◌}
use Rattle.rules.specs.Model.{Model}
use Rattle.rules.specs.State.{State, opened, twilight, cell_count, cell_at, slot_at, writes_of, reads_of}
use Rattle.slot.specs.Logs.{read_entry, write_entry, reads_cell, writes_cell}
use Rattle.rules.specs.LogsRight.{cell_right}
use Rattle.rules.specs.Steps.{answer}
use Rattle.rules.specs.Step.{Call}
use Rattle.slot.proofs.Logic.{and_left, and-false}
use Rattle.history.specs.History.{Event, own_slot, accepts, Commit, committed_by, SharedRead, from_shared, read_by}
use Rattle.history.proofs.Cases.{OfStep}
use Rattle.slot.proofs.Search.{read-lacks, read_has, write-lacks, write-has}
use Rattle.history.proofs.Move.{Move, began, read-written, read_again, read_first, wrote, closed, locked, entered, reread-done, updated, ask-done, reloading, ignored, nothing-to-ignore, aborted, committed, published, gave-up}
use Rattle.history.proofs.Right.{Right}

-- the commit that a move makes, and the read that it answers from a shared cell
abbrev pub made : {M : Model} {S : State} {i : ℕ} {s : Step} {r : Answer} {T : State} → Move M S i s r T → List Commit
made (began x) = []
made (read-written x inside w) = []
made (read_again x inside w r) = []
made (read_first x inside w r room held new) = []
made (wrote x fit room) = []
made (closed x) = []
made (locked x more same free) = []
made (entered x whole below) = []
made (reread-done e) = []
made (updated x fit found) = []
made (ask-done e) = []
made (reloading x clear below) = []
made (ignored x free m) = []
made nothing-to-ignore = []
made (aborted x m) = []
made (committed {ignoring = ignoring} {start = start} {commit = commit} {reads = reads} {writes = writes} x m) =
    committed_by (twilight ignoring start commit reads writes) ∷ []
made (published x e) = []
made (gave-up x) = []

abbrev pub seen : {M : Model} {S : State} {i : ℕ} {s : Step} {r : Answer} {T : State} → Move M S i s r T → List SharedRead
seen (began x) = []
seen (read-written x inside w) = []
seen (read_again x inside w r) = []
seen {S = S} (read_first {start = start} {c = c} x inside w r room held new) =
    record { start = start; cell = c; kind = (cell_at S c).kind; word = (cell_at S c).word } ∷ []
seen (wrote x fit room) = []
seen (closed x) = []
seen (locked x more same free) = []
seen (entered x whole below) = []
seen (reread-done e) = []
seen (updated x fit found) = []
seen (ask-done e) = []
seen (reloading x clear below) = []
seen (ignored x free m) = []
seen nothing-to-ignore = []
seen (aborted x m) = []
seen (committed x m) = []
seen (published x e) = []
seen (gave-up x) = []

-- what one call records in the history
abbrev pub commit_in : Event → List Commit
commit_in e = cond (accepts 12 e) (committed_by (own_slot e) ∷ []) []

abbrev pub read_in : Event → List SharedRead
read_in e = cond (from_shared e) (read_by e ∷ []) []

-- a call that was not an accepted step of this number
other-number : (e : Event) (k n : ℕ) → e.call.step ≡ n → (n ≡ k → ⊥) → accepts k e ≡ false
unfolding ◌and◌
other-number e k n same differs = rw (same, ne_eqb n k differs)

pub other-code : (e : Event) (k : ℕ) → (reply_code e.reply ≡ 0 → ⊥) → accepts k e ≡ false
other-code e k differs = rw (ne_eqb (reply_code e.reply) 0 differs) (and-false (eqb e.call.step k))

pub refusal-code : (r : Refusal) → OfStep r → refusal_code r ≡ 0 → ⊥
refusal-code r k e = let low = leb→le 2 (refusal_code r) k.0 in omega arith

-- it records nothing
pub no-commit : (e : Event) → accepts 12 e ≡ false → commit_in e ≡ []
no-commit e p = rw p

pub no_read : (e : Event) → accepts 2 e ≡ false → read_in e ≡ []
unfolding ◌and◌
no_read e p = rw p

-- the cell that a read names
pub read_names : (n cell kind word c : ℕ) → n ≡ 2 → decoded n cell kind word ≡ Ok (Read c) → cell ≡ c
unfolding decoded
read_names n cell kind word c e p =
    let q : ◌≡◌ {A = Decoded} (Ok (Read cell)) (Ok (Read c)) = sym (ap (λ (k : ℕ). decoded k cell kind word) e) ∙ p in
    cc

module _ (M : Model) (S : State) (right : Right M S) (a : Call) where
  abbrev pub event : Reply → Event
  event r = record { before = S; call = a; reply = r }

  -- a step that is neither a read nor a finish records nothing
  silent : (r : Reply) (n : ℕ) → a.step ≡ n → (n ≡ 12 → ⊥) → commit_in (event r) ≡ []
  silent r n e d = no-commit (event r) (other-number (event r) 12 n e d)

  unread : (r : Reply) (n : ℕ) → a.step ≡ n → (n ≡ 2 → ⊥) → read_in (event r) ≡ []
  unread r n e d = no_read (event r) (other-number (event r) 2 n e d)

  pub records-commit : {s : Step} {r : Answer} {T : State} (m : Move M S (pred a.slot) s r T) → a.step ≡ step_number s → commit_in (event (Ok r)) ≡ made m
  unfolding ◌and◌
  records-commit {r = q} (began x) e = silent (Ok q) 1 e (λ z. omega arith)
  records-commit {r = q} (read-written x inside w) e = silent (Ok q) 2 e (λ z. omega arith)
  records-commit {r = q} (read_again x inside w r) e = silent (Ok q) 2 e (λ z. omega arith)
  records-commit {r = q} (read_first x inside w r room held new) e = silent (Ok q) 2 e (λ z. omega arith)
  records-commit {r = q} (wrote x fit room) e = silent (Ok q) 3 e (λ z. omega arith)
  records-commit {r = q} (closed x) e = silent (Ok q) 4 e (λ z. omega arith)
  records-commit {r = q} (locked x more same free) e = silent (Ok q) 5 e (λ z. omega arith)
  records-commit {r = q} (entered x whole below) e = silent (Ok q) 6 e (λ z. omega arith)
  records-commit {r = q} (reread-done f) e = silent (Ok q) 7 e (λ z. omega arith)
  records-commit {r = q} (updated x fit found) e = silent (Ok q) 8 e (λ z. omega arith)
  records-commit {r = q} (ask-done f) e = silent (Ok q) 9 e (λ z. omega arith)
  records-commit {r = q} (reloading x clear below) e = silent (Ok q) 10 e (λ z. omega arith)
  records-commit {r = q} (ignored x free m) e = silent (Ok q) 11 e (λ z. omega arith)
  records-commit {r = q} nothing-to-ignore e = silent (Ok q) 11 e (λ z. omega arith)
  records-commit (aborted x m) e = no-commit (event (Ok Aborted)) (other-code (event (Ok Aborted)) 12 (λ z. omega arith))
  records-commit (committed x m) e = rw (e, x)
  records-commit {r = q} (published x same) e = silent (Ok q) 13 e (λ z. omega arith)
  records-commit {r = q} (gave-up u) e = silent (Ok q) 14 e (λ z. omega arith)

  -- the read that a first read records: kind and word as replied are the cell's
  first-recorded : (begins c : ℕ) (reads : List ReadEntry) (writes : List WriteEntry) → a.step ≡ 2 → a.cell ≡ c
      → slot_at S (pred a.slot) ≡ opened begins reads writes → c < cell_count S → write_entry writes c ≡ none → read_entry reads c ≡ none
      → read_in (event (Ok (answer S c (cell_at S c).word))) ≡ record { start = begins; cell = c; kind = (cell_at S c).kind; word = (cell_at S c).word } ∷ []
  unfolding ◌and◌ cell_right
  first-recorded begins c reads writes e named x there w r =
      let legal : legal_word (cell_at S c).kind (cell_at S c).word ≡ true = and_left _ _ (right.cell c there) in
      rw (e, named, x, write-lacks writes c w, read-lacks reads c r, kind-back (cell_at S c).kind (cell_at S c).word legal, word_back (cell_at S c).kind (cell_at S c).word legal)

  -- a read that is answered from a log records nothing
  logged-write : (r : Reply) → writes_cell (writes_of (slot_at S (pred a.slot))) a.cell ≡ true → read_in (event r) ≡ []
  unfolding ◌and◌
  logged-write r found = rw (found, and-false (accepts 2 (event r)))

  logged-read : (r : Reply) → reads_cell (reads_of (slot_at S (pred a.slot))) a.cell ≡ true → read_in (event r) ≡ []
  logged-read r found = rw (found, and-false (not (writes_cell (writes_of (slot_at S (pred a.slot))) a.cell)), and-false (accepts 2 (event r)))

  pub records-read : {s : Step} {r : Answer} {T : State} (m : Move M S (pred a.slot) s r T)
      → decoded a.step a.cell a.kind a.word ≡ Ok s → a.step ≡ step_number s → read_in (event (Ok r)) ≡ seen m
  records-read {r = r} (began x) p e = unread (Ok r) 1 e (λ z. omega arith)
  records-read {r = r} (read-written {c = c} {writes = writes} {e = f} x inside w) p e =
      logged-write (Ok r) (rw (read_names a.step a.cell a.kind a.word c e p, x) (write-has writes c f w))
  records-read {r = r} (read_again {c = c} {reads = reads} {e = f} x inside w q) p e =
      logged-read (Ok r) (rw (read_names a.step a.cell a.kind a.word c e p, x) (read_has reads c f q))
  records-read (read_first {start = begins} {c = c} {reads = reads} {writes = writes} x inside w r room held new) p e =
      first-recorded begins c reads writes e (read_names a.step a.cell a.kind a.word c e p) x inside w r
  records-read {r = r} (wrote x fit room) p e = unread (Ok r) 3 e (λ z. omega arith)
  records-read {r = r} (closed x) p e = unread (Ok r) 4 e (λ z. omega arith)
  records-read {r = r} (locked x more same free) p e = unread (Ok r) 5 e (λ z. omega arith)
  records-read {r = r} (entered x whole below) p e = unread (Ok r) 6 e (λ z. omega arith)
  records-read {r = r} (reread-done f) p e = unread (Ok r) 7 e (λ z. omega arith)
  records-read {r = r} (updated x fit found) p e = unread (Ok r) 8 e (λ z. omega arith)
  records-read {r = r} (ask-done f) p e = unread (Ok r) 9 e (λ z. omega arith)
  records-read {r = r} (reloading x clear below) p e = unread (Ok r) 10 e (λ z. omega arith)
  records-read {r = r} (ignored x free m) p e = unread (Ok r) 11 e (λ z. omega arith)
  records-read {r = r} nothing-to-ignore p e = unread (Ok r) 11 e (λ z. omega arith)
  records-read {r = r} (aborted x m) p e = unread (Ok r) 12 e (λ z. omega arith)
  records-read {r = r} (committed x m) p e = unread (Ok r) 12 e (λ z. omega arith)
  records-read {r = r} (published x same) p e = unread (Ok r) 13 e (λ z. omega arith)
  records-read {r = r} (gave-up u) p e = unread (Ok r) 14 e (λ z. omega arith)
