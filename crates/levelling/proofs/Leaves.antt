-- What the reads give, and what the operation leaves in the logs: by induction over the set's cells, one read after the other.
use mathlib.Core.Bool.{Bool, true, false, cond}
use mathlib.Core.List.{List, [], ◌∷◌, ◌++◌}
use mathlib.Core.Logic.{◌⊎◌, inl, inr, ⊎_elim}
use Rattle.std.specs.Prelude.{Option, None, Some, Err}
use mathlib.Core.Path.{◌≡◌, refl, sym, ◌∙◌, ap, subst}
use Prim.Native.Nat.{ℕ, zero, suc, pred, ◌^◌, ◌<◌, ◌≤◌}
use native.Mathlib.Omega.{arith}
use borrow.Author.Count.{below_more}
use borrow.Author.Tests.{lt-ltb}
use lib.Dec.{eqb}
use lib.ListN.{length, get_or, take}
use lib.Seq.{take-length}
use Rattle.value.specs.Legal.{legal_word}
use Rattle.value.proofs.RoundTrip.{word_back}
use Rattle.call.specs.Answer.{Reply, reply_code, reply_word}
use Rattle.call.specs.declared.Refusal.TheVariants.{ReadHeld, ReadNewer}
use Rattle.slot.specs.Logic.{◌or◌}
use Rattle.rules.specs.Model.{Model}
use Rattle.rules.specs.State.{State, cell_at, slot_at, start_of}
use Rattle.rules.specs.StateRight.{state_right}
use Rattle.rules.specs.Cells.{held_by_other, newer}
use Rattle.rules.specs.Outcome.{Outcome, accepted, reply_of, after, refuse_if}
use Rattle.rules.specs.Steps.{answer}
use Rattle.history.proofs.InTheWay.{in-the-way}
use Rattle.pick.specs.Groups.{erases_place, erases}
use Rattle.pick.specs.Pick.{negative_at, picked}
use Rattle.pick.proofs.PicksRight.{picks-right}
use Rattle.wearset.specs.WearSet.{group_count}
use Rattle.level.specs.Level.{Reading, going, stopped, read_at, read_first, Levelled, writing, judging, levelling}
use Rattle.wear.specs.Wear.{wear}
use Rattle.levelling.specs.AsCalls.{admitted}
use Rattle.levelling.specs.Leaves.{Left, words_of, with_logs, held, is_newer, unreadable, raised_entry, PickWritten, Leaves}
use Rattle.levelling.proofs.Cases.{begins}
use Rattle.levelling.proofs.ReadLaws.{Begun, is-begun, count-write, slot-with, logs-anew, no-logs, map_next, read_next}

-- how the core refuses to read a cell: another slot holds it, and it says which; or it is newer
abbrev pub Conflict : State → ℕ → ℕ → Reply → Type 0
Conflict S slot c reply =
    ((held S slot c ≡ true) × (reply ≡ Err (ReadHeld (cell_at S c).holder)))
    ⊎ ((held S slot c ≡ false) × (is_newer S slot c ≡ true) × (reply ≡ Err ReadNewer))

-- no code that comes once all cells are read is one of the core's
no-core : (code : ℕ) → (code ≡ 0) ⊎ (code ≡ 33) ⊎ (code ≡ 34) → (code ≡ 14) ⊎ (code ≡ 10) → ⊥
no-core code = elim [ inl e ↦ ⊎_elim (omega arith) (omega arith) | inr (inl e) ↦ ⊎_elim (omega arith) (omega arith) | inr (inr e) ↦ ⊎_elim (omega arith) (omega arith) ]

module _ (S : State) (set : List ℕ) (slot : ℕ) where
  -- each of the first n cells can be read
  abbrev Clear : ℕ → Type 0
  Clear n = (earlier : ℕ) → earlier < n → unreadable S slot (get_or set earlier 0) ≡ false

  -- what is known once n cells are to be read
  abbrev pub SoFar : ℕ → Reading → Type 0
  SoFar n (going words T) = (words ≡ words_of S (take n set)) × (T ≡ with_logs S slot (take n set) []) × Clear n
  SoFar n (stopped place reply T) =
      Conflict S slot (get_or set place 0) reply × (place < n) × (unreadable S slot (get_or set place 0) ≡ true) × Clear place × (T ≡ with_logs S slot (take place set) [])

  -- how far the reads have come with a step's outcome
  abbrev onward : ℕ → List ℕ → State → Outcome → Reading
  onward n words T o = cond (eqb (reply_code (reply_of o)) 0) (going (words ++ (reply_word (reply_of o) ∷ [])) (after T o)) (stopped n (reply_of o) T)

module _ (M : Model) (S : State) (set : List ℕ) (slot : ℕ) (b : Begun M S set slot) where
  module _ (n : ℕ) (h : n < length set) (clear : Clear S set slot n) where
    -- the next cell
    abbrev c : ℕ
    c = get_or set n 0

    -- one cell more, by whether it is held or newer
    one-read : SoFar S set slot (suc n)
        (onward S set slot n (words_of S (take n set)) (with_logs S slot (take n set) [])
        (refuse_if (held_by_other (pred slot) (cell_at S c)) (ReadHeld (cell_at S c).holder)
        (refuse_if (newer (start_of (slot_at S (pred slot))) (cell_at S c)) ReadNewer
        (accepted (answer S c (cell_at S c).word) (with_logs S slot (take (suc n) set) [])))))
    unfolding ◌or◌
    one-read = by (held_by_other (pred slot) (cell_at S c)) (newer (start_of (slot_at S (pred slot))) (cell_at S c)) refl refl
      where
        by : (held new : Bool) → held_by_other (pred slot) (cell_at S c) ≡ held → newer (start_of (slot_at S (pred slot))) (cell_at S c) ≡ new
            → SoFar S set slot (suc n)
            (onward S set slot n (words_of S (take n set)) (with_logs S slot (take n set) [])
            (refuse_if held (ReadHeld (cell_at S c).holder)
            (refuse_if new ReadNewer
            (accepted (answer S c (cell_at S c).word) (with_logs S slot (take (suc n) set) [])))))
        by true new p q = (inl (p, refl), omega arith, rw p, clear, refl)
        by false true p q = (inr (p, q, refl), omega arith, rw (p, q), clear, refl)
        by false false p q = (
          rw (word_back (cell_at S c).kind (cell_at S c).word (b.cell_legal c (b.cell_inside n h))) (sym (map_next M S set slot b (λ d. (cell_at S d).word) n h)),
          refl,
          λ earlier l. below_more (λ k. unreadable S slot (get_or set k 0) ≡ false) n clear (rw (p, q)) earlier (omega arith),
        )

  -- the next read, if none was refused yet
  next : (n : ℕ) → n < length set → (r : Reading) → SoFar S set slot n r → SoFar S set slot (suc n) (read_at M slot set n r)
  unfolding read_at
  next n h (stopped place reply T) so = let before = so.1 in (so.0, omega arith, so.2, so.3, so.4)
  next n h (going words T) so = rw (so.0, so.1, read_next M S set slot b n h) (one-read n h so.2)

  -- after n reads: the words and the log of the first n cells, or the first cell that can't be read
  so_far : (n : ℕ) → n ≤ length set → SoFar S set slot n (read_first M S slot set n)
  unfolding read_first
  so_far zero h = (refl, sym (no-logs M S set slot b), λ earlier l. absurd (omega arith))
  so_far (suc n) h = next n h (read_first M S slot set n) (so_far n (omega arith))

  -- the picked group's write is accepted: its cell is of kind 2, and its count plus one has 32 bits
  write-accepted : (g : ℕ) → picked (words_of S set) (group_count set) ≡ Some g
      → (writing M (with_logs S slot set []) slot set (words_of S set) (Some g)).state ≡ with_logs S slot set (raised_entry S set g ∷ [])
  unfolding legal_word
  write-accepted g p =
      let least = picks-right.pick (words_of S set) (group_count set) g p in
      let count = suc (erases (words_of S set) g) in
      let inside : erases_place g < length set = let few = least.inside in omega arith in
      let kind : (cell_at S (get_or set (erases_place g) 0)).kind ≡ 2 = b.cell_kind (erases_place g) inside ∙ omega arith in
      let legal : legal_word 2 count ≡ true = let below = least.below in lt-ltb count (2 ^ 32) (omega arith) in
      ap (after (with_logs S slot set []))
      (count-write M (with_logs S slot set []) slot (get_or set (erases_place g) 0) count _ _ b.slot_inside (slot-with M S set slot b set [])
      (b.cell_inside (erases_place g) inside) kind legal)
      ∙ logs-anew M S set slot b set set (raised_entry S set g ∷ [])

  -- once all cells are read
  past-reads : (w : Levelled) → (w.code ≡ 0) ⊎ (w.code ≡ 33) ⊎ (w.code ≡ 34) → (33 ≤ w.code → w.state ≡ with_logs S slot set []) → (w.code ≡ 0 → PickWritten S set slot w)
      → Left M S set slot w
  past-reads w code unwritten written =
      record {
        codes = ⊎_elim inl (λ other. inr (inr (inr other))) code;
        conflicts = λ core. absurd (no-core w.code code core);
        read_held = λ e. absurd (no-core w.code code (inl e));
        read_newer = λ e. absurd (no-core w.code code (inr e));
        unwritten = unwritten;
        written = written;
      }

  -- by what is picked: 34, or the write
  write-ended : (o : Option ℕ) → negative_at (words_of S set) (group_count set) ≡ None → picked (words_of S set) (group_count set) ≡ o
      → Left M S set slot (writing M (with_logs S slot set []) slot set (words_of S set) o)
  write-ended None sound p = past-reads _ (inr (inr refl)) (λ e. refl) (λ e. absurd (omega arith))
  write-ended (Some g) sound p = past-reads _ (inl refl) (λ e. absurd (omega arith)) (λ e. (p, sound, write-accepted g p))

  -- by the signs: 33, or what is picked
  judge-ended : (o : Option ℕ) → negative_at (words_of S set) (group_count set) ≡ o
      → Left M S set slot (judging M (with_logs S slot set []) slot set (words_of S set) o)
  judge-ended None sound = write-ended (picked (words_of S set) (group_count set)) sound refl
  judge-ended (Some place) e = past-reads _ (inr (inl refl)) (λ d. refl) (λ d. absurd (omega arith))

  -- by why a read was refused: 14 with the slot in the way, or 10
  refused-ended : (place : ℕ) (reply : Reply) (T : State) → SoFar S set slot (length set) (stopped place reply T) → Conflict S slot (get_or set place 0) reply
      → Left M S set slot (levelling M slot set (stopped place reply T))
  refused-ended place reply T so (inl (taken, said)) =
      rw said
      (record {
        codes = inr (inl refl);
        conflicts = λ e. (so.1, so.2, so.3, so.4);
        read_held = λ e. (refl, in-the-way S (pred slot) (get_or set place 0) taken M b.right slot refl);
        read_newer = λ e. absurd (omega arith);
        unwritten = λ e. absurd (omega arith);
        written = λ e. absurd (omega arith);
      })
  refused-ended place reply T so (inr (free, new, said)) =
      rw said
      (record {
        codes = inr (inr (inl refl));
        conflicts = λ e. (so.1, so.2, so.3, so.4);
        read_held = λ e. absurd (omega arith);
        read_newer = λ e. (refl, refl, free, new);
        unwritten = λ e. absurd (omega arith);
        written = λ e. absurd (omega arith);
      })

  -- by the reads: a core code, or what the signs say
  reads-ended : (r : Reading) → SoFar S set slot (length set) r → Left M S set slot (levelling M slot set r)
  reads-ended (stopped place reply T) so = refused-ended place reply T so so.0
  reads-ended (going words T) so = rw (so.0, so.1, take-length set) (judge-ended (negative_at (words_of S set) (group_count set)) refl)

module _ (M : Model) (S : State) (set : List ℕ) (slot : ℕ) (right : state_right M S ≡ true) (adm : admitted M S set slot ≡ true) where
  -- of a well-formed state whose slot and set are right
  all_read : SoFar S set slot (length set) (read_first M S slot set (length set))
  all_read = so_far M S set slot (is-begun M S set slot right adm) (length set) (omega arith)

  -- a read is refused with code 14 or 10 alone
  pub refused-read : (place : ℕ) (reply : Reply) (T : State) → read_first M S slot set (length set) ≡ stopped place reply T → Conflict S slot (get_or set place 0) reply
  refused-read place reply T e = (subst (SoFar S set slot (length set)) e all_read).0

  -- .. and what the operation comes to then
  ended : Left M S set slot (wear M S set slot)
  ended =
      subst (Left M S set slot) (sym (begins M S set slot adm))
      (reads-ended M S set slot (is-begun M S set slot right adm) (read_first M S slot set (length set)) all_read)

-- What the operation leaves.
pub leaves : (M : Model) → Leaves M
leaves M =
    record {
      all_read = λ S set slot words T right adm e.
          let so = subst (SoFar S set slot (length set)) e (all_read M S set slot right adm) in
          (rw (take-length set) at so.0, rw (take-length set) at so.1, so.2);
      operation = ended M;
    }
