-- A committing finish keeps the invariant: its stamp is new, it holds what it has written, and what is settled below its stamp does not see it.
use mathlib.Core.Bool.{Bool, true, false, false≢true}
use mathlib.Core.List.{List, [], ◌∷◌}
use mathlib.Core.Logic.{◌⊎◌, inl, inr, ⊎_elim}
use mathlib.Core.Option.{none}
use mathlib.Core.Path.{◌≡◌, refl, sym, ◌∙◌, ap, subst}
use Prim.Native.Nat.{ℕ, ◌<◌, ◌≤◌}
use native.Mathlib.Omega.{arith}
use lib.Dec.{eqb, ltb}
use lib.ListN.{length, drop}
use borrow.Author.Tests.{eqb-true, eqb-false, ltb-true, lt-ltb, leb-true}
use Rattle.slot.specs.declared.ReadEntry.{ReadEntry}
use Rattle.slot.specs.declared.WriteEntry.{WriteEntry}
use Rattle.slot.specs.Logic.{any, first}
use Rattle.rules.specs.Model.{Model}
use Rattle.rules.specs.State.{State, Slot, idle, opened, locking, twilight, publishing, cell_count, cell_at, slot_at, turn, commit_of}
use Rattle.slot.specs.Logs.{write_entry, writes_cell}
use Rattle.rules.specs.LogsRight.{commit_between}
use Rattle.rules.specs.StateRight.{holds, slot_right}
use Rattle.rules.specs.Steps.{publishing_or_idle}
use Rattle.slot.proofs.Logic.{and_left, and_right}
use Rattle.history.proofs.Right.{Right}
use Rattle.history.proofs.Keeps.Lists.{cond-elim}
use Rattle.history.proofs.Invariant.{LateWrite, Owes, LogKnown, ReadsKnown, Inv, Stable, turned, turned-own, turned-other}
use Rattle.history.proofs.Replay.{lacks, up_to-same}
use Rattle.history.proofs.Turn.{reads-stay}

-- publishing, or idle where nothing is left
module _ (ignoring : Bool) (count start commit : ℕ) (reads : List ReadEntry) (writes : List WriteEntry) where
  pub owing-case : (P : Slot → Type 0) → (count < length writes → P (publishing ignoring count start commit reads writes)) → P idle
      → P (publishing_or_idle ignoring count start commit reads writes)
  unfolding publishing_or_idle
  owing-case P f g =
      cond-elim P (ltb count (length writes)) (publishing ignoring count start commit reads writes) idle (λ e. f (ltb-true _ _ e)) (λ e. g)

  -- where a cell is left, it is publishing and owes it
  pub owing-owes : (c : ℕ) → count < length writes → writes_cell (drop count writes) c ≡ true → Owes (publishing_or_idle ignoring count start commit reads writes) commit c
  unfolding publishing_or_idle
  owing-owes c h w = rw (lt-ltb count (length writes) h) (refl, w)

  pub owing-late : (b c : ℕ) → LateWrite (publishing_or_idle ignoring count start commit reads writes) b c → ⊥
  owing-late b c = owing-case (λ y. LateWrite y b c → ⊥) (λ h w. w) (λ w. w)

  pub owing-log : (logs : ℕ → List WriteEntry) → logs commit ≡ writes → LogKnown logs (publishing_or_idle ignoring count start commit reads writes)
  owing-log logs e = owing-case (LogKnown logs) (λ h. e) tt

  pub owing-reads : (begun : ℕ → ℕ) (logs : ℕ → List WriteEntry) (T : State) → ReadsKnown begun logs T (publishing_or_idle ignoring count start commit reads writes)
  owing-reads begun logs T = owing-case (ReadsKnown begun logs T) (λ h. tt) tt

no-entry : (c : ℕ) → write_entry [] c ≡ none
unfolding write_entry first
no-entry c = refl

-- a log that writes a cell has an entry
pub some_written : (writes : List WriteEntry) (c : ℕ) → writes_cell writes c ≡ true → 0 < length writes
unfolding writes_cell any
some_written [] c p = absurd (false≢true p)
some_written (e ∷ writes) c p = omega arith

module _ (begun : ℕ → ℕ) (M : Model) (logs logs' : ℕ → List WriteEntry) (S : State) (inv : Inv begun M logs S) (i : ℕ) (inside : i < length S.slots)
    (ignoring : Bool) (start commit : ℕ) (reads : List ReadEntry) (writes : List WriteEntry)
    (x : slot_at S i ≡ twilight ignoring start commit reads writes)
    (new : logs' commit ≡ writes) (old : (j : ℕ) → (j ≡ commit → ⊥) → logs' j ≡ logs j) where
  next : State
  next = turn S i S.clock S.cells (publishing_or_idle ignoring 0 start commit reads writes)

  pub between : (start < commit) × (commit ≤ S.clock)
  unfolding slot_right commit_between
  between =
      let right : slot_right S.cells S.clock (twilight ignoring start commit reads writes) ≡ true =
      subst (λ (y : Slot). slot_right S.cells S.clock y ≡ true) x (inv.right.slot i) in
      let stamps = and_left _ _ (and_right _ _ right) in
      (ltb-true start commit (and_left _ _ stamps), leb-true commit S.clock (and_right _ _ stamps))

  no-log : logs commit ≡ []
  no-log = subst (LogKnown logs) x (inv.slot_logs i)

  -- up to b both have the same word for the cell, if the commit does not write it with a stamp up to b
  same_word : (b c : ℕ) → (commit ≤ b → writes_cell writes c ≡ false) → (j : ℕ) → j ≤ b → write_entry (logs' j) c ≡ write_entry (logs j) c
  same_word b c f j h = by (eqb j commit) refl
    where
      by : (t : Bool) → eqb j commit ≡ t → write_entry (logs' j) c ≡ write_entry (logs j) c
      by true e =
          let same : j ≡ commit = eqb-true j commit e in
          ap (λ (k : ℕ). write_entry (logs' k) c) same
          ∙ ap (λ (l : List WriteEntry). write_entry l c) new
          ∙ lacks writes c (f (omega arith))
          ∙ sym (ap (λ (k : ℕ). write_entry (logs k) c) same ∙ ap (λ (l : List WriteEntry). write_entry l c) no-log ∙ no-entry c)
      by false e = ap (λ (l : List WriteEntry). write_entry l c) (old j (eqb-false j commit e))

  -- what is settled stays so
  pub commit-stable : Stable begun logs S logs' (turn S i S.clock S.cells (publishing_or_idle ignoring 0 start commit reads writes))
  commit-stable b c word known =
      record {
        replayed = up_to-same logs' logs begun b c (same_word b c not_late) ∙ known.replayed;
        past = known.past;
        still =
            turned (λ s y. LateWrite y b c → ⊥) S i S.clock S.cells (publishing_or_idle ignoring 0 start commit reads writes) inside
            (owing-late ignoring 0 start commit reads writes b c) (λ s other. known.still s);
      }
    where
      not_late : commit ≤ b → writes_cell writes c ≡ false
      not_late h = by (writes_cell writes c) refl
        where
          by : (t : Bool) → writes_cell writes c ≡ t → writes_cell writes c ≡ false
          by false e = e
          by true e = absurd (known.still i (subst (λ (y : Slot). LateWrite y b c) (sym x) (h, e)))

  -- the log of another slot's stamp stays
  pub other-stamp : (s : ℕ) → (s ≡ i → ⊥) → commit_of (slot_at S s) ≡ commit → ⊥
  other-stamp s other e =
      let mine : commit_of (slot_at S i) ≡ commit = ap commit_of x in
      let none-given = inv.right.apart s i other (e ∙ sym mine) in
      let above = between.0 in
      omega arith

  log-stays : (y : Slot) → (commit_of y ≡ commit → ⊥) → LogKnown logs y → LogKnown logs' y
  log-stays idle d known = tt
  log-stays (opened start reads writes) d known = tt
  log-stays (locking taken start reads writes) d known = tt
  log-stays (twilight ignoring start k reads writes) d known = old k d ∙ known
  log-stays (publishing ignoring taken start k reads writes) d known = old k d ∙ known

  -- a cell that the commit writes has a lower stamp
  lower : (c : ℕ) → writes_cell writes c ≡ true → (cell_at S c).stamp < commit
  unfolding holds
  lower c w =
      let above = between.0 in
      subst (λ (y : Slot). 0 < commit_of y → holds y c ≡ true → (cell_at S c).stamp < commit_of y) x (inv.later i c) (omega arith) w

  not_written : (c : ℕ) → commit ≤ (cell_at S c).stamp → writes_cell writes c ≡ false
  not_written c h = by (writes_cell writes c) refl
    where
      by : (t : Bool) → writes_cell writes c ≡ t → writes_cell writes c ≡ false
      by false e = e
      by true e = let below = lower c e in absurd (omega arith)

  next_last : (c j : ℕ) → c < cell_count S → writes_cell (logs' j) c ≡ true
      → (j ≤ (cell_at S c).stamp) ⊎ ((s : ℕ) × Owes (slot_at next s) j c)
  unfolding next
  next_last c j h w = by (eqb j commit) refl
    where
      owed : (s : ℕ) → Owes (slot_at S s) j c → Owes (slot_at next s) j c
      owed s o =
          rw (turned-other S i S.clock S.cells (publishing_or_idle ignoring 0 start commit reads writes) s
          (λ same. subst (λ (y : Slot). Owes y j c) x (subst (λ (t : ℕ). Owes (slot_at S t) j c) same o))) o

      by : (t : Bool) → eqb j commit ≡ t → (j ≤ (cell_at S c).stamp) ⊎ ((s : ℕ) × Owes (slot_at next s) j c)
      by true e =
          let same : j ≡ commit = eqb-true j commit e in
          let writing : writes_cell writes c ≡ true = ap (λ (l : List WriteEntry). writes_cell l c) (sym (ap logs' same ∙ new)) ∙ w in
          inr (
            i,
            rw (turned-own S i S.clock S.cells (publishing_or_idle ignoring 0 start commit reads writes) inside, same)
                (owing-owes ignoring 0 start commit reads writes c (some_written writes c writing) writing),
          )
      by false e =
          ⊎_elim inl (λ o. inr (o.0, owed o.0 o.1))
          (inv.last c j h (ap (λ (l : List WriteEntry). writes_cell l c) (sym (old j (eqb-false j commit e))) ∙ w))

  pub commit-inv : Right M (turn S i S.clock S.cells (publishing_or_idle ignoring 0 start commit reads writes))
      → Inv begun M logs' (turn S i S.clock S.cells (publishing_or_idle ignoring 0 start commit reads writes))
  unfolding next holds
  commit-inv right =
      record {
        right = right;
        above = λ j h. let last = between.1 in old j (λ same. omega arith) ∙ inv.above j h;
        slot_logs =
            turned (λ s y. LogKnown logs' y) S i S.clock S.cells (publishing_or_idle ignoring 0 start commit reads writes) inside
            (owing-log ignoring 0 start commit reads writes logs' new) (λ s other. log-stays (slot_at S s) (other-stamp s other) (inv.slot_logs s));
        words = λ c h. up_to-same logs' logs begun (cell_at S c).stamp c (same_word (cell_at S c).stamp c (not_written c)) ∙ inv.words c h;
        last = next_last;
        later =
            turned (λ s y. (c : ℕ) → 0 < commit_of y → holds y c ≡ true → (cell_at S c).stamp < commit_of y) S i S.clock S.cells
            (publishing_or_idle ignoring 0 start commit reads writes) inside
            (λ c.
            owing-case ignoring 0 start commit reads writes (λ y. 0 < commit_of y → holds y c ≡ true → (cell_at S c).stamp < commit_of y)
            (λ h p held. lower c held) (λ p held. absurd (omega arith)))
            (λ s other. inv.later s);
        slot_reads =
            turned (λ s y. ReadsKnown begun logs' (turn S i S.clock S.cells (publishing_or_idle ignoring 0 start commit reads writes)) y) S i S.clock S.cells
            (publishing_or_idle ignoring 0 start commit reads writes) inside
            (owing-reads ignoring 0 start commit reads writes begun logs' (turn S i S.clock S.cells (publishing_or_idle ignoring 0 start commit reads writes)))
            (λ s other.
            reads-stay begun logs logs' S (turn S i S.clock S.cells (publishing_or_idle ignoring 0 start commit reads writes)) commit-stable (slot_at S s)
            (inv.slot_reads s));
      }
