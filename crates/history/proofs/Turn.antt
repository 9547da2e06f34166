-- A slot that turns without committing or publishing keeps the invariant, if what is new of it holds: ten of the moves are such turns.
use mathlib.Core.Bool.{true, false}
use mathlib.Core.List.{List}
use mathlib.Core.Logic.{inl, inr, ⊎_elim}
use mathlib.Core.Path.{◌≡◌, subst}
use Prim.Native.Nat.{ℕ, pred, ◌<◌, ◌≤◌}
use native.Mathlib.Omega.{arith}
use lib.ListN.{length, get_or}
use Rattle.slot.specs.declared.ReadEntry.{ReadEntry}
use Rattle.slot.specs.declared.WriteEntry.{WriteEntry}
use Rattle.rules.specs.declared.Cell.{Cell}
use Rattle.slot.specs.Logic.{All}
use Rattle.rules.specs.Model.{Model}
use Rattle.rules.specs.State.{State, Slot, idle, opened, locking, twilight, publishing, cell_count, cell_at, slot_at, no_cell, turn, commit_of}
use Rattle.rules.specs.StateRight.{holds}
use Rattle.history.proofs.Right.{Right}
use Rattle.history.proofs.Invariant.{LateWrite, Owes, LogKnown, Settled, ReadsKnown, Inv, Stable, turned, turned-other, All-map}

-- what is known of entries stays so where what is settled does
module _ (begun : ℕ → ℕ) (logs logs' : ℕ → List WriteEntry) (S T : State) (stable : Stable begun logs S logs' T) where
  pub each-stays : (b : ℕ) (reads : List ReadEntry) → All (λ (e : ReadEntry). Settled begun logs S b e.cell e.word) reads
      → All (λ (e : ReadEntry). Settled begun logs' T b e.cell e.word) reads
  each-stays b =
      All-map (λ (e : ReadEntry). Settled begun logs S b e.cell e.word) (λ (e : ReadEntry). Settled begun logs' T b e.cell e.word)
      (λ e. stable b e.cell e.word)

  pub unmarked-stays : (b : ℕ) (reads : List ReadEntry) → All (λ (e : ReadEntry). e.mark ≡ false → Settled begun logs S b e.cell e.word) reads
      → All (λ (e : ReadEntry). e.mark ≡ false → Settled begun logs' T b e.cell e.word) reads
  unmarked-stays b =
      All-map (λ (e : ReadEntry). e.mark ≡ false → Settled begun logs S b e.cell e.word)
      (λ (e : ReadEntry). e.mark ≡ false → Settled begun logs' T b e.cell e.word)
      (λ e known m. stable b e.cell e.word (known m))

  pub reads-stay : (x : Slot) → ReadsKnown begun logs S x → ReadsKnown begun logs' T x
  reads-stay idle known = tt
  reads-stay (opened start reads writes) known = each-stays start reads known
  reads-stay (locking taken start reads writes) known = each-stays start reads known
  reads-stay (twilight ignoring start commit reads writes) known = unmarked-stays (pred commit) reads known
  reads-stay (publishing ignoring taken start commit reads writes) known = tt

module _ (begun : ℕ → ℕ) (M : Model) (logs : ℕ → List WriteEntry) (S : State) (i clock : ℕ) (cells : List Cell) (x : Slot) where
  -- what is new of the slot and the cells
  pub record Turn : Type 0 where
    pub inside : i < length S.slots
    pub rises : S.clock ≤ clock
    pub count : length cells ≡ cell_count S
    pub same_word : (c : ℕ) → (get_or cells c no_cell).word ≡ (cell_at S c).word
    pub same_stamp : (c : ℕ) → (get_or cells c no_cell).stamp ≡ (cell_at S c).stamp
    -- it writes no more than before with a stamp up to the clock
    pub late : (b c : ℕ) → b ≤ S.clock → LateWrite x b c → LateWrite (slot_at S i) b c
    -- it was not publishing
    pub owed_nothing : (k c : ℕ) → Owes (slot_at S i) k c → ⊥
    pub log : LogKnown logs x
    pub later : (c : ℕ) → 0 < commit_of x → holds x c ≡ true → (cell_at S c).stamp < commit_of x

  module _ (t : Turn) where
    -- what is settled stays so
    pub turn-stable : Stable begun logs S logs (turn S i clock cells x)
    turn-stable b c word known =
        let rise = t.rises in
        let before = known.past in
        record {
          replayed = known.replayed;
          past = omega arith;
          still =
              turned (λ s y. LateWrite y b c → ⊥) S i clock cells x t.inside
              (λ w. known.still i (t.late b c known.past w))
              (λ s other. known.still s);
        }

    -- what another slot owes it owes still
    still-owed : (s k c : ℕ) → Owes (slot_at S s) k c → Owes (slot_at (turn S i clock cells x) s) k c
    still-owed s k c o =
        rw (turned-other S i clock cells x s (λ same. t.owed_nothing k c (subst (λ (j : ℕ). Owes (slot_at S j) k c) same o))) o

    pub turn-inv : Inv begun M logs S → Right M (turn S i clock cells x) → ReadsKnown begun logs (turn S i clock cells x) x
        → Inv begun M logs (turn S i clock cells x)
    turn-inv inv right reads =
        record {
          right = right;
          above = λ j h. let rise = t.rises in inv.above j (omega arith);
          slot_logs = turned (λ s y. LogKnown logs y) S i clock cells x t.inside t.log (λ s other. inv.slot_logs s);
          words = λ c h. rw (t.same_word c, t.same_stamp c) (inv.words c (rw t.count at h));
          last = λ c j h w. ⊎_elim (λ l. inl (rw (t.same_stamp c) l)) (λ o. inr (o.0, still-owed o.0 j c o.1)) (inv.last c j (rw t.count at h) w);
          later =
              turned (λ s y. (c : ℕ) → 0 < commit_of y → holds y c ≡ true → (get_or cells c no_cell).stamp < commit_of y) S i clock cells x t.inside
              (λ c p held. rw (t.same_stamp c) (t.later c p held))
              (λ s other c p held. rw (t.same_stamp c) (inv.later s c p held));
          slot_reads =
              turned (λ s y. ReadsKnown begun logs (turn S i clock cells x) y) S i clock cells x t.inside reads
              (λ s other. reads-stay begun logs logs S (turn S i clock cells x) turn-stable (slot_at S s) (inv.slot_reads s));
        }
