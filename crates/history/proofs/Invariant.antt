-- What holds all along a history from rest, over the write log of each stamp (`logs`) and the words that the history starts from (`begun`).
use mathlib.Core.Bool.{Bool, true, false}
use mathlib.Core.List.{List, [], ◌∷◌, ◌++◌, map}
use mathlib.Core.Logic.{◌⊎◌}
use mathlib.Core.Path.{◌≡◌, refl}
use Prim.Native.Nat.{ℕ, pred, ◌<◌, ◌≤◌}
use lib.Dec.{eqb}
use lib.ListN.{length, drop}
use lib.Seq.{get_or-set_same, get_or-set_other}
use borrow.Author.Tests.{eqb-true, eqb-false}
use Rattle.slot.specs.declared.ReadEntry.{ReadEntry}
use Rattle.slot.specs.declared.WriteEntry.{WriteEntry}
use Rattle.rules.specs.declared.Cell.{Cell}
use Rattle.slot.specs.Logic.{all, All}
use Rattle.slot.proofs.Logic.{and_left, and_right}
use Rattle.rules.specs.Model.{Model}
use Rattle.rules.specs.State.{State, Slot, idle, opened, locking, twilight, publishing, cell_count, cell_at, slot_at, turn, commit_of}
use Rattle.slot.specs.Logs.{writes_cell}
use Rattle.rules.specs.StateRight.{holds}
use Rattle.history.specs.History.{up_to}
use Rattle.history.proofs.Right.{Right}

-- a slot in twilight that will write the cell with a stamp up to b
abbrev pub LateWrite : Slot → ℕ → ℕ → Type 0
LateWrite idle b c = ⊥
LateWrite (opened start reads writes) b c = ⊥
LateWrite (locking taken start reads writes) b c = ⊥
LateWrite (twilight ignoring start commit reads writes) b c = (commit ≤ b) × (writes_cell writes c ≡ true)
LateWrite (publishing ignoring taken start commit reads writes) b c = ⊥

-- a publishing slot with stamp k that has not published the cell yet
abbrev pub Owes : Slot → ℕ → ℕ → Type 0
Owes idle k c = ⊥
Owes (opened start reads writes) k c = ⊥
Owes (locking taken start reads writes) k c = ⊥
Owes (twilight ignoring start commit reads writes) k c = ⊥
Owes (publishing ignoring taken start commit reads writes) k c = (commit ≡ k) × (writes_cell (drop taken writes) c ≡ true)

-- the log of a slot's stamp: none yet in twilight, its write log from the commit on
abbrev pub LogKnown : (ℕ → List WriteEntry) → Slot → Type 0
LogKnown logs idle = Unit
LogKnown logs (opened start reads writes) = Unit
LogKnown logs (locking taken start reads writes) = Unit
LogKnown logs (twilight ignoring start commit reads writes) = logs commit ≡ []
LogKnown logs (publishing ignoring taken start commit reads writes) = logs commit ≡ writes

module _ (begun : ℕ → ℕ) where
  -- the replay up to b has this word at the cell, now and ever after
  pub record Settled (logs : ℕ → List WriteEntry) (S : State) (b c word : ℕ) : Type 0 where
    pub replayed : up_to logs begun b c ≡ word
    pub past : b ≤ S.clock
    pub still : (s : ℕ) → LateWrite (slot_at S s) b c → ⊥

  -- the read log of a slot: settled at start; in twilight, where it is unmarked, just before the commit stamp
  abbrev pub ReadsKnown : (ℕ → List WriteEntry) → State → Slot → Type 0
  ReadsKnown logs S idle = Unit
  ReadsKnown logs S (opened start reads writes) = All (λ (e : ReadEntry). Settled logs S start e.cell e.word) reads
  ReadsKnown logs S (locking taken start reads writes) = All (λ (e : ReadEntry). Settled logs S start e.cell e.word) reads
  ReadsKnown logs S (twilight ignoring start commit reads writes) =
      All (λ (e : ReadEntry). e.mark ≡ false → Settled logs S (pred commit) e.cell e.word) reads
  ReadsKnown logs S (publishing ignoring taken start commit reads writes) = Unit

  pub record Inv (M : Model) (logs : ℕ → List WriteEntry) (S : State) : Type 0 where
    pub right : Right M S
    -- no stamp above the clock has a log
    pub above : (j : ℕ) → S.clock < j → logs j ≡ []
    pub slot_logs : (s : ℕ) → LogKnown logs (slot_at S s)
    -- a cell has the word of its stamp, and no later log writes it, unless a publishing slot owes it
    pub words : (c : ℕ) → c < cell_count S → up_to logs begun (cell_at S c).stamp c ≡ (cell_at S c).word
    pub last : (c j : ℕ) → c < cell_count S → writes_cell (logs j) c ≡ true → (j ≤ (cell_at S c).stamp) ⊎ ((s : ℕ) × Owes (slot_at S s) j c)
    -- a holder's commit stamp is above the cell's stamp
    pub later : (s c : ℕ) → 0 < commit_of (slot_at S s) → holds (slot_at S s) c ≡ true → (cell_at S c).stamp < commit_of (slot_at S s)
    pub slot_reads : (s : ℕ) → ReadsKnown logs S (slot_at S s)

  -- what is settled stays so
  abbrev pub Stable : (ℕ → List WriteEntry) → State → (ℕ → List WriteEntry) → State → Type 0
  Stable logs S logs' T = (b c word : ℕ) → Settled logs S b c word → Settled logs' T b c word

-- the slots after a turn: the one that turned, and the others
pub turned : (P : ℕ → Slot → Type 0) (S : State) (i clock : ℕ) (cells : List Cell) (x : Slot) → i < length S.slots
    → P i x → ((s : ℕ) → (s ≡ i → ⊥) → P s (slot_at S s)) → (s : ℕ) → P s (slot_at (turn S i clock cells x) s)
turned P S i clock cells x h own others s = by (eqb s i) refl
  where
    by : (b : Bool) → eqb s i ≡ b → P s (slot_at (turn S i clock cells x) s)
    by true e =
        let same : s ≡ i = eqb-true s i e in
        rw (same, get_or-set_same S.slots i x idle h) own
    by false e = rw (get_or-set_other S.slots i s x idle (eqb-false s i e)) (others s (eqb-false s i e))

-- the slot that turned
pub turned-own : (S : State) (i clock : ℕ) (cells : List Cell) (x : Slot) → i < length S.slots → slot_at (turn S i clock cells x) i ≡ x
turned-own S i clock cells x h = get_or-set_same S.slots i x idle h

-- any other slot
pub turned-other : (S : State) (i clock : ℕ) (cells : List Cell) (x : Slot) (s : ℕ) → (s ≡ i → ⊥) → slot_at (turn S i clock cells x) s ≡ slot_at S s
turned-other S i clock cells x s other = get_or-set_other S.slots i s x idle other

module _ {A : Type 0} where
  pub All-map : (P Q : A → Type 0) → ((x : A) → P x → Q x) → (l : List A) → All P l → All Q l
  All-map P Q f [] a = tt
  All-map P Q f (x ∷ l) a = (f x a.0, All-map P Q f l a.1)

  pub All-both : (P Q : A → Type 0) (l : List A) → All P l → All Q l → All (λ x. P x × Q x) l
  All-both P Q [] a b = tt
  All-both P Q (x ∷ l) a b = ((a.0, b.0), All-both P Q l a.1 b.1)

  pub All-snoc : (P : A → Type 0) (l : List A) (x : A) → All P l → P x → All P (l ++ (x ∷ []))
  All-snoc P [] x a p = (p, tt)
  All-snoc P (y ∷ l) x a p = (a.0, All-snoc P l x a.1 p)

  pub All-mapped : {B : Type 0} (P : A → Type 0) (Q : B → Type 0) (g : A → B) → ((x : A) → P x → Q (g x)) → (l : List A) → All P l → All Q (map g l)
  All-mapped P Q g f [] a = tt
  All-mapped P Q g f (x ∷ l) a = (f x a.0, All-mapped P Q g f l a.1)

  pub all-each : (f : A → Bool) (l : List A) → all f l ≡ true → All (λ x. f x ≡ true) l
  unfolding all
  all-each f [] p = tt
  all-each f (x ∷ l) p = (and_left _ _ p, all-each f l (and_right _ _ p))
