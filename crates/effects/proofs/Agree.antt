-- The `co` and `r` lines of a trace, event by event.
use mathlib.Core.Bool.{Bool, true, false, cond}
use mathlib.Core.List.{List, [], ◌∷◌, ◌++◌, map, map-append, flat_map}
use mathlib.Core.Path.{◌≡◌, refl, sym, ap₂, ◌∙◌}
use Prim.Native.Nat.{ℕ}
use native.Mathlib.Omega.{arith}
use borrow.Author.Tests.{eqb-true, ne_eqb}
use Rattle.slot.proofs.Logic.{and_left}
use Rattle.rules.specs.State.{writes_of, commit_of}
use Rattle.history.specs.History.{Event, own_slot, accepts, from_shared, committed_by, commits, SharedRead, read_by, shared_reads}
use Rattle.effects.specs.Effects.{Effect, begun, read_shared, reloaded, committed, aborted, written_cells, aborts, number_of, effect_of, effects_after}
use Rattle.apart.proofs.Tests.{fails}
use Rattle.effects.proofs.Flat.{both-flat}
use Rattle.effects.specs.Agree.{commit_shown, commits_shown, shown_of, cell_shown, cells_shown, Agrees}

-- the cell of a read
abbrev cell_of : SharedRead → ℕ
cell_of r = r.cell

-- one event: the tests of its effect
module _ (number : ℕ) (e : Event) where
  abbrev tested : Bool → Bool → Bool → Bool → Bool → List Effect
  tested a b c d f =
      let slot = e.call.slot in
      cond a (begun slot number ∷ [])
      (cond b (read_shared slot number e.call.cell ∷ [])
      (cond c (reloaded slot number ∷ [])
      (cond d (committed slot number (commit_of (own_slot e)) (written_cells (writes_of (own_slot e))) ∷ [])
      (cond f (aborted slot number ∷ [])
      []))))

  -- a commit is shown if no test before it holds
  commit-shown : (a b c d f : Bool) → (d ≡ true → (a ≡ false) × (b ≡ false) × (c ≡ false))
      → commits_shown (tested a b c d f) ≡ map shown_of (cond d (committed_by (own_slot e) ∷ []) [])
  unfolding flat_map
  commit-shown a b c true f alone = rw ((alone refl).0, (alone refl).1, (alone refl).2)
  commit-shown true b c false f alone = refl
  commit-shown false true c false f alone = refl
  commit-shown false false true false f alone = refl
  commit-shown false false false false true alone = refl
  commit-shown false false false false false alone = refl

  -- .. and so is a read
  read-shown : (a b c d f : Bool) → (b ≡ true → a ≡ false) → cells_shown (tested a b c d f) ≡ map cell_of (cond b (read_by e ∷ []) [])
  unfolding flat_map
  read-shown a true c d f alone = rw (alone refl)
  read-shown true false c d f alone = refl
  read-shown false false true d f alone = refl
  read-shown false false false true f alone = refl
  read-shown false false false false true alone = refl
  read-shown false false false false false alone = refl

  -- a call has one step number
  one-step : (n m : ℕ) → (n ≡ m → ⊥) → accepts n e ≡ true → accepts m e ≡ false
  one-step n m apart p =
      let is : e.call.step ≡ n = eqb-true _ n (and_left _ _ p) in
      fails _ _ (ne_eqb e.call.step m (λ q. omega arith))

  here-commits : commits_shown (effect_of number e) ≡ map shown_of (cond (accepts 12 e) (committed_by (own_slot e) ∷ []) [])
  unfolding effect_of
  here-commits =
      commit-shown (accepts 1 e) (from_shared e) (accepts 10 e) (accepts 12 e) (aborts e)
      (λ p. (one-step 12 1 (λ q. omega arith) p, fails _ _ (one-step 12 2 (λ q. omega arith) p), one-step 12 10 (λ q. omega arith) p))

  here_reads : cells_shown (effect_of number e) ≡ map cell_of (cond (from_shared e) (read_by e ∷ []) [])
  unfolding effect_of
  here_reads =
      read-shown (accepts 1 e) (from_shared e) (accepts 10 e) (accepts 12 e) (aborts e) (λ p. one-step 2 1 (λ q. omega arith) (and_left _ _ p))

-- All events, after any past: what is gathered of the events one by one is what their effects show
module _ {A : Type 0} (shown : Effect → List A) (here : Event → List A) (gather : List Event → List A) (none : gather [] ≡ [])
    (more : (e : Event) (events : List Event) → gather (e ∷ events) ≡ here e ++ gather events) (one : (number : ℕ) (e : Event) → flat_map shown (effect_of number e) ≡ here e) where
  all-agree : (past events : List Event) → flat_map shown (effects_after past events) ≡ gather events
  unfolding effects_after flat_map
  all-agree past [] = sym none
  all-agree past (e ∷ events) =
      let number = number_of (e ∷ past) e.call.slot in
      both-flat shown (effect_of number e) (effects_after (e ∷ past) events)
      ∙ ap₂ ◌++◌ (one number e) (all-agree (e ∷ past) events)
      ∙ sym (more e events)

commits-more : (e : Event) (events : List Event)
    → map shown_of (commits (e ∷ events)) ≡ map shown_of (cond (accepts 12 e) (committed_by (own_slot e) ∷ []) []) ++ map shown_of (commits events)
unfolding commits
commits-more e events = map-append shown_of (cond (accepts 12 e) (committed_by (own_slot e) ∷ []) []) (commits events)

reads_more : (e : Event) (events : List Event) → map cell_of (shared_reads (e ∷ events)) ≡ map cell_of (cond (from_shared e) (read_by e ∷ []) []) ++ map cell_of (shared_reads events)
unfolding shared_reads
reads_more e events = map-append cell_of (cond (from_shared e) (read_by e ∷ []) []) (shared_reads events)

pub agrees : Agrees
unfolding commits shared_reads
agrees =
    record {
      commits_agree = all-agree commit_shown _ (λ events. map shown_of (commits events)) refl commits-more here-commits [];
      reads_agree = all-agree cell_shown _ (λ events. map cell_of (shared_reads events)) refl reads_more here_reads [];
    }
