-- A cell that each of its writers raises by one has what it began with and as many more as there are writers. From demand 3 alone.
use mathlib.Core.Bool.{Bool, true, false, not}
use mathlib.Core.List.{List, [], ◌∷◌}
use mathlib.Core.Path.{◌≡◌, refl, sym, ◌∙◌, ap, ap₂}
use Prim.Native.Nat.{ℕ, zero, suc, ◌+◌, ◌<◌, ◌≤◌}
use native.Mathlib.Omega.{arith}
use lib.Dec.{eqb}
use borrow.Author.Tests.{eqb-false, eq-eqb, ne_eqb, not-true}
use Rattle.slot.specs.declared.WriteEntry.{WriteEntry}
use Rattle.slot.specs.Logic.{any, pairwise, All}
use Rattle.slot.specs.Logs.{writes_cell}
use Rattle.slot.proofs.Logic.{and_left, and_right}
use Rattle.rules.specs.State.{State, cell_at}
use Rattle.history.specs.History.{Event, Commit, commits, log_at, up_to, replay}
use Rattle.history.proofs.Keeps.Lists.{same_or_not}
use Rattle.history.proofs.Invariant.{all-each}
use Rattle.history.proofs.Replay.{quiet}
use Rattle.levelling.specs.CountsUp.{RaisesOne, counted, times_written, writers}

-- a stamp that does not write the cell leaves its word
pub stays_at : (S : State) (events : List Event) (c k : ℕ) → writes_cell (log_at (commits events) (suc k)) c ≡ false
    → replay S events (suc k) c ≡ replay S events k c
stays_at S events c k w =
    quiet (log_at (commits events)) (λ d. (cell_at S d).word) k (suc k) c (omega arith)
    (λ j above last. let same : j ≡ suc k = omega arith in rw same w)

module _ (S : State) (events : List Event) (c : ℕ) (raises : (k : ℕ) → writes_cell (log_at (commits events) k) c ≡ true → RaisesOne S events k c) where
  -- a stamp that writes the cell counts as one, any other as none
  next-count : (b : ℕ) → replay S events (suc b) c ≡ replay S events b c + counted (log_at (commits events) (suc b)) c
  next-count b = by (writes_cell (log_at (commits events) (suc b)) c) refl
    where
      by : (t : Bool) → writes_cell (log_at (commits events) (suc b)) c ≡ t → replay S events (suc b) c ≡ replay S events b c + counted (log_at (commits events) (suc b)) c
      by true w = let raised = (raises (suc b) w).raised in rw w (omega arith)
      by false w = let kept = stays_at S events c b w in rw w (omega arith)

  -- .. so up to any stamp
  pub none-lost : (b : ℕ) → replay S events b c ≡ (cell_at S c).word + times_written (commits events) b c
  unfolding times_written up_to
  none-lost zero = omega arith
  none-lost (suc b) = let here = next-count b in let before = none-lost b in omega arith

-- the log of a stamp: that of the first commit, if the stamp is its own, else the one that the others have
log-own : (x : Commit) (L : List Commit) (k : ℕ) → x.stamp ≡ k → log_at (x ∷ L) k ≡ x.writes
unfolding log_at
log-own x L k e = rw (eq-eqb x.stamp k e)

log-other : (x : Commit) (L : List Commit) (k : ℕ) → (x.stamp ≡ k → ⊥) → log_at (x ∷ L) k ≡ log_at L k
unfolding log_at
log-other x L k e = rw (ne_eqb x.stamp k e)

-- a stamp that no commit has
no-log : (k : ℕ) (L : List Commit) → All (λ (y : Commit). not (eqb k y.stamp) ≡ true) L → log_at L k ≡ []
unfolding log_at
no-log k [] a = refl
no-log k (y ∷ L) a = log-other y L k (λ same. eqb-false k y.stamp (not-true _ a.0) (sym same)) ∙ no-log k L a.1

-- without commits nothing is written
none_written : (n c : ℕ) → times_written [] n c ≡ 0
unfolding times_written log_at writes_cell any
none_written zero c = refl
none_written (suc n) c = let before = none_written n c in omega arith

module _ (x : Commit) (L : List Commit) (c : ℕ) where
  -- one commit more does not count before its stamp ..
  not_yet : (n : ℕ) → n < x.stamp → times_written (x ∷ L) n c ≡ times_written L n c
  unfolding times_written
  not_yet zero h = refl
  not_yet (suc n) h = ap₂ ◌+◌ (not_yet n (omega arith)) (ap (λ (l : List WriteEntry). counted l c) (log-other x L (suc n) (λ same. omega arith)))

  -- .. and counts once from there on
  one_more : log_at L x.stamp ≡ [] → (n : ℕ) → 0 < x.stamp → x.stamp ≤ n → times_written (x ∷ L) n c ≡ counted x.writes c + times_written L n c
  unfolding times_written writes_cell any
  one_more own zero positive h = absurd (omega arith)
  one_more own (suc n) positive h =
      same_or_not _ x.stamp (suc n)
      (λ same.
      let before = not_yet n (omega arith) in
      let here = ap (λ (l : List WriteEntry). counted l c) (log-own x L (suc n) same) in
      let alone = ap (λ (l : List WriteEntry). counted l c) (ap (log_at L) (sym same) ∙ own) in
      omega arith)
      (λ other.
      let before = one_more own n positive (omega (arith, other)) in
      let here = ap (λ (l : List WriteEntry). counted l c) (log-other x L (suc n) other) in
      omega arith)

-- where stamps are apart and none is past n, each commit is counted once
pub all-counted : (L : List Commit) (first n c : ℕ) → pairwise (λ (x y : Commit). not (eqb x.stamp y.stamp)) L ≡ true
    → All (λ (x : Commit). (first < x.stamp) × (x.stamp ≤ n)) L → times_written L n c ≡ writers L c
unfolding pairwise writers
all-counted [] first n c apart within = none_written n c
all-counted (x ∷ L) first n c apart within =
    let above = within.0.0 in
    let others = all-counted L first n c (and_right _ _ apart) within.1 in
    one_more x L c (no-log x.stamp L (all-each _ L (and_left _ _ apart))) n (omega arith) within.0.1
    ∙ ap (λ k. counted x.writes c + k) others
