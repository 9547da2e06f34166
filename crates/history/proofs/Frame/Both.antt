-- Two outcomes that match, and for each test of a row: two rows that are asked the same and match in how they go on match themselves.
use mathlib.Core.Bool.{Bool, true, false, cond}
use mathlib.Core.List.{List}
use mathlib.Core.Option.{Option, none, some}
use mathlib.Core.Path.{◌≡◌, refl, subst}
use Prim.Native.Nat.{ℕ}
use lib.Dec.{T, eqb}
use lib.ListN.{length}
use Rattle.call.specs.declared.Answer.{Answer}
use Rattle.call.specs.declared.Refusal.{Refusal}
use Rattle.call.specs.Answer.{answer_code}
use Rattle.call.specs.declared.Refusal.TheVariants.{NotAllowed, NotInLog}
use Rattle.slot.specs.declared.ReadEntry.{ReadEntry}
use Rattle.slot.specs.declared.WriteEntry.{WriteEntry}
use Rattle.rules.specs.State.{State, Slot, idle, opened, locking, twilight, publishing, cell_at, slot_at}
use Rattle.history.proofs.Cases.{OfStep}
use Rattle.rules.specs.Outcome.{Outcome, refused, accepted, when_idle, when_open, when_locking, when_twilight, when_publishing, when_uncommitted, refuse_if, in_log, found_or}

-- an acceptance has code 0 or 13
abbrev pub Acceptance : Answer → Type 0
Acceptance r = T (cond (eqb (answer_code r) 0) true (eqb (answer_code r) 13))

-- what is the same after both
pub record SameAfter (S S' : State) (i : ℕ) (T T' : State) : Type 0 where
  pub clock : T.clock ≡ T'.clock
  pub slot : length S.slots ≡ length S'.slots → slot_at T i ≡ slot_at T' i
  pub cells : (c : ℕ) → cell_at S c ≡ cell_at S' c → cell_at T c ≡ cell_at T' c

-- both steps of slot i, from S and from S', are refused or accepted with one reply
pub data Matches (S S' : State) (i : ℕ) : Outcome → Outcome → Type 0 where
  both-refused : {r r' : Refusal} → r ≡ r' → OfStep r → Matches S S' i (refused r) (refused r')
  both-accepted : {r r' : Answer} {T T' : State} → r ≡ r' → Acceptance r → SameAfter S S' i T T' → Matches S S' i (accepted r T) (accepted r' T')

module _ {S S' : State} {i : ℕ} where
  not-allowed : Matches S S' i (refused NotAllowed) (refused NotAllowed)
  not-allowed = both-refused {r = NotAllowed} refl (tt, tt)

  pub both_cond : (t t' : Bool) (a a' b b' : Outcome) → t ≡ t' → (t ≡ true → Matches S S' i a a') → (t ≡ false → Matches S S' i b b') → Matches S S' i (cond t a b) (cond t' a' b')
  both_cond t t' a a' b b' e f g = subst (λ (u : Bool). Matches S S' i (cond t a b) (cond u a' b')) e (by t f g)
    where
      by : (t : Bool) → (t ≡ true → Matches S S' i a a') → (t ≡ false → Matches S S' i b b') → Matches S S' i (cond t a b) (cond t a' b')
      by true f g = f refl
      by false f g = g refl

  pub both-refuse : (t t' : Bool) (r r' : Refusal) (o o' : Outcome) → t ≡ t' → r ≡ r' → OfStep r → (t ≡ false → Matches S S' i o o') → Matches S S' i (refuse_if t r o) (refuse_if t' r' o')
  both-refuse t t' r r' o o' e d c f = both_cond t t' (refused r) (refused r') o o' e (λ p. both-refused d c) f

  pub both_found : {A : Type 0} (e e' : Option A) (o o' : A → Outcome) (other other' : Outcome) → e ≡ e' → ((x : A) → e ≡ some x → Matches S S' i (o x) (o' x)) → (e ≡ none → Matches S S' i other other')
      → Matches S S' i (found_or e o other) (found_or e' o' other')
  both_found {A} e e' o o' other other' d f g = subst (λ (u : Option A). Matches S S' i (found_or e o other) (found_or u o' other')) d (by e f g)
    where
      by : (e : Option A) → ((x : A) → e ≡ some x → Matches S S' i (o x) (o' x)) → (e ≡ none → Matches S S' i other other') → Matches S S' i (found_or e o other) (found_or e o' other')
      by none f g = g refl
      by (some x) f g = f x refl

  pub both-log : {A : Type 0} (e : Option A) (o o' : A → Outcome) → ((x : A) → e ≡ some x → Matches S S' i (o x) (o' x)) → Matches S S' i (in_log e o) (in_log e o')
  both-log none o o' f = both-refused {r = NotInLog} refl (tt, tt)
  both-log (some x) o o' f = f x refl

  pub both-idle : (x : Slot) (o o' : Outcome) → (x ≡ idle → Matches S S' i o o') → Matches S S' i (when_idle x o) (when_idle x o')
  both-idle idle o o' f = f refl
  both-idle (opened start reads writes) o o' f = not-allowed
  both-idle (locking taken start reads writes) o o' f = not-allowed
  both-idle (twilight ignoring start commit reads writes) o o' f = not-allowed
  both-idle (publishing ignoring taken start commit reads writes) o o' f = not-allowed

  pub both-open : (x : Slot) (o o' : ℕ → List ReadEntry → List WriteEntry → Outcome)
      → ((start : ℕ) (reads : List ReadEntry) (writes : List WriteEntry) → x ≡ opened start reads writes → Matches S S' i (o start reads writes) (o' start reads writes))
      → Matches S S' i (when_open x o) (when_open x o')
  both-open idle o o' f = not-allowed
  both-open (opened start reads writes) o o' f = f start reads writes refl
  both-open (locking taken start reads writes) o o' f = not-allowed
  both-open (twilight ignoring start commit reads writes) o o' f = not-allowed
  both-open (publishing ignoring taken start commit reads writes) o o' f = not-allowed

  pub both-locking : (x : Slot) (o o' : ℕ → ℕ → List ReadEntry → List WriteEntry → Outcome)
      → ((taken start : ℕ) (reads : List ReadEntry) (writes : List WriteEntry) → x ≡ locking taken start reads writes
      → Matches S S' i (o taken start reads writes) (o' taken start reads writes))
      → Matches S S' i (when_locking x o) (when_locking x o')
  both-locking idle o o' f = not-allowed
  both-locking (opened start reads writes) o o' f = not-allowed
  both-locking (locking taken start reads writes) o o' f = f taken start reads writes refl
  both-locking (twilight ignoring start commit reads writes) o o' f = not-allowed
  both-locking (publishing ignoring taken start commit reads writes) o o' f = not-allowed

  pub both-twilight : (x : Slot) (o o' : Bool → ℕ → ℕ → List ReadEntry → List WriteEntry → Outcome)
      → ((ignoring : Bool) (start commit : ℕ) (reads : List ReadEntry) (writes : List WriteEntry) → x ≡ twilight ignoring start commit reads writes
      → Matches S S' i (o ignoring start commit reads writes) (o' ignoring start commit reads writes))
      → Matches S S' i (when_twilight x o) (when_twilight x o')
  both-twilight idle o o' f = not-allowed
  both-twilight (opened start reads writes) o o' f = not-allowed
  both-twilight (locking taken start reads writes) o o' f = not-allowed
  both-twilight (twilight ignoring start commit reads writes) o o' f = f ignoring start commit reads writes refl
  both-twilight (publishing ignoring taken start commit reads writes) o o' f = not-allowed

  pub both-publishing : (x : Slot) (o o' : Bool → ℕ → ℕ → ℕ → List ReadEntry → List WriteEntry → Outcome)
      → ((ignoring : Bool) (taken start commit : ℕ) (reads : List ReadEntry) (writes : List WriteEntry) → x ≡ publishing ignoring taken start commit reads writes
      → Matches S S' i (o ignoring taken start commit reads writes) (o' ignoring taken start commit reads writes))
      → Matches S S' i (when_publishing x o) (when_publishing x o')
  both-publishing idle o o' f = not-allowed
  both-publishing (opened start reads writes) o o' f = not-allowed
  both-publishing (locking taken start reads writes) o o' f = not-allowed
  both-publishing (twilight ignoring start commit reads writes) o o' f = not-allowed
  both-publishing (publishing ignoring taken start commit reads writes) o o' f = f ignoring taken start commit reads writes refl

  pub both-uncommitted : (x : Slot) (o o' : Outcome) → Matches S S' i o o' → Matches S S' i (when_uncommitted x o) (when_uncommitted x o')
  both-uncommitted idle o o' f = not-allowed
  both-uncommitted (opened start reads writes) o o' f = f
  both-uncommitted (locking taken start reads writes) o o' f = f
  both-uncommitted (twilight ignoring start commit reads writes) o o' f = f
  both-uncommitted (publishing ignoring taken start commit reads writes) o o' f = not-allowed
