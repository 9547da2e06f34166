-- The eliminators of a row's tests where all bare refusals are alike: what holds of each of them, and of how the step goes on, holds of the row.
use mathlib.Core.Bool.{Bool, true, false, not, cond}
use mathlib.Core.List.{List}
use mathlib.Core.Option.{Option, none, some}
use mathlib.Core.Path.{◌≡◌}
use Prim.Native.Nat.{ℕ}
use lib.Dec.{T, eqb, leb}
use Rattle.call.specs.declared.Refusal.{Refusal}
use Rattle.call.specs.Answer.{refusal_code}
use Rattle.call.specs.declared.Refusal.TheVariants.{NotAllowed, NotInLog}
use Rattle.slot.specs.declared.ReadEntry.{ReadEntry}
use Rattle.slot.specs.declared.WriteEntry.{WriteEntry}
use Rattle.rules.specs.State.{Slot, idle, opened, locking, twilight, publishing}
use Rattle.rules.proofs.Cases as rules
use Rattle.rules.specs.Outcome.{Outcome, refused, when_idle, when_open, when_locking, when_twilight, when_publishing, when_uncommitted, refuse_if, in_log, found_or}

-- not committed yet: open, locking or twilight
pub data Uncommitted : Slot → Type 0 where
  is_open : {start : ℕ} {reads : List ReadEntry} {writes : List WriteEntry} → Uncommitted (opened start reads writes)
  is-locking : {taken start : ℕ} {reads : List ReadEntry} {writes : List WriteEntry} → Uncommitted (locking taken start reads writes)
  is-twilight : {ignoring : Bool} {start commit : ℕ} {reads : List ReadEntry} {writes : List WriteEntry} → Uncommitted (twilight ignoring start commit reads writes)

-- a refusal of a step: its code is none of 0, 1 and 13
abbrev pub OfStep : Refusal → Type 0
OfStep r = T (leb 2 (refusal_code r)) × T (not (eqb (refusal_code r) 13))

-- .. and doesn't say who is in the way: nor is it 11 or 14
abbrev pub Bare : Refusal → Type 0
Bare r = OfStep r × T (not (eqb (refusal_code r) 11)) × T (not (eqb (refusal_code r) 14))

-- the proof for any refusal whose code computes: `NotAllowed` stands for them
abbrev pub bare : Bare NotAllowed
bare = ((tt, tt), tt, tt)

module _ (P : Outcome → Type 0) (refusal : (r : Refusal) → Bare r → P (refused r)) where
  pub cond-case : (t : Bool) (a b : Outcome) → (t ≡ true → P a) → (t ≡ false → P b) → P (cond t a b)
  cond-case = rules.cond-case P

  pub refuse-case : (t : Bool) (r : Refusal) → Bare r → (o : Outcome) → (t ≡ false → P o) → P (refuse_if t r o)
  refuse-case t r k o f = cond-case t (refused r) o (λ e. refusal r k) f

  pub log-case : {A : Type 0} (e : Option A) (o : A → Outcome) → ((x : A) → e ≡ some x → P (o x)) → P (in_log e o)
  log-case e o f = rules.log-case P e o (λ p. refusal NotInLog bare) f

  pub found-case : {A : Type 0} (e : Option A) (o : A → Outcome) (other : Outcome) → ((x : A) → e ≡ some x → P (o x)) → (e ≡ none → P other) → P (found_or e o other)
  found-case = rules.found-case P

  pub idle-case : (x : Slot) (o : Outcome) → (x ≡ idle → P o) → P (when_idle x o)
  idle-case x o f = rules.idle-case P x o (λ p. refusal NotAllowed bare) f

  pub open-case : (x : Slot) (o : ℕ → List ReadEntry → List WriteEntry → Outcome)
      → ((start : ℕ) (reads : List ReadEntry) (writes : List WriteEntry) → x ≡ opened start reads writes → P (o start reads writes)) → P (when_open x o)
  open-case x o f = rules.open-case P x o (λ p. refusal NotAllowed bare) f

  pub locking-case : (x : Slot) (o : ℕ → ℕ → List ReadEntry → List WriteEntry → Outcome)
      → ((taken start : ℕ) (reads : List ReadEntry) (writes : List WriteEntry) → x ≡ locking taken start reads writes → P (o taken start reads writes))
      → P (when_locking x o)
  locking-case x o f = rules.locking-case P x o (λ p. refusal NotAllowed bare) f

  pub twilight-case : (x : Slot) (o : Bool → ℕ → ℕ → List ReadEntry → List WriteEntry → Outcome)
      → ((ignoring : Bool) (start commit : ℕ) (reads : List ReadEntry) (writes : List WriteEntry) → x ≡ twilight ignoring start commit reads writes
      → P (o ignoring start commit reads writes))
      → P (when_twilight x o)
  twilight-case x o f = rules.twilight-case P x o (λ p. refusal NotAllowed bare) f

  pub publishing-case : (x : Slot) (o : Bool → ℕ → ℕ → ℕ → List ReadEntry → List WriteEntry → Outcome)
      → ((ignoring : Bool) (taken start commit : ℕ) (reads : List ReadEntry) (writes : List WriteEntry) → x ≡ publishing ignoring taken start commit reads writes
      → P (o ignoring taken start commit reads writes))
      → P (when_publishing x o)
  publishing-case x o f = rules.publishing-case P x o (λ p. refusal NotAllowed bare) f

  pub uncommitted-case : (x : Slot) (o : Outcome) → (Uncommitted x → P o) → P (when_uncommitted x o)
  uncommitted-case idle o f = refusal NotAllowed bare
  uncommitted-case (opened start reads writes) o f = f is_open
  uncommitted-case (locking taken start reads writes) o f = f is-locking
  uncommitted-case (twilight ignoring start commit reads writes) o f = f is-twilight
  uncommitted-case (publishing ignoring taken start commit reads writes) o f = refusal NotAllowed bare
