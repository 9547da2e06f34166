-- One eliminator for each test that a step's row is made of: what holds of the refusal where the test refuses, and of how the step goes on where it doesn't, holds
-- of the row.
use mathlib.Core.Bool.{Bool, true, false, cond}
use mathlib.Core.List.{List}
use mathlib.Core.Option.{Option, none, some}
use mathlib.Core.Path.{◌≡◌, refl}
use Prim.Native.Nat.{ℕ}
use Rattle.call.specs.declared.Refusal.TheVariants.{NotAllowed, NotInLog}
use Rattle.slot.specs.declared.ReadEntry.{ReadEntry}
use Rattle.slot.specs.declared.WriteEntry.{WriteEntry}
use Rattle.slot.specs.Logic.{◌or◌}
use Rattle.rules.specs.State.{Slot, idle, opened, locking, twilight, publishing, is_open, is_locking, is_twilight, is_publishing}
use Rattle.rules.specs.StateRight.{is_idle}
use Rattle.rules.specs.Outcome.{Outcome, refused, when_idle, when_open, when_locking, when_twilight, when_publishing, when_uncommitted, in_log, found_or}

module _ (P : Outcome → Type 0) where
  pub cond-case : (t : Bool) (a b : Outcome) → (t ≡ true → P a) → (t ≡ false → P b) → P (cond t a b)
  cond-case true a b f g = f refl
  cond-case false a b f g = g refl

  pub found-case : {A : Type 0} (e : Option A) (o : A → Outcome) (other : Outcome) → ((x : A) → e ≡ some x → P (o x)) → (e ≡ none → P other) → P (found_or e o other)
  found-case none o other f g = g refl
  found-case (some x) o other f g = f x refl

  pub log-case : {A : Type 0} (e : Option A) (o : A → Outcome) → (e ≡ none → P (refused NotInLog)) → ((x : A) → e ≡ some x → P (o x)) → P (in_log e o)
  log-case none o f g = f refl
  log-case (some x) o f g = g x refl

  pub idle-case : (x : Slot) (o : Outcome) → (is_idle x ≡ false → P (refused NotAllowed)) → (x ≡ idle → P o) → P (when_idle x o)
  idle-case idle o f g = g refl
  idle-case (opened start reads writes) o f g = f refl
  idle-case (locking taken start reads writes) o f g = f refl
  idle-case (twilight ignoring start commit reads writes) o f g = f refl
  idle-case (publishing ignoring taken start commit reads writes) o f g = f refl

  pub open-case : (x : Slot) (o : ℕ → List ReadEntry → List WriteEntry → Outcome) → (is_open x ≡ false → P (refused NotAllowed))
      → ((start : ℕ) (reads : List ReadEntry) (writes : List WriteEntry) → x ≡ opened start reads writes → P (o start reads writes))
      → P (when_open x o)
  open-case idle o f g = f refl
  open-case (opened start reads writes) o f g = g start reads writes refl
  open-case (locking taken start reads writes) o f g = f refl
  open-case (twilight ignoring start commit reads writes) o f g = f refl
  open-case (publishing ignoring taken start commit reads writes) o f g = f refl

  pub locking-case : (x : Slot) (o : ℕ → ℕ → List ReadEntry → List WriteEntry → Outcome) → (is_locking x ≡ false → P (refused NotAllowed))
      → ((taken start : ℕ) (reads : List ReadEntry) (writes : List WriteEntry) → x ≡ locking taken start reads writes → P (o taken start reads writes))
      → P (when_locking x o)
  locking-case idle o f g = f refl
  locking-case (opened start reads writes) o f g = f refl
  locking-case (locking taken start reads writes) o f g = g taken start reads writes refl
  locking-case (twilight ignoring start commit reads writes) o f g = f refl
  locking-case (publishing ignoring taken start commit reads writes) o f g = f refl

  pub twilight-case : (x : Slot) (o : Bool → ℕ → ℕ → List ReadEntry → List WriteEntry → Outcome) → (is_twilight x ≡ false → P (refused NotAllowed))
      → ((ignoring : Bool) (start commit : ℕ) (reads : List ReadEntry) (writes : List WriteEntry) → x ≡ twilight ignoring start commit reads writes
      → P (o ignoring start commit reads writes))
      → P (when_twilight x o)
  twilight-case idle o f g = f refl
  twilight-case (opened start reads writes) o f g = f refl
  twilight-case (locking taken start reads writes) o f g = f refl
  twilight-case (twilight ignoring start commit reads writes) o f g = g ignoring start commit reads writes refl
  twilight-case (publishing ignoring taken start commit reads writes) o f g = f refl

  pub publishing-case : (x : Slot) (o : Bool → ℕ → ℕ → ℕ → List ReadEntry → List WriteEntry → Outcome) → (is_publishing x ≡ false → P (refused NotAllowed))
      → ((ignoring : Bool) (taken start commit : ℕ) (reads : List ReadEntry) (writes : List WriteEntry) → x ≡ publishing ignoring taken start commit reads writes
      → P (o ignoring taken start commit reads writes))
      → P (when_publishing x o)
  publishing-case idle o f g = f refl
  publishing-case (opened start reads writes) o f g = f refl
  publishing-case (locking taken start reads writes) o f g = f refl
  publishing-case (twilight ignoring start commit reads writes) o f g = f refl
  publishing-case (publishing ignoring taken start commit reads writes) o f g = g ignoring taken start commit reads writes refl

  pub uncommitted-case : (x : Slot) (o : Outcome) → ((is_open x or is_locking x or is_twilight x) ≡ false → P (refused NotAllowed))
      → ((is_open x or is_locking x or is_twilight x) ≡ true → P o) → P (when_uncommitted x o)
  unfolding ◌or◌
  uncommitted-case idle o f g = f refl
  uncommitted-case (opened start reads writes) o f g = g refl
  uncommitted-case (locking taken start reads writes) o f g = g refl
  uncommitted-case (twilight ignoring start commit reads writes) o f g = g refl
  uncommitted-case (publishing ignoring taken start commit reads writes) o f g = f refl
