-- Each way out of a call, in the terms in which the code has its facts: the slot's number, and what was decoded.
use Rattle.std.specs.Prelude.{Ok, Err}
use mathlib.Core.Bool.{false}
use mathlib.Core.List.{List}
use mathlib.Core.Logic.{◌⊎◌, inl, inr}
use mathlib.Core.Path.{◌≡◌, refl}
use Prim.Native.Nat.{ℕ, ◌-◌, ◌<◌, ◌≤◌}
use native.Mathlib.Numerals.{sub-one}
use native.Mathlib.Omega.{arith}
use lib.Dec.{leb}
use borrow.Author.Tests.{le-leb, lt-leb}
use Rattle.call.specs.Answer.{Reply}
use Rattle.call.specs.declared.Refusal.{Refusal}
use Rattle.call.specs.declared.Refusal.TheVariants.{NoSuchStep}
use Rattle.call.specs.Decode.{Decoded}
use Rattle.call.specs.declared.Undecoded.{Undecoded}
use Rattle.call.specs.declared.Undecoded.TheVariants.{IllegalWrite, IllegalUpdate, Unknown}
use Rattle.call.specs.declared.Step.{Step}
use Rattle.slot.specs.Logic.{◌and◌}
use Rattle.rules.specs.Model.{controller}
use Rattle.rules.specs.State.{State}
use Rattle.rules.specs.Outcome.{Outcome}
use Rattle.rules.specs.Steps.{illegal_write, illegal_update}
use Rattle.rules.specs.Step.{row, inside_slots, step_of}
use Rattle.ways.specs.Did.{Did}
use Rattle.ways.proofs.Done.{refuses, onward}
use Rattle.dispatch.specs.Without.{without_slot}

-- a slot that is not there
no_slot : (S : State) (slot : ℕ) (d : Decoded) (l : List ℕ) → (leb 1 slot and leb slot 8) ≡ false → Did (step_of controller S slot d) l (Err (without_slot d)) l
unfolding step_of
no_slot S slot (Ok s) l out = refuses l (rw out)
no_slot S slot (Err (IllegalWrite c)) l out = refuses l (rw out)
no_slot S slot (Err (IllegalUpdate c)) l out = refuses l (rw out)
no_slot S slot (Err Unknown) l out = refuses l refl

module _ (S : State) (slot : ℕ) (d : Decoded) {r : Refusal} (l : List ℕ) (answered : r ≡ without_slot d) where
  pub way-out : (slot ≡ 0) ⊎ ((slot ≡ 0 → ⊥) × (8 < slot)) → Did (step_of controller S slot d) l (Err r) l
  unfolding ◌and◌
  way-out (inl zero) = rw answered (no_slot S slot d l (rw zero))
  way-out (inr high) =
      let above : 8 < slot = high.1 in
      rw answered (no_slot S slot d l (rw (le-leb 1 slot (omega arith), lt-leb slot 8 above)))

-- a slot that is there
module _ (S : State) (slot : ℕ) (d : Decoded) (low : slot ≡ 0 → ⊥) (high : slot ≤ 8) where
  there : (o : Outcome) → inside_slots controller slot o ≡ o
  unfolding ◌and◌
  there o = rw (le-leb 1 slot (omega (arith, low)), le-leb slot 8 high)

  pub way-made : {r : Reply} {l l' : List ℕ} {s : Step} → d ≡ Ok s → Did (row controller S (slot - 1) s) l r l' → Did (step_of controller S slot d) l r l'
  unfolding step_of
  way-made told did = rw told (onward (there _) (rw sub-one at did))

  module _ {r : Reply} {l l' : List ℕ} {u : Undecoded} (why : d ≡ Err u) where
    pub way-write : {c : ℕ} → u ≡ IllegalWrite c → Did (illegal_write controller S (slot - 1) c) l r l' → Did (step_of controller S slot d) l r l'
    unfolding step_of
    way-write told did = rw (why, told) (onward (there _) (rw sub-one at did))

    pub way-update : {c : ℕ} → u ≡ IllegalUpdate c → Did (illegal_update controller S (slot - 1) c) l r l' → Did (step_of controller S slot d) l r l'
    unfolding step_of
    way-update told did = rw (why, told) (onward (there _) (rw sub-one at did))

-- a number that no step has
pub way-unknown : (S : State) (slot : ℕ) (d : Decoded) (l : List ℕ) {u : Undecoded} → d ≡ Err u → u ≡ Unknown → Did (step_of controller S slot d) l (Err NoSuchStep) l
unfolding step_of
way-unknown S slot d l why told = rw (why, told) (refuses l refl)
