-- Calls go by what their steps go by: codes 2 and 3 depend on the call alone, and a write or an update without a legal value looks at its slot and n.
use Rattle.std.specs.Prelude.{Ok, Err}
use mathlib.Core.Bool.{not}
use mathlib.Core.Path.{refl}
use Prim.Native.Nat.{ℕ, pred}
use lib.Dec.{leb}
use Rattle.call.specs.Decode.{Decoded, decoded}
use Rattle.call.specs.declared.Undecoded.TheVariants.{IllegalWrite, IllegalUpdate, Unknown}
use Rattle.call.specs.declared.Refusal.TheVariants.{NoSuchStep, NoSuchSlot, IllegalValue}
use Rattle.slot.specs.Logic.{◌and◌}
use Rattle.rules.specs.Model.{Model, last_step}
use Rattle.rules.specs.State.{State, slot_at}
use Rattle.rules.specs.Outcome.{Outcome}
use Rattle.rules.specs.Steps.{illegal_write, illegal_update}
use Rattle.rules.specs.Step.{Call, inside_slots, step_of, step}
use Rattle.history.specs.Frame.{named_by, call_names, Alike}
use Rattle.history.proofs.Frame.Both.{Matches, both-refused, both-refuse, both-open, both-twilight}
use Rattle.history.proofs.Frame.Rows.{inside, matches}

module _ (M : Model) (S S' : State) where
  slots-match : (slot i : ℕ) (o o' : Outcome) → Matches S S' i o o' → Matches S S' i (inside_slots M slot o) (inside_slots M slot o')
  slots-match slot i o o' m =
      both-refuse (not (leb 1 slot and leb slot M.slots)) _ NoSuchSlot NoSuchSlot o o' refl refl (tt, tt) (λ e. m)

  of-match : (slot : ℕ) (d : Decoded) → Alike S S' (pred slot) (named_by d) → Matches S S' (pred slot) (step_of M S slot d) (step_of M S' slot d)
  unfolding step_of illegal_write illegal_update
  of-match slot (Ok s) a = slots-match slot (pred slot) _ _ (matches M S S' (pred slot) s a)
  of-match slot (Err (IllegalWrite c)) a =
      slots-match slot (pred slot) _ _
      (rw (← a.slot)
      (both-open (slot_at S (pred slot)) _ _ λ start reads writes x. inside a c _ _ (both-refused {r = IllegalValue} refl (tt, tt))))
  of-match slot (Err (IllegalUpdate c)) a =
      slots-match slot (pred slot) _ _
      (rw (← a.slot)
      (both-twilight (slot_at S (pred slot)) _ _ λ ignoring start commit reads writes x. inside a c _ _ (both-refused {r = IllegalValue} refl (tt, tt))))
  of-match slot (Err Unknown) a = both-refused {r = NoSuchStep} refl (tt, tt)

  pub calls-match : (a : Call) → Alike S S' (pred a.slot) (call_names a) → Matches S S' (pred a.slot) (step M S a) (step M S' a)
  unfolding step
  calls-match a m =
      both-refuse (not (leb 1 a.step and leb a.step (last_step M))) _ NoSuchStep NoSuchStep _ _ refl refl (tt, tt)
      (λ e. of-match a.slot (decoded a.step a.cell a.kind a.word) m)
