-- What holds of states holds of areas: a well-formed area is what `pack` gives of its state, and the step on it is the step on that state.
use mathlib.Core.Bool.{true}
use mathlib.Core.List.{List, [], ◌∷◌}
use mathlib.Core.Path.{◌≡◌, refl, ◌∙◌, ap}
use Prim.Native.Nat.{ℕ}
use native.Mathlib.Omega.{arith}
use lib.Dec.{leb→le}
use Rattle.wire.specs.Field.{Bytes}
use Rattle.call.specs.Answer.{refusal_code, reply_code, Refuses}
use Rattle.rules.specs.Model.{Model, FitsBytes}
use Rattle.rules.specs.State.{State}
use Rattle.rules.specs.StateRight.{state_right}
use Rattle.rules.specs.Outcome.{Outcome, refused, accepted, reply_of, after}
use Rattle.rules.specs.Step.{Call, step}
use Rattle.rules.specs.Layout.{pack, state_of}
use Rattle.rules.specs.AreaRight.{well_formed}
use Rattle.rules.specs.Area.{Answered, answered, step_on_bytes, lay_out, fresh, described_cells}
use Rattle.rules.specs.Run.{Shown, show, replies, end_state}
use Rattle.rules.proofs.RoundTrip.{pack-right, state-back, state-right, round_trip}
use Rattle.rules.proofs.LaidOut.{laid-right, lays-out}
use Rattle.history.specs.Keeps.{replies_on_bytes, bytes_after}
use Rattle.history.proofs.Keeps.Lists.{cond-elim}
use Rattle.history.proofs.Keeps.Moves.{step_keeps}
use Rattle.history.proofs.Keeps.Codes.{Coded, acceptance, step-coded}

module _ (M : Model) where
  -- the step on a well-formed area
  pub stepped : (a : List ℕ) (call : Call) → well_formed M a ≡ true → step_on_bytes M a call ≡ answered M a (step M (state_of M a) call)
  unfolding step_on_bytes
  stepped a call right = rw right

  pub answered-reply : (a : List ℕ) (o : Outcome) → (answered M a o).reply ≡ reply_of o
  answered-reply a (refused r) = refl
  answered-reply a (accepted r T) = refl

  never-1 : (a : List ℕ) (o : Outcome) → Coded o → reply_code (answered M a o).reply ≡ 1 → ⊥
  never-1 a (refused r) c e = omega (arith, leb→le 2 (refusal_code r) c.0)
  never-1 a (accepted r T) c e = acceptance r c (λ z. omega arith, λ z. omega arith)

  pub area-never-1 : (a : List ℕ) (call : Call) → well_formed M a ≡ true → reply_code (step_on_bytes M a call).reply ≡ 1 → ⊥
  area-never-1 a call right = rw (stepped a call right) (never-1 a (step M (state_of M a) call) (step-coded M (state_of M a) call))

  refused-untouched : (a : List ℕ) (o : Outcome) → Coded o → Refuses (reply_code (answered M a o).reply) → (answered M a o).bytes ≡ a
  refused-untouched a (refused r) c refuses = refl
  refused-untouched a (accepted r T) c refuses = absurd (acceptance r c refuses)

  pub area-untouched : (a : List ℕ) (call : Call) → Refuses (reply_code (step_on_bytes M a call).reply) → (step_on_bytes M a call).bytes ≡ a
  unfolding step_on_bytes
  area-untouched a call =
      cond-elim (λ (r : Answered). Refuses (reply_code r.reply) → r.bytes ≡ a) (well_formed M a) _ _
      (λ right. refused-untouched a (step M (state_of M a) call) (step-coded M (state_of M a) call)) (λ wrong refuses. refl)

-- bytes, and well formed
pub record Good (M : Model) (a : List ℕ) : Type 0 where
  pub bytes : Bytes a
  pub right : well_formed M a ≡ true

module _ (M : Model) (fits : FitsBytes M) where
  packed-good : (S : State) → state_right M S ≡ true → Good M (pack M S)
  packed-good S right = record { bytes = (round_trip M fits).pack_bytes S right; right = pack-right M fits S right }

  answered-good : (a : List ℕ) → Good M a → (S : State) (o : Outcome) → state_right M (after S o) ≡ true → Good M (answered M a o).bytes
  answered-good a good S (refused r) right = good
  answered-good a good S (accepted r T) right = packed-good T right

  pub step-good : (a : List ℕ) (call : Call) → Good M a → Good M (step_on_bytes M a call).bytes
  step-good a call good =
      rw (stepped M a call good.right)
      (answered-good a good (state_of M a) (step M (state_of M a) call) (step_keeps M (state_of M a) call (state-right M a good.bytes good.right)))

  pub run-good : (a : List ℕ) (calls : List Call) → Good M a → Good M (bytes_after M a calls)
  unfolding bytes_after
  run-good a [] good = good
  run-good a (call ∷ calls) good = run-good (step_on_bytes M a call).bytes calls (step-good a call good)

  pub laid-never-1 : (a ds : List ℕ) → (lay_out M a ds).code ≡ 0 → (calls : List Call) (call : Call)
      → reply_code (step_on_bytes M (bytes_after M (lay_out M a ds).bytes calls) call).reply ≡ 1 → ⊥
  laid-never-1 a ds laid calls call =
      let good : Good M (lay_out M a ds).bytes =
      rw ((lays-out M fits).packed a ds laid) (packed-good (fresh M (described_cells ds)) (laid-right M fits a ds laid)) in
      area-never-1 M (bytes_after M (lay_out M a ds).bytes calls) call (run-good (lay_out M a ds).bytes calls good).right

  -- the step on the area of a state
  answered-packed : (S : State) (o : Outcome) → answered M (pack M S) o ≡ record { reply = reply_of o; bytes = pack M (after S o) }
  answered-packed S (refused r) = refl
  answered-packed S (accepted r T) = refl

  pub stepped-packed : (S : State) (call : Call) → state_right M S ≡ true
      → step_on_bytes M (pack M S) call ≡ record { reply = reply_of (step M S call); bytes = pack M (after S (step M S call)) }
  stepped-packed S call right =
      stepped M (pack M S) call (pack-right M fits S right)
      ∙ ap (λ (T : State). answered M (pack M S) (step M T call)) (state-back M fits S right)
      ∙ answered-packed S (step M S call)

  pub same-replies : (S : State) (calls : List Call) → state_right M S ≡ true → replies_on_bytes M (pack M S) calls ≡ replies M S calls
  unfolding replies_on_bytes replies
  same-replies S [] right = refl
  same-replies S (call ∷ calls) right =
      ap (λ (r : Answered). show r.reply ∷ replies_on_bytes M r.bytes calls) (stepped-packed S call right)
      ∙ ap (λ (l : List Shown). show (reply_of (step M S call)) ∷ l) (same-replies (after S (step M S call)) calls (step_keeps M S call right))

  pub same_end : (S : State) (calls : List Call) → state_right M S ≡ true → bytes_after M (pack M S) calls ≡ pack M (end_state M S calls)
  unfolding bytes_after end_state
  same_end S [] right = refl
  same_end S (call ∷ calls) right =
      ap (λ (r : Answered). bytes_after M r.bytes calls) (stepped-packed S call right)
      ∙ same_end (after S (step M S call)) calls (step_keeps M S call right)
