-- From what a step comes to, by its definition, to what was done: a refusal or an answer without a change leaves the bytes, and any other step leaves the bytes of the state after it.
use Rattle.std.specs.Prelude.{Ok, Err}
use Rattle.std.specs.Result.{IsErrAnd}
use mathlib.Core.List.{List}
use mathlib.Core.Path.{◌≡◌, sym, ◌∙◌, ap}
use Prim.Native.Nat.{ℕ}
use Rattle.call.specs.Answer.{Reply}
use Rattle.call.specs.declared.Answer.{Answer}
use Rattle.call.specs.declared.Refusal.{Refusal}
use Rattle.rules.specs.Model.{controller}
use Rattle.rules.specs.State.{State}
use Rattle.rules.specs.Outcome.{Outcome, refused, accepted, reply_of}
use Rattle.rules.specs.Layout.{pack}
use Rattle.rules.specs.Area.{answered}
use Rattle.rules.proofs.RoundTrip.{pack-state}
use Rattle.area.specs.Good.{Good, state_in}
use Rattle.ways.specs.Did.{Did}

module _ {o : Outcome} (a : List ℕ) where
  pub refuses : {r : Refusal} → o ≡ refused r → Did o a (Err r) a
  refuses e = record { reply = ap reply_of (sym e); bytes = ap (λ (x : Outcome). (answered controller a x).bytes) (sym e) }

  pub leaves : {r : Answer} {T : State} {b : List ℕ} → o ≡ accepted r T → b ≡ pack controller T → Did o a (Ok r) b
  leaves e stored = record { reply = ap reply_of (sym e); bytes = stored ∙ ap (λ (x : Outcome). (answered controller a x).bytes) (sym e) }

  pub keeps : {r : Answer} → Good a → o ≡ accepted r (state_in a) → Did o a (Ok r) a
  keeps good e = leaves e (sym (pack-state controller a good.bytes good.right))

-- the refusal of a test, which `?` hands on
pub handed : {o : Outcome} {a : List ℕ} {e : Refusal} (r : Reply) → IsErrAnd r (λ f. f ≡ e) → o ≡ refused e → Did o a r a
handed (Ok x) never e = absurd never
handed {a = a} (Err f) same e = refuses a (e ∙ ap refused (sym same))

-- a step that goes on as another
pub onward : {o p : Outcome} {l a : List ℕ} {r : Reply} → o ≡ p → Did p l r a → Did o l r a
onward e d = rw e d
