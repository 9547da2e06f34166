-- The two reloads by computation, and from them any list: a state that refuses every reload of the list stays as it is.
use Rattle.std.specs.Prelude.{Err}
use mathlib.Core.Bool.{Bool, true, false}
use mathlib.Core.List.{List, [], ◌∷◌, map}
use mathlib.Core.Path.{◌≡◌, refl, ◌∙◌, ap, ap₂}
use Prim.Native.Nat.{ℕ}
use borrow.Author.Tests.{eqb-true}
use lib.Dec.{eqb}
use Rattle.call.specs.declared.Refusal.{Refusal}
use Rattle.call.specs.declared.Refusal.TheVariants.{ReloadHeld}
use Rattle.slot.specs.Logic.{◌or◌, all}
use Rattle.slot.proofs.Logic.{and_left, and_right, or_right}
use Rattle.rules.specs.Model.{controller}
use Rattle.rules.specs.State.{State}
use Rattle.rules.specs.Outcome.{Outcome, refused, after}
use Rattle.rules.specs.Step.{step}
use Rattle.rules.specs.Run.{Shown, show, replies, end_state}
use Rattle.rules.specs.Blocked.{blocked, reload_of, who_blocks, of_the_two, Blocked}
use Rattle.rules.proofs.Open.{computed}

pub record Gets11 (o : Outcome) (slot : ℕ) : Type 0 where
  pub reply : Refusal
  pub refusal : o ≡ refused reply
  pub told : show (Err reply) ≡ who_blocks slot

module _ (S : State) (gets : (s : ℕ) → (eqb s 1 or eqb s 2) ≡ true → Gets11 (step controller S (reload_of s)) s) where
  each-11 : (slots : List ℕ) → of_the_two slots ≡ true → replies controller S (map reload_of slots) ≡ map who_blocks slots
  unfolding replies of_the_two all
  each-11 [] p = refl
  each-11 (s ∷ slots) p =
      let g = gets s (and_left _ _ p) in
      rw g.refusal (ap₂ (λ (r : Shown) (l : List Shown). r ∷ l) g.told (each-11 slots (and_right _ _ p)))

  none-changes : (slots : List ℕ) → of_the_two slots ≡ true → end_state controller S (map reload_of slots) ≡ S
  unfolding end_state of_the_two all
  none-changes [] p = refl
  none-changes (s ∷ slots) p =
      ap (λ (o : Outcome). end_state controller (after S o) (map reload_of slots)) (gets s (and_left _ _ p)).refusal ∙ none-changes slots (and_right _ _ p)

gets-11 : (s : ℕ) (t : Bool) → eqb s 1 ≡ t → (eqb s 1 or eqb s 2) ≡ true → Gets11 (step controller blocked (reload_of s)) s
unfolding computed
gets-11 s true e p = rw (eqb-true s 1 e) (record { reply = ReloadHeld 0 2; refusal = refl; told = refl })
gets-11 s false e p = rw (eqb-true s 2 (or_right _ _ e p)) (record { reply = ReloadHeld 1 1; refusal = refl; told = refl })

pub two-blocked : Blocked
unfolding computed
two-blocked =
    record {
      reached = refl;
      endless = each-11 blocked (λ s. gets-11 s (eqb s 1) refl);
      kept = none-changes blocked (λ s. gets-11 s (eqb s 1) refl);
    }
