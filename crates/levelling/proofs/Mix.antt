-- Calls of `crocktendril_step` and `crocktendril_wear`, in any mix, leave what the core calls leave that they come to. So what holds of core calls holds of them.
use mathlib.Core.Bool.{true}
use mathlib.Core.List.{List, [], ◌∷◌, ◌++◌, append_assoc}
use mathlib.Core.Path.{◌≡◌, refl, sym, ◌∙◌, ap, subst}
use Prim.Native.Nat.{ℕ}
use lib.Signed.{◌≤ℤ◌}
use Rattle.wire.specs.Field.{Bytes}
use Rattle.slot.specs.Logic.{All}
use Rattle.rules.specs.Model.{controller}
use Rattle.rules.specs.State.{cell_at}
use Rattle.rules.specs.Step.{Call}
use Rattle.rules.specs.Layout.{state_of}
use Rattle.rules.specs.Area.{at_rest}
use Rattle.rules.proofs.Controller.{controller-fits}
use Rattle.rules.proofs.LaidOut.{lays-out}
use Rattle.history.specs.History.{Demand3}
use Rattle.history.specs.Keeps.{bytes_after}
use Rattle.history.proofs.Keeps.{keeps}
use Rattle.history.proofs.Keeps.OnBytes.{Good, run-good}
use Rattle.history.proofs.Histories.{bytes-append, histories, rest-right}
use Rattle.fresh.specs.LaidOut.{LaidOut}
use Rattle.crocktendril.proofs.Demands.{laid-bytes, demand1}
use Rattle.levelling.specs.AtC.{Made, step_made, wear_made, left_by, Keeping, in_turn, last_left, core_calls, all_core_calls, happened, code_in, MixAtC}
use Rattle.levelling.specs.CountsUp.{CountsUp, CountsAre, OnlyLevelled, signed}
use Rattle.levelling.proofs.AsCalls.{as-calls}
use Rattle.levelling.proofs.AtC.{wear-at-c}
use Rattle.levelling.proofs.CountsUp.{counts-up-of, counts-are-of}
use Rattle.levelling.proofs.NeverFalls.{never-falls}

-- a call leaves what its core calls leave
call-left : (l : List ℕ) → Bytes l → (m : Made) → Keeping l m → left_by m ≡ bytes_after controller l (core_calls l m)
unfolding bytes_after
call-left l bytes (step_made call answer left) kept = kept.bytes
call-left l bytes (wear_made set slot answer left) kept = kept.bytes ∙ (as-calls controller controller-fits).on_areas l bytes set slot

-- .. which is bytes, and well formed
call-good : (l : List ℕ) → Good controller l → (m : Made) → Keeping l m → Good controller (left_by m)
call-good l good m kept = subst (Good controller) (sym (call-left l good.bytes m kept)) (run-good controller controller-fits l (core_calls l m) good)

-- .. and so do calls in turn
same_end : (made : List Made) (l : List ℕ) → Good controller l → in_turn l made → last_left l made ≡ bytes_after controller l (all_core_calls l made)
unfolding in_turn last_left all_core_calls bytes_after
same_end [] l good turns = refl
same_end (m ∷ made) l good turns =
    same_end made (left_by m) (call-good l good m turns.0) turns.1
    ∙ ap (λ (b : List ℕ). bytes_after controller b (all_core_calls (left_by m) made)) (call-left l good.bytes m turns.0)
    ∙ sym (bytes-append controller l (core_calls l m) (all_core_calls (left_by m) made))

-- calls in two parts
calls-append : (earlier later : List Made) (l : List ℕ) → all_core_calls l (earlier ++ later) ≡ all_core_calls l earlier ++ all_core_calls (last_left l earlier) later
unfolding all_core_calls last_left
calls-append [] later l = refl
calls-append (m ∷ earlier) later l =
    ap (λ (calls : List Call). core_calls l m ++ calls) (calls-append earlier later (left_by m))
    ∙ sym (append_assoc (core_calls l m) (all_core_calls (left_by m) earlier) (all_core_calls (last_left (left_by m) earlier) later))

-- the first calls of those in turn are in turn
turns-front : (earlier later : List Made) (l : List ℕ) → in_turn l (earlier ++ later) → in_turn l earlier
unfolding in_turn
turns-front [] later l turns = tt
turns-front (m ∷ earlier) later l turns = (turns.0, turns-front earlier later (left_by m) turns.1)

-- an area at rest is well formed
rest-good : (l : List ℕ) → Bytes l → at_rest controller l ≡ true → Good controller l
rest-good l bytes rest = record { bytes = bytes; right = rest-right controller controller-fits l rest }

-- demand 3 of the core calls is demand 3 of the mix
from-rest : (l : List ℕ) (made : List Made) → Bytes l → at_rest controller l ≡ true → in_turn l made
    → Demand3 (state_of controller l) (happened l made) (state_of controller (last_left l made))
from-rest l made bytes rest turns =
    rw (same_end made l (rest-good l bytes rest) turns) ((histories controller controller-fits).of_areas l bytes rest (all_core_calls l made))

-- .. and so what follows from it
counts-up-rest : (l : List ℕ) (made : List Made) → Bytes l → at_rest controller l ≡ true → in_turn l made → CountsUp (state_of controller l) (happened l made)
counts-up-rest l made bytes rest turns = counts-up-of (from-rest l made bytes rest turns)

counts-are-rest : (l : List ℕ) (made : List Made) → Bytes l → at_rest controller l ≡ true → in_turn l made
    → CountsAre (state_of controller l) (happened l made) (state_of controller (last_left l made))
counts-are-rest l made bytes rest turns = counts-are-of (from-rest l made bytes rest turns)

-- what the core calls of a cell's writers never lower, the mix never lowers
falls-not-rest : (l : List ℕ) (earlier later : List Made) → Bytes l → at_rest controller l ≡ true → in_turn l (earlier ++ later) → (c : ℕ)
    → OnlyLevelled (happened l (earlier ++ later)) c
    → signed (cell_at (state_of controller (last_left l earlier)) c).word ≤ℤ signed (cell_at (state_of controller (last_left l (earlier ++ later))) c).word
falls-not-rest l earlier later bytes rest turns c only =
    let good = rest-good l bytes rest in
    let cut = calls-append earlier later l in
    rw (same_end earlier l good (turns-front earlier later l turns), same_end (earlier ++ later) l good turns, cut)
    ((never-falls controller controller-fits).of_areas l bytes rest (all_core_calls l earlier) (all_core_calls (last_left l earlier) later) c (rw cut at only))

-- no call on a well-formed area is answered with code 1
call-not-1 : (l : List ℕ) → Good controller l → (m : Made) → Keeping l m → code_in m ≡ 1 → ⊥
call-not-1 l good (step_made call answer left) kept one =
    (keeps controller controller-fits).area_never1 l call good.right (sym (demand1.code l call answer left kept) ∙ one)
call-not-1 l good (wear_made set slot answer left) kept one = wear-at-c.area_never1 l set slot answer left good.bytes good.right kept one

not-1 : (made : List Made) (l : List ℕ) → Good controller l → in_turn l made → All (λ (m : Made). code_in m ≡ 1 → ⊥) made
unfolding in_turn
not-1 [] l good turns = tt
not-1 (m ∷ made) l good turns = (call-not-1 l good m turns.0, not-1 made (left_by m) (call-good l good m turns.0) turns.1)

-- a laid-out area is bytes, and at rest
module _ {l ds a : List ℕ} (laid_out : LaidOut l ds 0 a) where
  laid : Bytes a
  laid = rw laid_out.bytes (laid-bytes l ds (sym laid_out.answer))

  resting : at_rest controller a ≡ true
  resting = rw laid_out.bytes ((lays-out controller controller-fits).rests l ds (sym laid_out.answer))

-- Steps and wear operations in any mix.
pub mix-at-c : MixAtC
mix-at-c =
    record {
      keeps_well_formed = λ l made bytes right turns.
          let good : Good controller l = record { bytes = bytes; right = right } in
          rw (same_end made l good turns) (run-good controller controller-fits l (all_core_calls l made) good).right;
      never1 = λ l ds a made laid_out turns. not-1 made a (rest-good a (laid laid_out) (resting laid_out)) turns;
      demand3 = from-rest;
      demand3_from_lay_out = λ l ds a made laid_out turns. from-rest a made (laid laid_out) (resting laid_out) turns;
      counts_up = counts-up-rest;
      counts_up_from_lay_out = λ l ds a made laid_out turns. counts-up-rest a made (laid laid_out) (resting laid_out) turns;
      counts_are = counts-are-rest;
      counts_are_from_lay_out = λ l ds a made laid_out turns. counts-are-rest a made (laid laid_out) (resting laid_out) turns;
      never_falls = falls-not-rest;
      never_falls_from_lay_out = λ l ds a earlier later laid_out turns c only. falls-not-rest a earlier later (laid laid_out) (resting laid_out) turns c only;
    }
