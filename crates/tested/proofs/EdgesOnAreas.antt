-- E1 to E12 on areas: what holds of states holds of any way of making calls that follows them, and the bytes do.
use mathlib.Core.Bool.{true}
use mathlib.Core.List.{List, [], ◌∷◌, map}
use mathlib.Core.Path.{◌≡◌, refl, ◌∙◌, ap}
use Prim.Native.Nat.{ℕ}
use native.Mathlib.Omega.{arith}
use lib.ListN.{length}
use Rattle.wire.specs.Field.{be}
use Rattle.wire.specs.Table.{cat}
use Rattle.call.specs.Answer.{reply_number}
use Rattle.slot.specs.Logic.{all}
use Rattle.rules.specs.Model.{controller}
use Rattle.rules.specs.State.{State}
use Rattle.rules.specs.LogsRight.{cell_count_right}
use Rattle.rules.specs.StateRight.{state_right}
use Rattle.rules.specs.Step.{Call}
use Rattle.rules.specs.Layout.{pack}
use Rattle.rules.specs.Area.{described_cell, described_cells, step_on_bytes, lengths_fit, lay_out}
use Rattle.rules.specs.Run.{Shown}
use Rattle.rules.specs.Edges.{two, seventeen, late, Edges}
use Rattle.rules.proofs.Open.{computed}
use Rattle.rules.proofs.Controller.{controller-fits}
use Rattle.rules.proofs.RoundTrip.{round_trip}
use Rattle.rules.proofs.Edges.{edges}
use Rattle.history.specs.Keeps.{replies_on_bytes, bytes_after}
use Rattle.history.proofs.Keeps.{keeps}
use Rattle.crocktendril.specs.Demands.{Made, in_turn}
use Rattle.crocktendril.proofs.Demands.{same_end}
use Rattle.tested.specs.EdgesOnAreas.{ToldOnAreas, EndsOnAreas, as_number, ToldAtC, EndsAtC, EdgesOnAreas}
use Rattle.tested.proofs.Formed.{two-right, seventeen-right}

-- the table carried from one way of making calls to another that follows it on well-formed states
module _ {Told Told' : State → List Call → List Shown → Type 0} {Ends Ends' : State → List Call → State → Type 0}
    (told : (S : State) (calls : List Call) (t : List Shown) → state_right controller S ≡ true → Told S calls t → Told' S calls t)
    (ends : (S : State) (calls : List Call) (T : State) → state_right controller S ≡ true → Ends S calls T → Ends' S calls T) where
  carried : Edges Told Ends → Edges Told' Ends'
  carried e =
      let fresh = two-right 0 (omega arith) in
      let high = two-right late.clock (omega arith) in
      record {
        E1 = told _ _ _ fresh e.E1;
        E2 = told _ _ _ fresh e.E2;
        E3 = told _ _ _ fresh e.E3;
        E4 = told _ _ _ fresh e.E4;
        E5 = told _ _ _ fresh e.E5;
        E6 = told _ _ _ fresh e.E6;
        E7_legal = e.E7_legal;
        E7_write = told _ _ _ fresh e.E7_write;
        E7_lay_out = e.E7_lay_out;
        E8 = told _ _ _ seventeen-right e.E8;
        E9 = told _ _ _ high e.E9;
        E9_clock = ends _ _ _ high e.E9_clock;
        E9_before = ends _ _ _ high e.E9_before;
        E9_kept = ends _ _ _ high e.E9_kept;
        E10 = told _ _ _ fresh e.E10;
        E10_after = ends _ _ _ fresh e.E10_after;
        E11 = told _ _ _ fresh e.E11;
        E12 = told _ _ _ fresh e.E12;
      }

on-areas : Edges ToldOnAreas EndsOnAreas
on-areas =
    carried
    (λ S calls t right e. (keeps controller controller-fits).same_replies S calls right ∙ e)
    (λ S calls T right e. (keeps controller controller-fits).same_end S calls right ∙ ap (pack controller) e)
    edges

-- calls of `crocktendril_step` in turn answer the numbers of the replies on the bytes
answers : (l : List ℕ) (made : List Made) → in_turn l made
    → map (λ (m : Made). m.answer) made ≡ map as_number (replies_on_bytes controller l (map (λ (m : Made). m.call) made))
unfolding in_turn replies_on_bytes reply_number
answers l [] turns = refl
answers l (m ∷ made) turns =
    let here = turns.0 in
    rw (here.answer, answers m.left made turns.1, here.bytes)

at_c : Edges ToldAtC EndsAtC
at_c =
    carried
    (λ S calls t right e made same turns. answers (pack controller S) made turns ∙ ap (λ (x : List Call). map as_number (replies_on_bytes controller (pack controller S) x)) same ∙ ap (map as_number) e)
    (λ S calls T right e made same turns. same_end (pack controller S) made turns ∙ ap (λ (x : List Call). bytes_after controller (pack controller S) x) same ∙ e)
    on-areas

can-be-made : (l : List ℕ) (calls : List Call) → (made : List Made) × (map (λ (m : Made). m.call) made ≡ calls) × in_turn l made
unfolding in_turn
can-be-made l [] = ([], refl, tt)
can-be-made l (call ∷ calls) =
    let a = step_on_bytes controller l call in
    let rest = can-be-made a.bytes calls in (
      record { call = call; answer = reply_number a.reply; left = a.bytes } ∷ rest.0,
      ap (λ (x : List Call). call ∷ x) rest.1,
      (record { answer = refl; bytes = refl }, rest.2),
    )

two-laid-out : (a : List ℕ) → length a ≡ 1618
    → lay_out controller a (2 ∷ 0 ∷ 0 ∷ 0 ∷ 5 ∷ 1 ∷ 0 ∷ 0 ∷ 0 ∷ 0 ∷ []) ≡ record { code = 0; bytes = pack controller two }
unfolding computed be all cell_count_right described_cell described_cells lengths_fit lay_out
two-laid-out a h = rw h

seventeen-laid-out : (a : List ℕ) → length a ≡ 1828
    → lay_out controller a (cat 17 (λ c. 2 ∷ 0 ∷ 0 ∷ 0 ∷ 0 ∷ [])) ≡ record { code = 0; bytes = pack controller seventeen }
unfolding computed be all cell_count_right described_cell described_cells lengths_fit lay_out
seventeen-laid-out a h = rw h

pub edges-on-areas : EdgesOnAreas
edges-on-areas =
    record {
      on_areas = on-areas;
      at_c = at_c;
      can_be_made = can-be-made;
      two_laid_out = two-laid-out;
      seventeen_laid_out = seventeen-laid-out;
      late_formed = (round_trip controller controller-fits).unpack_pack late (two-right late.clock (omega arith));
    }
