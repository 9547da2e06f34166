-- None of the wrong cores meets the contract of `crocktendril_step`: each answers or leaves something else at a short history from a fresh area, and the one that
-- invents stamps at the area where it does.
use mathlib.Core.Bool.{Bool, true, false}
use mathlib.Core.List.{List, [], ◌∷◌}
use mathlib.Core.Logic.{⊎_elim}
use mathlib.Core.Path.{◌≡◌, refl, sym, ◌∙◌, ap, ap₂, subst}
use Prim.Native.Nat.{ℕ, suc, pred, ◌*◌, ◌/◌, ◌^◌, ◌<◌}
use native.Mathlib.Omega.{arith}
use lib.Dec.{eqb, ltb, lit<, leb→le}
use lib.ListN.{length, get_or}
use lib.Seq.{get_or-set_same}
use borrow.Author.Tests.{ltb-true}
use Rattle.call.specs.declared.Answer.{Answer}
use Rattle.call.specs.declared.Refusal.{Refusal}
use Rattle.call.specs.Answer.{Reply, refusal_code, reply_code, reply_number}
use Rattle.call.specs.declared.Refusal.TheVariants.{NotAllowed, LastStamp}
use Rattle.call.specs.Decode.{decoded}
use Rattle.slot.specs.declared.WriteEntry.{WriteEntry}
use Rattle.slot.specs.Layout.{no_write}
use Rattle.slot.specs.Logic.{◌and◌, all}
use Rattle.slot.proofs.Logic.{and_left, and_right, all-at}
use Rattle.rules.specs.declared.Cell.{Cell}
use Rattle.rules.specs.Model.{controller, last_stamp}
use Rattle.rules.specs.State.{State, Slot, idle, publishing, no_cell, cell_at, slot_at, writes_of, commit_of, turn}
use Rattle.rules.specs.Cells.{obstacle}
use Rattle.rules.specs.LogsRight.{logged_right, writes_right}
use Rattle.rules.specs.StateRight.{slot_right, state_right}
use Rattle.rules.specs.Outcome.{Outcome, refused, accepted, reply_of, after, below_last_stamp}
use Rattle.rules.specs.Steps.{enter, reload, publish}
use Rattle.rules.specs.Step.{Call, inside_slots, step_of, step}
use Rattle.rules.specs.Layout.{lay, pack, state_of}
use Rattle.rules.specs.Area.{step_on_bytes}
use Rattle.rules.specs.Run.{call, end_state}
use Rattle.rules.specs.Edges.{two, alone}
use Rattle.rules.proofs.Open.{computed}
use Rattle.rules.proofs.Controller.{controller-fits}
use Rattle.rules.proofs.RoundTrip.{pack-right, pack-state, state-back, state-right, round_trip}
use Rattle.rules.proofs.StateSized.{logs-hold}
use Rattle.history.proofs.Cases.{Bare, bare, refuse-case, found-case, locking-case, twilight-case, publishing-case}
use Rattle.history.proofs.StepCase.{slots-case}
use Rattle.history.proofs.Keeps.{keeps}
use Rattle.history.proofs.Right.{right_of}
use Rattle.crocktendril.proofs.Demands.{demand2}
use Rattle.tested.specs.Core.{Core, Askable, Meets, core_of}
use Rattle.tested.specs.WrongCores.{AlwaysRefuses, AlwaysRepliesTheSame, ChangesNothing, all_have_words, WritesAtFinish, PretendsToPublish, writes_and_pretends, next_to_publish, StampsRight, InventsStamps, ShutOut}
use Rattle.tested.proofs.Formed.{two-right, end-right}
use Rattle.tested.proofs.WritesAndPretends.{writes-at-finish, pretends-to-publish}

-- a case that C can put to a core: the area of a well-formed state, and a call
record Case (S : State) (call : Call) : Type 0 where
  right : state_right controller S ≡ true
  asked : Askable (pack controller S) call

-- a step with a slot alone
put : (S : State) → state_right controller S ≡ true → (step slot : ℕ) → step < 256 → slot < 256 → Case S (alone step slot)
put S right step slot low small =
    record {
      right = right;
      asked = record {
        bytes = (round_trip controller controller-fits).pack_bytes S right;
        formed = pack-right controller controller-fits S right;
        step = low;
        slot = small;
        cell = lit< tt;
        kind = lit< tt;
        word = lit< tt;
      };
    }

module _ {S : State} {call : Call} (x : Case S call) where
  back : state_of controller (pack controller S) ≡ S
  back = state-back controller controller-fits S x.right

  right-after : state_right controller (after S (step controller S call)) ≡ true
  right-after = (keeps controller controller-fits).state_kept S call x.right

  -- what a core that meets the contract has to answer, and the state that it has to leave
  module _ (core : Core) (meets : Meets core) where
    exactly : ((core (pack controller S) call).answer ≡ reply_number (reply_of (step controller S call)))
        × ((core (pack controller S) call).left ≡ pack controller (after S (step controller S call)))
    exactly = demand2.step_exact S call _ _ x.right (meets (pack controller S) call x.asked)

    leaves : state_of controller (core (pack controller S) call).left ≡ after S (step controller S call)
    leaves = ap (state_of controller) exactly.1 ∙ state-back controller controller-fits _ right-after

-- slot 1 begins on a fresh area, or closes there, which is not allowed
fresh : state_right controller two ≡ true
fresh = two-right 0 (omega arith)

begins : Case two (alone 1 1)
begins = put two fresh 1 1 (lit< tt) (lit< tt)

closes : Case two (alone 4 1)
closes = put two fresh 4 1 (lit< tt) (lit< tt)

begin-done : (core : Core) → Meets core → (core (pack controller two) (alone 1 1)).answer ≡ 0
unfolding computed reply_number
begin-done core meets = (exactly begins core meets).0

close-refused : (core : Core) → Meets core → (core (pack controller two) (alone 4 1)).answer ≡ 4 * 2 ^ 40
unfolding computed reply_number
close-refused core meets = (exactly closes core meets).0

refusing : (core : Core) → AlwaysRefuses core → Meets core → ⊥
refusing core refuses meets = (refuses _ _ begins.asked).0 (ap (λ n. n / 2 ^ 40) (begin-done core meets))

replying-the-same : (core : Core) → AlwaysRepliesTheSame core → Meets core → ⊥
replying-the-same core alike meets =
    let numbers : 0 ≡ 4 * 2 ^ 40 = sym (begin-done core meets) ∙ alike _ _ _ _ begins.asked closes.asked ∙ close-refused core meets in
    omega arith

changing-nothing : (core : Core) → ChangesNothing core → Meets core → ⊥
unfolding computed
changing-nothing core still meets =
    let phases : ◌≡◌ {A = ℕ} 0 1 =
    ap (λ (S : State). (lay (slot_at S 0)).phase)
    (sym (back begins) ∙ ap (state_of controller) (sym (still _ _ begins.asked)) ∙ leaves begins core meets) in
    omega arith

-- slot 1 writes cell 0: it finishes, then publishes
up_to_finish : List Call
up_to_finish = alone 1 1 ∷ call 3 1 0 2 9 ∷ alone 4 1 ∷ alone 5 1 ∷ alone 6 1 ∷ []

to_finish : State
to_finish = end_state controller two up_to_finish

finishes : Case to_finish (alone 12 1)
unfolding to_finish
finishes = put to_finish (end-right two up_to_finish fresh) 12 1 (lit< tt) (lit< tt)

to_publish : State
to_publish = after to_finish (step controller to_finish (alone 12 1))

publishes : Case to_publish (alone 13 1)
unfolding to_publish
publishes = put to_publish (right-after finishes) 13 1 (lit< tt) (lit< tt)

writing-at-finish : (core : Core) → WritesAtFinish core → Meets core → ⊥
unfolding computed all reply_number to_finish up_to_finish
writing-at-finish core writes meets =
    let wrong : ◌≡◌ {A = Bool} false true =
    sym (ap₂ (λ (T S : State). all_have_words T (writes_of (slot_at S 0))) (leaves finishes core meets) (back finishes))
    ∙ writes _ _ finishes.asked refl (exactly finishes core meets).0 in
    let z : ◌≡◌ {A = ℕ} 0 1 = cc in
    omega arith

pretending-to-publish : (core : Core) → PretendsToPublish core → Meets core → ⊥
unfolding computed to_finish up_to_finish to_publish
pretending-to-publish core pretends meets =
    let word : State → ℕ = λ (S : State). (cell_at S 0).word in
    let words : ◌≡◌ {A = ℕ} 9 5 = sym (ap word (leaves publishes core meets)) ∙ pretends _ _ publishes.asked refl 0 ∙ ap word (back publishes) in
    omega arith

-- what C can ask of an area is a case of its state
of-area : {l : List ℕ} {call : Call} → Askable l call → Case (state_of controller l) call
of-area {l} {call} asked =
    record {
      right = state-right controller l asked.bytes asked.formed;
      asked = subst (λ (m : List ℕ). Askable m call) (sym (pack-state controller l asked.bytes asked.formed)) asked;
    }

-- no refusal has code 0
no_code : (r : Reply) → reply_number r / 2 ^ 40 ≡ 0 → reply_code r ≡ 0
unfolding reply_number
no_code r e = omega arith

not-refused : {P : Type 0} (r : Refusal) → Bare r → refusal_code r ≡ 0 → P
not-refused r k e = absurd (omega (arith, leb→le 2 (refusal_code r) k.0.0))

-- a step that is accepted gives the right stamps: its row's tests are passed one by one
module _ (S : State) (right : state_right controller S ≡ true) (slot : ℕ) where
  abbrev i : ℕ
  i = pred slot

  -- it took clock + 1; it published
  abbrev Took : Outcome → Type 0
  Took o = reply_code (reply_of o) ≡ 0 → ((after S o).clock ≡ suc S.clock) × (commit_of (slot_at (after S o) i) ≡ suc S.clock)

  abbrev Published : Outcome → Type 0
  Published o = reply_code (reply_of o) ≡ 0 → (cell_at (after S o) (next_to_publish (slot_at S i))).stamp ≡ commit_of (slot_at S i)

  inside : (P : Outcome → Type 0) → ((r : Refusal) → Bare r → P (refused r)) → (o : Outcome) → (i < length S.slots → P o)
      → P (inside_slots controller slot o)
  inside P refusal o f = slots-case controller S P refusal slot o (λ there. f (rw (right_of controller S right).slot_count there))

  takes : i < length S.slots → (r : Answer) (x : Slot) → commit_of x ≡ suc S.clock
      → Took (below_last_stamp controller S (accepted r (turn S i (suc S.clock) S.cells x)))
  takes there r x same =
      refuse-case Took not-refused (eqb S.clock (last_stamp controller)) LastStamp bare _ λ below e.
      (refl, ap commit_of (get_or-set_same S.slots i x idle there) ∙ same)

  entered : Took (inside_slots controller slot (enter controller S i))
  unfolding enter
  entered =
      inside Took not-refused _ λ there.
      locking-case Took not-refused (slot_at S i) _ λ taken start reads writes x.
      refuse-case Took not-refused (ltb taken (length writes)) NotAllowed bare _ λ whole.
      takes there _ _ refl

  reloads : Took (inside_slots controller slot (reload controller S i))
  unfolding reload
  reloads =
      inside Took not-refused _ λ there.
      twilight-case Took not-refused (slot_at S i) _ λ ignoring start commit reads writes x.
      found-case Took not-refused (obstacle S i reads) _ _ (λ e held code. absurd (omega arith)) λ clear.
      takes there _ _ refl

  published : Published (inside_slots controller slot (publish controller S i))
  unfolding publish slot_right writes_right logged_right
  published =
      inside Published not-refused _ λ there.
      publishing-case Published not-refused (slot_at S i) _ λ ignoring taken start commit reads writes x e.
      let held : slot_right S.cells S.clock (publishing ignoring taken start commit reads writes) ≡ true =
      subst (λ (y : Slot). slot_right S.cells S.clock y ≡ true) x ((right_of controller S right).slot i) in
      let logs = logs-hold S.cells S.clock start reads writes (and_left _ _ held) in
      let entry =
      all-at (λ (f : WriteEntry). logged_right S.cells f.cell f.word) writes no_write (and_left _ _ logs.writes_hold) taken
      (ltb-true _ _ (and_left _ _ (and_right _ _ held))) in
      rw x (ap (λ (y : Cell). y.stamp) (get_or-set_same S.cells (get_or writes taken no_write).cell _ no_cell (ltb-true _ _ (and_left _ _ entry))))

stamps-right : (S : State) → state_right controller S ≡ true → (call : Call) → reply_code (reply_of (step controller S call)) ≡ 0
    → StampsRight S call (after S (step controller S call))
unfolding step step_of decoded ◌and◌
stamps-right S right call code =
    let slot = call.slot in
    let i = pred slot in
    let by-6 : call.step ≡ 6 → step controller S call ≡ inside_slots controller slot (enter controller S i) = λ e. rw e in
    let by-10 : call.step ≡ 10 → step controller S call ≡ inside_slots controller slot (reload controller S i) = λ e. rw e in
    let by-13 : call.step ≡ 13 → step controller S call ≡ inside_slots controller slot (publish controller S i) = λ e. rw e in
    record {
      taken = ⊎_elim
          (λ e. subst (Took S right slot) (sym (by-6 e)) (entered S right slot) code)
          (λ e. subst (Took S right slot) (sym (by-10 e)) (reloads S right slot) code);
      published = λ e. subst (Published S right slot) (sym (by-13 e)) (published S right slot) code;
    }

inventing-stamps : (core : Core) → InventsStamps core → Meets core → ⊥
inventing-stamps core x meets =
    let here = of-area x.asked in
    let l = x.area in
    let S = state_of controller l in
    let packed = pack-state controller l x.asked.bytes x.asked.formed in
    let code = no_code _ (subst (λ (r : ℕ). r / 2 ^ 40 ≡ 0) (exactly here core meets).0 (subst (λ (m : List ℕ). (core m x.call).answer / 2 ^ 40 ≡ 0) (sym packed) x.accepted)) in
    x.wrong
    (subst (λ (m : List ℕ). StampsRight S x.call (state_of controller (core m x.call).left)) packed
    (subst (StampsRight S x.call) (sym (leaves here core meets)) (stamps-right S here.right x.call code)))

pub shut_out : ShutOut
unfolding core_of step_on_bytes
shut_out =
    record {
      refusing = refusing;
      replying_the_same = replying-the-same;
      changing_nothing = changing-nothing;
      writing_at_finish = writing-at-finish;
      pretending_to_publish = pretending-to-publish;
      writes_at_finish = writes-at-finish;
      pretends_to_publish = pretends-to-publish;
      writing_and_pretending = writing-at-finish (core_of writes_and_pretends) writes-at-finish;
      inventing_stamps = inventing-stamps;
      right_step = λ l call a. record { answer = refl; bytes = refl };
    }
