-- The events of a run, step by step: the effects that are made of the steps are those of the history.
use mathlib.Core.Bool.{Bool, true, false}
use mathlib.Core.List.{List, [], ◌∷◌, ◌++◌, append-nil, append_assoc}
use mathlib.Core.Path.{◌≡◌, refl, sym, ap, ap₂, ◌∙◌}
use Prim.Native.Nat.{ℕ, zero, suc, ◌+◌, ◌<◌, ◌≤◌}
use native.Mathlib.Numerals.{add-one}
use native.Mathlib.Omega.{arith}
use borrow.Author.Tests.{eqb-true, eqb-false, eq-eqb}
use lib.Dec.{eqb}
use lib.ListN.{length, get_or, set, get_or-replicate, length-set}
use lib.Seq.{get_or-set_same, get_or-set_other}
use Rattle.wire.specs.Table.{cat, tab}
use Rattle.slot.specs.Logic.{◌and◌}
use Rattle.slot.proofs.Logic.{and_intro}
use Rattle.apart.proofs.Tests.{fails, goes_on}
use Rattle.rules.specs.Model.{Model, controller}
use Rattle.rules.specs.Step.{Call}
use Rattle.rules.specs.Layout.{state_of}
use Rattle.rules.specs.Area.{step_on_bytes}
use Rattle.history.specs.History.{Event, accepts}
use Rattle.history.specs.AreaHistory.{area_history}
use Rattle.history.specs.Keeps.{bytes_after}
use Rattle.history.proofs.Histories.{bytes-append}
use Rattle.stage.specs.Calls.{call_at, area_after}
use Rattle.stage.proofs.First.{Kept}
use Rattle.tally.specs.declared.Numbers.{Numbers}
use Rattle.effects.specs.Effects.{begins, number_of, effect_of, effects_after, effects}
use Rattle.tally.specs.Numbering.{no_numbers}
use Rattle.effects.specs.Steps.{code_on, numbers_on, numbers_at, effects_up_to}
use Rattle.tally.proofs.Numbering.{one_more, no-begin, refused-begin}
use Rattle.effects.proofs.Short.{begins-next}
use Rattle.effects.proofs.OneStep.{event_on, inside, effect-right}

-- what has happened, the latest first
abbrev latest : List Event → List Event → List Event
latest past [] = past
latest past (e ∷ events) = latest (e ∷ past) events

latest-next : (past events : List Event) (e : Event) → latest past (events ++ (e ∷ [])) ≡ e ∷ latest past events
latest-next past [] e = refl
latest-next past (d ∷ events) e = latest-next (d ∷ past) events e

-- the effects of one event more
effects-next : (past events : List Event) (e : Event)
    → effects_after past (events ++ (e ∷ [])) ≡ effects_after past events ++ effect_of (number_of (e ∷ latest past events) e.call.slot) e
unfolding effects_after
effects-next past [] e = append-nil _
effects-next past (d ∷ events) e =
    ap (λ (l : _). effect_of (number_of (d ∷ past) d.call.slot) d ++ l) (effects-next (d ∷ past) events e)
    ∙ sym (append_assoc (effect_of (number_of (d ∷ past) d.call.slot) d) _ _)

-- the history of one call more
module _ (M : Model) where
  history-next : (a : List ℕ) (calls : List Call) (c : Call)
      → area_history M a (calls ++ (c ∷ []))
      ≡ area_history M a calls ++ (record { before = state_of M (bytes_after M a calls); call = c; reply = (step_on_bytes M (bytes_after M a calls) c).reply } ∷ [])
  unfolding area_history bytes_after
  history-next a [] c = refl
  history-next a (d ∷ calls) c =
      ap (λ (l : List Event). record { before = state_of M a; call = d; reply = (step_on_bytes M a d).reply } ∷ l) (history-next (step_on_bytes M a d).bytes calls c)

-- the numbers that are kept are those of what has happened
record Counted (past : List Event) (v : Numbers) : Type 0 where
  begun : v.begun ≡ begins past
  size : length v.last ≡ 9
  last : (slot : ℕ) → slot < 9 → get_or v.last slot 0 ≡ number_of past slot

counted_none : Counted [] no_numbers
unfolding begins number_of
counted_none = record { begun = refl; size = refl; last = λ slot h. get_or-replicate 9 slot 0 0 h }

-- one call more
module _ (a : List ℕ) (kept : Kept a) (call : Call) (past : List Event) (v : Numbers) (counted : Counted past v) where
  abbrev now : List Event
  now = event_on a call ∷ past

  -- no accepted begin
  silent : accepts 1 (event_on a call) ≡ false → v ≡ numbers_on a call v → Counted now (numbers_on a call v)
  unfolding begins number_of ◌and◌
  silent quiet same = rw (← same) (record { begun = rw quiet counted.begun; size = counted.size; last = λ slot h. rw quiet (counted.last slot h) })

  -- an accepted one
  module _ (step : call.step ≡ 1) (code : code_on a call ≡ 0) where
    counts : accepts 1 (event_on a call) ≡ true
    counts = and_intro _ _ (eq-eqb call.step 1 step) (eq-eqb (code_on a call) 0 code)

    one-begun : v.begun + 1 ≡ begins now
    unfolding begins
    one-begun = rw counts (add-one v.begun ∙ ap suc counted.begun)

    numbered : (slot : ℕ) → call.slot < 9 → slot < 9 → (t : Bool) → eqb call.slot slot ≡ t → get_or (set v.last call.slot (v.begun + 1)) slot 0 ≡ number_of now slot
    unfolding number_of ◌and◌
    numbered slot there h true e =
        let same : call.slot ≡ slot = eqb-true _ _ e in
        rw (counts, e, ← same) (get_or-set_same v.last call.slot (v.begun + 1) 0 (rw counted.size there) ∙ one-begun)
    numbered slot there h false e =
        rw (counts, e) (get_or-set_other v.last call.slot slot (v.begun + 1) 0 (λ p. eqb-false _ _ e (sym p)) ∙ counted.last slot h)

    begins-here : begins past < 4096 → Counted now (numbers_on a call v)
    begins-here few =
        let there : call.slot < 9 = let h = inside a kept call (λ k. k.0 code) in omega arith in
        let more = one_more v call.step call.slot (code_on a call) step code there (λ e. omega (arith, counted.begun)) in
        rw (← more)
        (record {
          begun = one-begun;
          size = rw length-set counted.size;
          last = λ slot h. numbered slot there h (eqb call.slot slot) refl;
        })

  counted_next : begins past < 4096 → Counted now (numbers_on a call v)
  counted_next few = by (eqb call.step 1) (eqb (code_on a call) 0) refl refl
    where
      by : (s z : Bool) → eqb call.step 1 ≡ s → eqb (code_on a call) 0 ≡ z → Counted now (numbers_on a call v)
      by true true p q = begins-here (eqb-true _ 1 p) (eqb-true _ 0 q) few
      by true false p q =
          silent (goes_on _ _ p q) (refused-begin v call.step call.slot (code_on a call) (eqb-false _ 0 q))
      by false z p q = silent (fails _ _ p) (no-begin v call.step call.slot (code_on a call) (eqb-false _ 1 p))

-- a run of the steps `l` from an area `a` on
module _ (a l : List ℕ) where
  -- the event of step k, and the first k events
  abbrev event_at : ℕ → Event
  event_at k = event_on (area_after a l k) (call_at l k)

  abbrev events_up_to : ℕ → List Event
  events_up_to k = area_history controller a (tab k (call_at l))

  bytes-at : (k : ℕ) → bytes_after controller a (tab k (call_at l)) ≡ area_after a l k
  unfolding tab cat area_after bytes_after
  bytes-at zero = refl
  bytes-at (suc k) = bytes-append controller a (tab k (call_at l)) (call_at l k ∷ []) ∙ ap (λ (x : List ℕ). (step_on_bytes controller x (call_at l k)).bytes) (bytes-at k)

  events-next : (k : ℕ) → events_up_to (suc k) ≡ events_up_to k ++ (event_at k ∷ [])
  unfolding tab cat
  events-next k =
      history-next controller a (tab k (call_at l)) (call_at l k)
      ∙ ap (λ (x : List ℕ). events_up_to k ++ (event_on x (call_at l k) ∷ [])) (bytes-at k)

  -- where every area on the way is well formed, and the steps are not too many
  module _ (kept : (k : ℕ) → Kept (area_after a l k)) where
    abbrev past_at : ℕ → List Event
    past_at k = latest [] (events_up_to k)

    past_next : (k : ℕ) → past_at (suc k) ≡ event_at k ∷ past_at k
    past_next k = ap (latest []) (events-next k) ∙ latest-next [] (events_up_to k) (event_at k)

    begins-few : (k : ℕ) → begins (past_at k) ≤ k
    unfolding begins tab cat area_history
    begins-few zero = omega arith
    begins-few (suc k) = rw past_next (omega (arith, begins-few k, (begins-next (event_at k) (past_at k)).1))

    counted-at : (k : ℕ) → k ≤ 4096 → Counted (past_at k) (numbers_at a l k)
    unfolding numbers_at tab cat area_history
    counted-at zero h = counted_none
    counted-at (suc k) h =
        rw past_next
        (counted_next (area_after a l k) (kept k) (call_at l k) (past_at k) (numbers_at a l k) (counted-at k (omega arith)) (omega (arith, begins-few k)))

    -- the effects that are made of the steps are those of the history
    pub effects-right : (k : ℕ) → k ≤ 4096 → effects_up_to a l k ≡ effects (events_up_to k)
    unfolding effects_up_to effects_after tab cat area_history
    effects-right zero h = refl
    effects-right (suc k) h =
        let call = call_at l k in
        let counted : Counted (event_at k ∷ past_at k) (numbers_at a l (suc k)) = rw past_next at (counted-at (suc k) h) in
        let here = effect-right (area_after a l k) (kept k) call (numbers_at a l (suc k)) (number_of (event_at k ∷ past_at k) call.slot)
        (λ n. counted.last call.slot (let there = inside (area_after a l k) (kept k) call n in omega arith)) in
        ap₂ ◌++◌ (effects-right k (omega arith)) here
        ∙ sym (ap effects (events-next k) ∙ effects-next [] (events_up_to k) (event_at k))
