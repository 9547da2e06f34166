-- The three demands: the contracts give one answer, and the theorems about the rules say what it is.
use Rattle.std.specs.Prelude.{Err}
use mathlib.Core.Bool.{Bool, true, false, cond}
use mathlib.Core.List.{List, [], ◌∷◌, map}
use mathlib.Core.Path.{◌≡◌, refl, sym, ◌∙◌, ap}
use Prim.Native.Nat.{ℕ, ◌/◌, ◌%◌, ◌^◌, ◌<◌, ◌≤◌}
use native.Mathlib.Omega.{arith}
use lib.Dec.{lit<}
use Rattle.value.specs.Legal.{legal_word}
use Rattle.wire.specs.Field.{Bytes}
use Rattle.wire.proofs.Unique.{unique}
use Rattle.slot.specs.Logic.{all}
use Rattle.rules.specs.declared.Cell.{Cell}
use Rattle.call.specs.Answer.{Reply, reply_code, reply_kind, reply_word, reply_number, Refuses, SaysWho}
use Rattle.call.specs.declared.Refusal.TheVariants.{NotWellFormed}
use Rattle.call.proofs.Replies.{refusal-bare, number-splits}
use Rattle.rules.specs.Model.{controller}
use Rattle.rules.specs.Outcome.{reply_of}
use Rattle.rules.specs.Step.{Call, step}
use Rattle.rules.specs.Layout.{pack, state_of}
use Rattle.rules.specs.AreaRight.{well_formed}
use Rattle.rules.specs.Area.{Laying, Answered, step_on_bytes, at_rest, described_cells, fresh, lengths_fit, lay_out}
use Rattle.rules.proofs.Controller.{controller-fits}
use Rattle.rules.proofs.RoundTrip.{state-right, round_trip}
use Rattle.rules.proofs.LaidOut.{laid-right, lays-out}
use Rattle.history.specs.History.{Event, Demand3}
use Rattle.history.specs.Keeps.{bytes_after}
use Rattle.history.specs.AreaHistory.{area_history}
use Rattle.history.specs.InTheWay.{SaysHeld, Says}
use Rattle.history.proofs.Keeps.{keeps}
use Rattle.history.proofs.Keeps.OnBytes.{answered-reply, stepped-packed}
use Rattle.history.proofs.Histories.{histories}
use Rattle.history.proofs.InTheWay.{silent, tells-who}
use Rattle.history.proofs.Keeps.Lists.{cond-elim}
use Rattle.crocktendril.specs.Contract.{Stepped}
use Rattle.crocktendril.specs.Demands.{Demand1, Demand2, Made, in_turn, last_left, happened, Demand3AtC}
use Rattle.crocktendril.proofs.Words.{formed-word}

abbrev laid : ℕ → List ℕ → Laying
laid code bytes = record { code = code; bytes = bytes }

-- the reply on bytes is that of the step, or that they are no area
reply-case : (P : Reply → Type 0) (l : List ℕ) (call : Call) → P (Err NotWellFormed) → (well_formed controller l ≡ true → P (reply_of (step controller (state_of controller l) call)))
    → P (step_on_bytes controller l call).reply
unfolding step_on_bytes
reply-case P l call unformed formed =
    cond-elim (λ (x : Answered). P x.reply) (well_formed controller l) _ _
    (λ right. rw (answered-reply controller l (step controller (state_of controller l) call)) (formed right)) (λ wrong. unformed)

reply-word : (l : List ℕ) (call : Call) → reply_word (step_on_bytes controller l call).reply < 2 ^ 32
reply-word l call = reply-case (λ r. reply_word r < 2 ^ 32) l call (lit< tt) (λ formed. formed-word controller l formed controller-fits call)

splits : (l : List ℕ) (call : Call)
    → (reply_number (step_on_bytes controller l call).reply / 2 ^ 40 ≡ reply_code (step_on_bytes controller l call).reply)
    × (reply_number (step_on_bytes controller l call).reply / 2 ^ 32 % 2 ^ 8 ≡ reply_kind (step_on_bytes controller l call).reply)
    × (reply_number (step_on_bytes controller l call).reply % 2 ^ 32 ≡ reply_word (step_on_bytes controller l call).reply)
splits l call = number-splits (step_on_bytes controller l call).reply (reply-word l call)

module _ (l : List ℕ) (call : Call) (r : ℕ) (l' : List ℕ) (s : Stepped l call r l') where
  abbrev reply : Reply
  reply = (step_on_bytes controller l call).reply

  told-code : r / 2 ^ 40 ≡ reply_code reply
  told-code = ap (λ n. n / 2 ^ 40) s.answer ∙ (splits l call).0

  told-kind : r / 2 ^ 32 % 256 ≡ reply_kind reply
  told-kind = ap (λ n. n / 2 ^ 32 % 256) s.answer ∙ (splits l call).1

  told-word : r % 2 ^ 32 ≡ reply_word reply
  told-word = ap (λ n. n % 2 ^ 32) s.answer ∙ (splits l call).2

  untouched : Refuses (r / 2 ^ 40) → l' ≡ l
  untouched refuses = s.bytes ∙ (keeps controller controller-fits).untouched l call (rw told-code at refuses)

  is-bare : Refuses (r / 2 ^ 40) → (SaysWho (r / 2 ^ 40) → ⊥) → (r / 2 ^ 32 % 256 ≡ 0) × (r % 2 ^ 32 ≡ 0)
  is-bare refuses who = let bare = refusal-bare reply (rw told-code at refuses.0) (rw told-code at who) in (told-kind ∙ bare.0, told-word ∙ bare.1)

  -- what the step on the state says of a holder, the number says
  says-held : Bytes l → SaysHeld controller (state_of controller l) call (r / 2 ^ 40) (r / 2 ^ 32 % 256) (r % 2 ^ 32)
  says-held bytes =
      rw (told-code, told-kind, told-word)
      (reply-case (Says controller (state_of controller l) call) l call (silent (λ e. omega arith) (λ e. omega arith))
      (λ formed. (tells-who controller controller-fits).tells (state_of controller l) call (state-right controller l bytes formed)))

-- a lay-out that is refused writes nothing
refused-lay-out : (fit legal : Bool) (x : List ℕ) (l : List ℕ)
    → 1 ≤ (cond fit (cond legal (laid 0 x) (laid 6 l)) (laid 1 l)).code → (cond fit (cond legal (laid 0 x) (laid 6 l)) (laid 1 l)).bytes ≡ l
refused-lay-out true true x l h = absurd (omega arith)
refused-lay-out true false x l h = refl
refused-lay-out false legal x l h = refl

pub demand1 : Demand1
unfolding lay_out
demand1 =
    record {
      step_definite = λ l call r₁ r₂ l₁ l₂ s t. (unique s.answer t.answer, unique s.bytes t.bytes);
      lay_out_definite = λ l ds r₁ r₂ l₁ l₂ s t. (unique s.answer t.answer, unique s.bytes t.bytes);
      code = told-code;
      kind = told-kind;
      word = told-word;
      refusal = untouched;
      bare = is-bare;
      says_held = says-held;
      lay_out_refusal = λ l ds r l' s h. s.bytes ∙ refused-lay-out (lengths_fit controller l ds) (all (λ (x : Cell). legal_word x.kind x.word) (described_cells ds))
          (pack controller (fresh controller (described_cells ds))) l (rw s.answer at h);
    }

pub demand2 : Demand2
demand2 =
    record {
      step_exact = λ S call r l' right s.
          let here = stepped-packed controller controller-fits S call right in (
            s.answer ∙ ap (λ (x : Answered). reply_number x.reply) here,
            s.bytes ∙ ap (λ (x : Answered). x.bytes) here,
          );
      round_trip = round_trip controller controller-fits;
    }

-- calls in turn answer what the history of the area says, and leave the bytes that it ends in
same-answers : (l : List ℕ) (made : List Made) → in_turn l made
    → map (λ (m : Made). m.answer) made ≡ map (λ (e : Event). reply_number e.reply) (happened l made)
unfolding in_turn area_history
same-answers l [] turns = refl
same-answers l (m ∷ made) turns =
    let here = turns.0 in
    rw (here.answer, same-answers m.left made turns.1, here.bytes)

pub same_end : (l : List ℕ) (made : List Made) → in_turn l made → last_left l made ≡ bytes_after controller l (map (λ (m : Made). m.call) made)
unfolding in_turn last_left bytes_after
same_end l [] turns = refl
same_end l (m ∷ made) turns = same_end m.left made turns.1 ∙ ap (λ (b : List ℕ). bytes_after controller b (map (λ (x : Made). x.call) made)) turns.0.bytes

from-rest : (l : List ℕ) (made : List Made) → Bytes l → at_rest controller l ≡ true → in_turn l made
    → Demand3 (state_of controller l) (happened l made) (state_of controller (last_left l made))
from-rest l made bytes rest turns =
    rw (same_end l made turns) ((histories controller controller-fits).of_areas l bytes rest (map (λ (m : Made). m.call) made))

-- a laid-out area is bytes, and at rest
pub laid-bytes : (l ds : List ℕ) → (lay_out controller l ds).code ≡ 0 → Bytes (lay_out controller l ds).bytes
laid-bytes l ds done =
    rw ((lays-out controller controller-fits).packed l ds done)
    ((round_trip controller controller-fits).pack_bytes (fresh controller (described_cells ds)) (laid-right controller controller-fits l ds done))

pub demand3-at-c : Demand3AtC
demand3-at-c =
    record {
      answers = same-answers;
      from_rest = from-rest;
      from_lay_out = λ l ds a made laid_out turns.
          let done = sym laid_out.answer in
          from-rest a made (rw laid_out.bytes (laid-bytes l ds done)) (rw laid_out.bytes ((lays-out controller controller-fits).rests l ds done)) turns;
    }
