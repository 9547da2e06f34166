-- The three demands of the two functions, as statements about what their contracts allow. In quotation marks: the demands' own words.
use Rattle.std.specs.Prelude.{true, List, [], ◌∷◌, map, ◌≡◌, ℕ, ◌/◌, ◌%◌, ◌^◌, ◌≤◌}
use Rattle.wire.specs.Field.{Bytes}
use Rattle.call.specs.Answer.{reply_code, reply_kind, reply_word, reply_number, Refuses, SaysWho}
use Rattle.rules.specs.Model.{controller}
use Rattle.rules.specs.State.{State}
use Rattle.rules.specs.StateRight.{state_right}
use Rattle.rules.specs.Outcome.{reply_of, after}
use Rattle.rules.specs.Step.{Call, step}
use Rattle.rules.specs.Layout.{pack, state_of}
use Rattle.rules.specs.Area.{step_on_bytes, at_rest}
use Rattle.rules.specs.RoundTrip.{RoundTrip}
use Rattle.history.specs.History.{Event, Demand3}
use Rattle.history.specs.AreaHistory.{area_history}
use Rattle.history.specs.InTheWay.{SaysHeld}
use Rattle.fresh.specs.LaidOut.{LaidOut}
use Rattle.crocktendril.specs.Contract.{Stepped}

-- Demand 1. Nothing is asked of `l`, `ds` and `call`, here or in the contracts: "No caller has to check first."
pub record Demand1 : Type 0 where
  -- "An area lent with arbitrary contents, and arbitrary arguments, get a definite reply."
  pub step_definite : (l : List ℕ) (call : Call) (r₁ r₂ : ℕ) (l₁ l₂ : List ℕ) → Stepped l call r₁ l₁ → Stepped l call r₂ l₂ → (r₁ ≡ r₂) × (l₁ ≡ l₂)
  pub lay_out_definite : (l ds : List ℕ) (r₁ r₂ : ℕ) (l₁ l₂ : List ℕ) → LaidOut l ds r₁ l₁ → LaidOut l ds r₂ l₂ → (r₁ ≡ r₂) × (l₁ ≡ l₂)
  -- the code, the kind and the word come back from the number
  pub code : (l : List ℕ) (call : Call) (r : ℕ) (l' : List ℕ) → Stepped l call r l' → r / 2 ^ 40 ≡ reply_code (step_on_bytes controller l call).reply
  pub kind : (l : List ℕ) (call : Call) (r : ℕ) (l' : List ℕ) → Stepped l call r l' → r / 2 ^ 32 % 256 ≡ reply_kind (step_on_bytes controller l call).reply
  pub word : (l : List ℕ) (call : Call) (r : ℕ) (l' : List ℕ) → Stepped l call r l' → r % 2 ^ 32 ≡ reply_word (step_on_bytes controller l call).reply
  -- "A refused call gives its listed code with kind and word zero, and changes no byte of the area." A refusal is every code but 0 and 13: each changes no byte ..
  pub refusal : (l : List ℕ) (call : Call) (r : ℕ) (l' : List ℕ) → Stepped l call r l' → Refuses (r / 2 ^ 40) → l' ≡ l
  -- .. and each but 11 and 14, which say who is in the way, has kind and word zero.
  pub bare : (l : List ℕ) (call : Call) (r : ℕ) (l' : List ℕ) → Stepped l call r l' → Refuses (r / 2 ^ 40) → (SaysWho (r / 2 ^ 40) → ⊥)
      → (r / 2 ^ 32 % 256 ≡ 0) × (r % 2 ^ 32 ≡ 0)
  -- What these two say of an area, which is made of bytes: kind 2, and a word that names a slot in the caller's way, and its cell, in the state that the area has.
  pub says_held : (l : List ℕ) (call : Call) (r : ℕ) (l' : List ℕ) → Stepped l call r l' → Bytes l
      → SaysHeld controller (state_of controller l) call (r / 2 ^ 40) (r / 2 ^ 32 % 256) (r % 2 ^ 32)
  pub lay_out_refusal : (l ds : List ℕ) (r : ℕ) (l' : List ℕ) → LaidOut l ds r l' → 1 ≤ r → l' ≡ l

-- Demand 2
pub record Demand2 : Type 0 where
  -- "Every step does exactly what the Twilight rules of the dissertation, source document 000, say as document 01 fixes them."
  pub step_exact : (S : State) (call : Call) (r : ℕ) (l' : List ℕ) → state_right controller S ≡ true → Stepped (pack controller S) call r l'
      → (r ≡ reply_number (reply_of (step controller S call))) × (l' ≡ pack controller (after S (step controller S call)))
  -- "Packing a well-formed state into its area and unpacking it lose nothing either way."
  pub round_trip : RoundTrip controller

-- One call of `crocktendril_step`: what was asked, what was answered, and the bytes that it left.
pub record Made : Type 0 where
  pub call : Call
  pub answer : ℕ
  pub left : List ℕ

-- calls on one area that begins as `l`: each keeps the contract on the bytes that the one before it left
unfoldable pub in_turn : List ℕ → List Made → Type 0
in_turn l [] = Unit {0}
in_turn l (m ∷ made) = Stepped l m.call m.answer m.left × in_turn m.left made

unfoldable pub last_left : List ℕ → List Made → List ℕ
last_left l [] = l
last_left l (m ∷ made) = last_left m.left made

-- the history of those calls
abbrev pub happened : List ℕ → List Made → List Event
happened l made = area_history controller l (map (λ (m : Made). m.call) made)

-- Demand 3. "Start from an area at rest and take any list of calls from any slots." What it says of them, sentence by sentence, are the fields of `Demand3`.
pub record Demand3AtC : Type 0 where
  -- the history's replies are what C was answered
  pub answers : (l : List ℕ) (made : List Made) → in_turn l made
      → map (λ (m : Made). m.answer) made ≡ map (λ (e : Event). reply_number e.reply) (happened l made)
  pub from_rest : (l : List ℕ) (made : List Made) → Bytes l → at_rest controller l ≡ true → in_turn l made
      → Demand3 (state_of controller l) (happened l made) (state_of controller (last_left l made))
  pub from_lay_out : (l ds a : List ℕ) (made : List Made) → LaidOut l ds 0 a → in_turn a made
      → Demand3 (state_of controller a) (happened a made) (state_of controller (last_left a made))
