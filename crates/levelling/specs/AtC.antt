-- What calls of `crocktendril_step` and of `crocktendril_wear` come to on one area, in any mix.
use Rattle.std.specs.Prelude.{true, List, [], ◌∷◌, ◌++◌, ◌⊎◌, ◌≡◌, ℕ, ◌/◌, ◌%◌, ◌^◌, ◌<◌, length, get_or, ◌≤ℤ◌}
use Rattle.wire.specs.Field.{Bytes}
use Rattle.slot.specs.Logic.{All}
use Rattle.rules.specs.Model.{controller}
use Rattle.rules.specs.State.{cell_at}
use Rattle.rules.specs.Step.{Call}
use Rattle.rules.specs.Layout.{state_of}
use Rattle.rules.specs.AreaRight.{well_formed}
use Rattle.rules.specs.Area.{at_rest}
use Rattle.history.specs.History.{Event, Demand3}
use Rattle.history.specs.AreaHistory.{area_history}
use Rattle.history.specs.InTheWay.{InTheWay}
use Rattle.fresh.specs.LaidOut.{LaidOut}
use Rattle.crocktendril.specs.Contract.{Stepped}
use Rattle.wear.specs.Wear.{wear}
use Rattle.wear.specs.Contract.{Worn}
use Rattle.levelling.specs.AsCalls.{wear_calls}
use Rattle.levelling.specs.CountsUp.{CountsUp, CountsAre, OnlyLevelled, signed}

-- a call from C: what was asked, what was answered, and the bytes that it left
pub data Made : Type 0 where
  step_made : (call : Call) (answer : ℕ) (left : List ℕ) → Made
  wear_made : (set : List ℕ) (slot answer : ℕ) (left : List ℕ) → Made

abbrev pub left_by : Made → List ℕ
left_by (step_made call answer left) = left
left_by (wear_made set slot answer left) = left

-- it keeps its contract on the bytes that it is made on
abbrev pub Keeping : List ℕ → Made → Type 0
Keeping l (step_made call answer left) = Stepped l call answer left
Keeping l (wear_made set slot answer left) = Worn l set slot answer left

-- calls on one area that begins as `l`, each on the bytes that the one before it left
unfoldable pub in_turn : List ℕ → List Made → Type 0
in_turn l [] = Unit {0}
in_turn l (m ∷ made) = Keeping l m × in_turn (left_by m) made

unfoldable pub last_left : List ℕ → List Made → List ℕ
last_left l [] = l
last_left l (m ∷ made) = last_left (left_by m) made

-- the core calls that they come to
abbrev pub core_calls : List ℕ → Made → List Call
core_calls l (step_made call answer left) = call ∷ []
core_calls l (wear_made set slot answer left) = wear_calls controller (state_of controller l) set slot

unfoldable pub all_core_calls : List ℕ → List Made → List Call
all_core_calls l [] = []
all_core_calls l (m ∷ made) = core_calls l m ++ all_core_calls (left_by m) made

-- .. and their history
abbrev pub happened : List ℕ → List Made → List Event
happened l made = area_history controller l (all_core_calls l made)

-- the code in a call's answer, where each of the two functions has it
abbrev pub code_in : Made → ℕ
code_in (step_made call answer left) = answer / 2 ^ 40
code_in (wear_made set slot answer left) = answer / 2 ^ 40 % 2 ^ 8

pub record WearAtC : Type 0 where
  -- Arbitrary contents and arguments get a definite answer.
  pub definite : (l set : List ℕ) (slot r₁ r₂ : ℕ) (l₁ l₂ : List ℕ) → Worn l set slot r₁ l₁ → Worn l set slot r₂ l₂ → (r₁ ≡ r₂) × (l₁ ≡ l₂)
  -- place, code, kind and word come back from the number of a well-formed area's answer
  pub parts : (l set : List ℕ) (slot r : ℕ) (l' : List ℕ) → Bytes l → well_formed controller l ≡ true → Worn l set slot r l'
      → let w = wear controller (state_of controller l) set slot in
      (r / 2 ^ 48 ≡ w.place) × (r / 2 ^ 40 % 2 ^ 8 ≡ w.code) × (r / 2 ^ 32 % 2 ^ 8 ≡ w.kind) × (r % 2 ^ 32 ≡ w.word)
  -- A well-formed area never gets code 1.
  pub area_never1 : (l set : List ℕ) (slot r : ℕ) (l' : List ℕ) → Bytes l → well_formed controller l ≡ true → Worn l set slot r l' → r / 2 ^ 40 % 2 ^ 8 ≡ 1 → ⊥
  -- 14 has kind 2, and the word is the slot in the way: it holds the set's cell at the place.
  pub read_held : (l set : List ℕ) (slot r : ℕ) (l' : List ℕ) → Bytes l → Worn l set slot r l' → r / 2 ^ 40 % 2 ^ 8 ≡ 14
      → (r / 2 ^ 32 % 2 ^ 8 ≡ 2) × (r / 2 ^ 48 < length set) × InTheWay controller (state_of controller l) slot (get_or set (r / 2 ^ 48) 0) (r % 2 ^ 32)
  -- Codes 1, 32, 3 and 4 change no byte.
  pub untouched : (l set : List ℕ) (slot r : ℕ) (l' : List ℕ) → Bytes l → Worn l set slot r l'
      → (r / 2 ^ 40 % 2 ^ 8 ≡ 1) ⊎ (r / 2 ^ 40 % 2 ^ 8 ≡ 32) ⊎ (r / 2 ^ 40 % 2 ^ 8 ≡ 3) ⊎ (r / 2 ^ 40 % 2 ^ 8 ≡ 4) → l' ≡ l

-- Steps and wear operations, in any mix. From an area at rest, as one that was laid out is, where nothing else is said.
pub record MixAtC : Type 0 where
  pub keeps_well_formed : (l : List ℕ) (made : List Made) → Bytes l → well_formed controller l ≡ true → in_turn l made → well_formed controller (last_left l made) ≡ true
  -- On an area that was laid out, and then only used by these two functions, neither of them ever answers code 1.
  pub never1 : (l ds a : List ℕ) (made : List Made) → LaidOut l ds 0 a → in_turn a made → All (λ (m : Made). code_in m ≡ 1 → ⊥) made
  pub demand3 : (l : List ℕ) (made : List Made) → Bytes l → at_rest controller l ≡ true → in_turn l made
      → Demand3 (state_of controller l) (happened l made) (state_of controller (last_left l made))
  pub demand3_from_lay_out : (l ds a : List ℕ) (made : List Made) → LaidOut l ds 0 a → in_turn a made
      → Demand3 (state_of controller a) (happened a made) (state_of controller (last_left a made))
  -- Each commit that levels raises its group's count by exactly one, and that group is the least worn one if no mark on the set was ignored ..
  pub counts_up : (l : List ℕ) (made : List Made) → Bytes l → at_rest controller l ≡ true → in_turn l made → CountsUp (state_of controller l) (happened l made)
  pub counts_up_from_lay_out : (l ds a : List ℕ) (made : List Made) → LaidOut l ds 0 a → in_turn a made → CountsUp (state_of controller a) (happened a made)
  -- .. a count that only such commits write is what it began with and one more for each of them ..
  pub counts_are : (l : List ℕ) (made : List Made) → Bytes l → at_rest controller l ≡ true → in_turn l made
      → CountsAre (state_of controller l) (happened l made) (state_of controller (last_left l made))
  pub counts_are_from_lay_out : (l ds a : List ℕ) (made : List Made) → LaidOut l ds 0 a → in_turn a made
      → CountsAre (state_of controller a) (happened a made) (state_of controller (last_left a made))
  -- .. and it never falls.
  pub never_falls : (l : List ℕ) (earlier later : List Made) → Bytes l → at_rest controller l ≡ true → in_turn l (earlier ++ later) → (c : ℕ)
      → OnlyLevelled (happened l (earlier ++ later)) c
      → signed (cell_at (state_of controller (last_left l earlier)) c).word ≤ℤ signed (cell_at (state_of controller (last_left l (earlier ++ later))) c).word
  pub never_falls_from_lay_out : (l ds a : List ℕ) (earlier later : List Made) → LaidOut l ds 0 a → in_turn a (earlier ++ later) → (c : ℕ)
      → OnlyLevelled (happened a (earlier ++ later)) c
      → signed (cell_at (state_of controller (last_left a earlier)) c).word ≤ℤ signed (cell_at (state_of controller (last_left a (earlier ++ later))) c).word
