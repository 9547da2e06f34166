-- What a test that steps share says of a row: it goes on, or it is refused.
use Rattle.std.specs.Prelude.{◌≡◌, ℕ, Result, MatchResult}
use Rattle.call.specs.declared.Refusal.{Refusal}
use Rattle.call.specs.declared.Refusal.TheVariants.{NotAllowed}
use Rattle.rules.specs.Outcome.{Outcome, refused}
use Rattle.ways.specs.declared.Phase.{Phase}
use Rattle.ways.specs.declared.Phase.TheVariants.{Idle, Open, Locking, Twilight, Publishing}

-- the number that a slot's record has for its phase
abbrev pub phase_number : Phase → ℕ
phase_number Idle = 0
phase_number Open = 1
phase_number Locking = 2
phase_number Twilight = 3
phase_number Publishing = 4

-- code 4: a slot in the phase passes, and one in another phase is refused
abbrev pub InPhase : {A : Type 0} → Result A Refusal → ℕ → ℕ → Type 0
InPhase r phase asked = MatchResult r (λ _. phase ≡ asked) (λ e. (e ≡ NotAllowed) × (phase ≡ asked → ⊥))

-- a row that begins with this test goes on where the test passes, and is refused as the test says
abbrev pub Guards : {A : Type 0} → Result A Refusal → (Outcome → Outcome) → Type 0
Guards r test = MatchResult r (λ _. (rest : Outcome) → test rest ≡ rest) (λ e. (rest : Outcome) → test rest ≡ refused e)

-- the same, where the row goes on with what the test found
abbrev pub Gives : {A : Type 0} → Result A Refusal → ((A → Outcome) → Outcome) → Type 0
Gives r test = MatchResult r (λ x. (rest : _ → Outcome) → test rest ≡ rest x) (λ e. (rest : _ → Outcome) → test rest ≡ refused e)
