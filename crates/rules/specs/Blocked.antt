-- "Two slots may each hold what the other has read and both get 11 from reload without end."
use Rattle.std.specs.Prelude.{Bool, true, false, cond, List, [], ◌∷◌, map, ◌≡◌, ℕ, eqb, replicate}
use Rattle.call.specs.Answer.{held_word}
use Rattle.slot.specs.Logic.{◌or◌, all}
use Rattle.rules.specs.Model.{controller}
use Rattle.rules.specs.State.{State, idle, twilight}
use Rattle.rules.specs.Step.{Call}
use Rattle.rules.specs.Run.{call, Shown, shown, replies, end_state}
use Rattle.rules.specs.Edges.{two, alone}

-- both begin; slot 1 reads cell 0 and writes cell 1, slot 2 reads cell 1 and writes cell 0; both close, lock and enter
abbrev pub crossing : List Call
crossing =
    alone 1 1
    ∷ alone 1 2
    ∷ call 2 1 0 0 0
    ∷ call 2 2 1 0 0
    ∷ call 3 1 1 1 1
    ∷ call 3 2 0 2 9
    ∷ alone 4 1
    ∷ alone 4 2
    ∷ alone 5 1
    ∷ alone 5 2
    ∷ alone 6 1
    ∷ alone 6 2
    ∷ []

-- where that leads: slot 1 has read cell 0, which slot 2 holds, and slot 2 has read cell 1, which slot 1 holds
abbrev pub blocked : State
blocked =
    record {
      clock = 2;
      cells = record { kind = 2; holder = 2; word = 5; stamp = 0 } ∷ record { kind = 1; holder = 1; word = 0; stamp = 0 } ∷ [];
      slots =
          twilight false 0 1 (record { cell = 0; mark = true; word = 5 } ∷ []) (record { cell = 1; word = 1 } ∷ [])
          ∷ twilight false 0 2 (record { cell = 1; mark = true; word = 0 } ∷ []) (record { cell = 0; word = 9 } ∷ [])
          ∷ replicate 6 idle;
    }

abbrev pub reload_of : ℕ → Call
reload_of slot = alone 10 slot

-- what each is told: slot 1 that slot 2 holds cell 0, slot 2 that slot 1 holds cell 1
abbrev pub who_blocks : ℕ → Shown
who_blocks slot = shown 11 2 (cond (eqb slot 1) (held_word 0 2) (held_word 1 1))

-- a list of slots, each 1 or 2
unfoldable pub of_the_two : List ℕ → Bool
of_the_two slots = all (λ s. eqb s 1 or eqb s 2) slots

pub record Blocked : Type 0 where
  -- It is reached from a fresh state.
  pub reached : end_state controller two crossing ≡ blocked
  -- Any list of reloads of the two, in any order: each gets 11 with the other's number, and nothing changes.
  pub endless : (slots : List ℕ) → of_the_two slots ≡ true → replies controller blocked (map reload_of slots) ≡ map who_blocks slots
  pub kept : (slots : List ℕ) → of_the_two slots ≡ true → end_state controller blocked (map reload_of slots) ≡ blocked
