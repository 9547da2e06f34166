-- Sheet S: its cells, its 21 steps, and what it prints.
use Rattle.std.specs.Prelude.{List, [], ◌∷◌, ◌≡◌, replicate}
use Rattle.rules.specs.Model.{controller}
use Rattle.rules.specs.State.{State, idle}
use Rattle.rules.specs.Step.{Call}
use Rattle.rules.specs.Area.{fresh}
use Rattle.rules.specs.Run.{call, Shown, shown, replies, end_state}
use Rattle.rules.specs.Edges.{fresh_cell, alone, done}

-- cells (2, 5) and (2, 7)
abbrev pub before_s : State
before_s = fresh controller (fresh_cell 2 5 ∷ fresh_cell 2 7 ∷ [])

abbrev pub steps_of_s : List Call
steps_of_s =
    alone 1 1
    ∷ call 2 1 0 0 0
    ∷ alone 1 2
    ∷ call 3 2 0 2 9
    ∷ alone 4 2
    ∷ alone 5 2
    ∷ call 2 1 0 0 0
    ∷ alone 6 2
    ∷ alone 12 2
    ∷ call 2 1 1 0 0
    ∷ alone 13 2
    ∷ call 3 1 1 2 8
    ∷ alone 4 1
    ∷ alone 5 1
    ∷ alone 6 1
    ∷ call 9 1 0 0 0
    ∷ alone 10 1
    ∷ call 7 1 0 0 0
    ∷ call 8 1 1 2 10
    ∷ alone 12 1
    ∷ alone 13 1
    ∷ []

abbrev pub shown_of_s : List Shown
shown_of_s =
    done
    ∷ shown 0 2 5
    ∷ done
    ∷ done
    ∷ done
    ∷ done
    ∷ shown 0 2 5
    ∷ shown 0 1 1
    ∷ done
    ∷ shown 0 2 7
    ∷ done
    ∷ done
    ∷ done
    ∷ done
    ∷ shown 0 1 0
    ∷ shown 0 1 1
    ∷ done
    ∷ shown 0 2 9
    ∷ done
    ∷ done
    ∷ done
    ∷ []

pub record SheetS : Type 0 where
  pub lines : replies controller before_s steps_of_s ≡ shown_of_s
  -- cell 0 2 00000009 1 0; cell 1 2 0000000a 3 0; clock 3
  pub final :
      end_state controller before_s steps_of_s
      ≡ record {
        clock = 3;
        cells = record { kind = 2; holder = 0; word = 9; stamp = 1 } ∷ record { kind = 2; holder = 0; word = 10; stamp = 3 } ∷ [];
        slots = replicate 8 idle;
      }
