-- "At the edges": E1 to E12, one table, a field for each. It is said of any way in which calls are made one after the other: on states (below), on the bytes of
-- areas, and of calls from C.
use Rattle.std.specs.Prelude.{true, false, List, [], ◌∷◌, ◌++◌, ◌≡◌, ℕ, ◌^◌, ◌-◌, replicate}
use Rattle.value.specs.Legal.{legal_word}
use Rattle.wire.specs.Table.{tab}
use Rattle.rules.specs.Model.{controller}
use Rattle.rules.specs.State.{State, Slot, idle, locking, twilight}
use Rattle.rules.specs.Step.{Call}
use Rattle.rules.specs.Area.{fresh, lay_out}
use Rattle.rules.specs.Run.{call, Shown, shown, replies, end_state}
use Rattle.rules.specs.declared.Cell.{Cell}

abbrev pub fresh_cell : ℕ → ℕ → Cell
fresh_cell kind word = record { kind = kind; holder = 0; word = word; stamp = 0 }

-- a fresh area with cells (2, 5), (1, 0)
abbrev pub two : State
two = fresh controller (fresh_cell 2 5 ∷ fresh_cell 1 0 ∷ [])

-- .. with 17 cells
abbrev pub seventeen : State
seventeen = fresh controller (replicate 17 (fresh_cell 2 0))

-- .. with clock 2^64 − 2
abbrev pub late : State
late = record { clock = 2 ^ 64 - 2; cells = two.cells; slots = two.slots }

abbrev pub done : Shown
done = shown 0 0 0

abbrev pub refused_with : ℕ → Shown
refused_with code = shown code 0 0

-- a step with a slot alone
abbrev pub alone : ℕ → ℕ → Call
alone step slot = call step slot 0 0 0

-- slot 1 reads cells 0 to 16, then cell 0 again
abbrev pub read_all : List Call
read_all = alone 1 1 ∷ tab 17 (λ c. call 2 1 c 0 0) ++ (call 2 1 0 0 0 ∷ [])

-- slot 1 writes, closes and locks cell 0
abbrev pub hold_first : List Call
hold_first = alone 1 1 ∷ call 3 1 0 2 9 ∷ alone 4 1 ∷ alone 5 1 ∷ []

-- begin, close, enter
abbrev pub up_to_enter : ℕ → List Call
up_to_enter slot = alone 1 slot ∷ alone 4 slot ∷ alone 6 slot ∷ []

-- after E9's first enter: slot 1 in twilight with the last stamp, and the slots after it
abbrev pub latest : List Slot → State
latest others = record { clock = 2 ^ 64 - 1; cells = two.cells; slots = twilight false (2 ^ 64 - 2) (2 ^ 64 - 1) [] [] ∷ others }

-- `Told S calls told`: what calls that start from S are told. `Ends S calls T`: they end in T.
pub record Edges (Told : State → List Call → List Shown → Type 0) (Ends : State → List Call → State → Type 0) : Type 0 where
  -- step 0 on slot 9: 2
  pub E1 : Told two (alone 0 9 ∷ []) (refused_with 2 ∷ [])
  -- begin on slot 9: 3; on slot 8: done
  pub E2 : Told two (alone 1 9 ∷ alone 1 8 ∷ []) (refused_with 3 ∷ done ∷ [])
  -- begin twice on slot 1: the second gives 4
  pub E3 : Told two (alone 1 1 ∷ alone 1 1 ∷ []) (done ∷ refused_with 4 ∷ [])
  -- open, read cell 2: 5
  pub E4 : Told two (alone 1 1 ∷ call 2 1 2 0 0 ∷ []) (done ∷ refused_with 5 ∷ [])
  -- open, write cell 1, kind 1, word 2: 6
  pub E5 : Told two (alone 1 1 ∷ call 3 1 1 1 2 ∷ []) (done ∷ refused_with 6 ∷ [])
  -- write cell 1, kind 2, word 0: 7
  pub E6 : Told two (alone 1 1 ∷ call 3 1 1 2 0 ∷ []) (done ∷ refused_with 7 ∷ [])
  -- real word 7f7fffff is legal, 7f800000 is not
  pub E7_legal : (legal_word 3 0x7f7fffff ≡ true) × (legal_word 3 0x7f800000 ≡ false)
  -- .. through a write to cell 0, of kind 2: 7 and 6
  pub E7_write : Told two (alone 1 1 ∷ call 3 1 0 3 0x7f7fffff ∷ call 3 1 0 3 0x7f800000 ∷ []) (done ∷ refused_with 7 ∷ refused_with 6 ∷ [])
  -- .. through the lay-out of one real cell: 0 and 6
  pub E7_lay_out :
      ((lay_out controller (replicate 1604 0) (3 ∷ 0x7f ∷ 0x7f ∷ 0xff ∷ 0xff ∷ [])).code ≡ 0)
      × ((lay_out controller (replicate 1604 0) (3 ∷ 0x7f ∷ 0x80 ∷ 0 ∷ 0 ∷ [])).code ≡ 6)
  -- 17 cells: reading 16 distinct is done, the 17th gives 9, a second read of the first is done
  pub E8 : Told seventeen read_all (done ∷ replicate 16 (shown 0 2 0) ++ (refused_with 9 ∷ shown 0 2 0 ∷ []))
  -- clock 2^64 − 2: enter is done and the clock is 2^64 − 1; the next enter gives 12 ..
  pub E9 : Told late (up_to_enter 1 ++ up_to_enter 2) (done ∷ done ∷ shown 0 1 1 ∷ done ∷ done ∷ refused_with 12 ∷ [])
  pub E9_clock : Ends late (up_to_enter 1) (latest (replicate 7 idle))
  -- .. and leaves all as it was before it
  pub E9_before : Ends late (up_to_enter 1 ++ (alone 1 2 ∷ alone 4 2 ∷ [])) (latest (locking 0 (2 ^ 64 - 1) [] [] ∷ replicate 6 idle))
  pub E9_kept : Ends late (up_to_enter 1 ++ up_to_enter 2) (latest (locking 0 (2 ^ 64 - 1) [] [] ∷ replicate 6 idle))
  -- begin, close, enter, finish with empty logs: idle after finish, clock 1, no cell changed
  pub E10 : Told two (up_to_enter 1 ++ (alone 12 1 ∷ [])) (done ∷ done ∷ shown 0 1 1 ∷ done ∷ [])
  pub E10_after : Ends two (up_to_enter 1 ++ (alone 12 1 ∷ [])) (record { clock = 1; cells = two.cells; slots = replicate 8 idle })
  -- slot 1 holds cell 0; open slot 2 reads cell 0 before writing it: 14; it then writes it, closes and locks: the lock gives 11; each with kind 2 and word 1
  pub E11 :
      Told two (hold_first ++ (alone 1 2 ∷ call 2 2 0 0 0 ∷ call 3 2 0 2 8 ∷ alone 4 2 ∷ alone 5 2 ∷ []))
      (done ∷ done ∷ done ∷ done ∷ done ∷ shown 14 2 1 ∷ done ∷ done ∷ shown 11 2 1 ∷ [])
  -- with no other slot in use, a cell read, then written and locked by the same slot, is not marked by enter
  pub E12 :
      Told two (alone 1 1 ∷ call 2 1 0 0 0 ∷ call 3 1 0 2 9 ∷ alone 4 1 ∷ alone 5 1 ∷ alone 6 1 ∷ call 9 1 0 0 0 ∷ [])
      (done ∷ shown 0 2 5 ∷ done ∷ done ∷ done ∷ shown 0 1 1 ∷ shown 0 1 0 ∷ [])

-- on states
abbrev pub EdgesOnStates : Type 0
EdgesOnStates = Edges (λ S calls told. replies controller S calls ≡ told) (λ S calls T. end_state controller S calls ≡ T)
