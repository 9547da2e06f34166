-- What ignoring comes to for wear tasks. A mark on the count that a task writes can't be ignored; without that rule the headline is false, for a count falls. A mark on another
-- cell can be ignored: the count goes up by one all the same, but its group may not be the right pick.
--
-- One group: its truth cell is cell 0 (usable), its erases cell is cell 1, and it has been erased 5 times. Task 3 reads the count 5 and means to write 6. Before it commits,
-- task 1 levels to 6 and task 2 to 7. What task 3 has in hand is then old: entering marks it.
use Rattle.std.specs.Prelude.{Bool, true, false, List, [], ◌∷◌, ◌++◌, ◌≡◌, ℕ, suc}
use Rattle.slot.specs.Logic.{◌or◌}
use Rattle.rules.specs.Model.{controller}
use Rattle.rules.specs.State.{State, cell_at}
use Rattle.rules.specs.StateRight.{state_at_rest}
use Rattle.rules.specs.Outcome.{Outcome}
use Rattle.rules.specs.Step.{Call, step}
use Rattle.rules.specs.Area.{fresh}
use Rattle.rules.specs.Run.{call, Shown, shown, replies, end_state}
use Rattle.rules.specs.Edges.{fresh_cell, done, refused_with, alone}
use Rattle.history.specs.History.{Event, history, final, Commit, commits}
use Rattle.history.specs.Slips.{slip, ignore_loses}
use Rattle.level.specs.Level.{read_of, write_of}
use Rattle.wear.specs.Wear.{wear}
use Rattle.levelling.specs.CountsUp.{RightPick, OnlyLevelled, NeverFallsBy}

-- the area, at rest, and the wear set: group 0 is cells 0 and 1
abbrev pub one_group : State
one_group = fresh controller (fresh_cell 1 1 ∷ fresh_cell 2 5 ∷ [])

abbrev pub its_set : List ℕ
its_set = 0 ∷ 1 ∷ []

-- A task begins, reads both cells and writes the count that is due: after the begin it is what the wear operation does.
abbrev pub levels_to : ℕ → ℕ → List Call
levels_to slot count = alone 1 slot ∷ read_of slot 0 ∷ read_of slot 1 ∷ write_of slot 1 count ∷ []

-- a task that writes one cell closes, locks it and enters
abbrev pub enters : ℕ → List Call
enters slot = alone 4 slot ∷ alone 5 slot ∷ alone 6 slot ∷ []

-- .. and it finishes and publishes
abbrev pub ends : ℕ → List Call
ends slot = enters slot ++ (alone 12 slot ∷ alone 13 slot ∷ [])

-- task 3 reads, tasks 1 and 2 level one after the other, task 3 enters
abbrev pub count_marked : List Call
count_marked = levels_to 3 6 ++ (levels_to 1 6 ++ ends 1) ++ (levels_to 2 7 ++ ends 2) ++ enters 3

-- task 3 reads, task 1 writes 0 to the truth cell, so that the group is no longer usable, task 3 enters
abbrev pub truth_marked : List Call
truth_marked = levels_to 3 6 ++ (alone 1 1 ∷ call 3 1 0 1 0 ∷ ends 1) ++ enters 3

-- task 3 asks for the marks of both cells
abbrev pub asks : List Call
asks = call 9 3 0 0 0 ∷ call 9 3 1 0 0 ∷ []

-- task 3 ignores and finishes; its publish comes after that
abbrev pub ignores : List Call
ignores = alone 11 3 ∷ alone 12 3 ∷ []

abbrev pub last_publish : List Call
last_publish = alone 13 3 ∷ []

-- .. either run to its end
abbrev pub count_ignored : List Call
count_ignored = (count_marked ++ ignores) ++ last_publish

abbrev pub truth_ignored : List Call
truth_ignored = truth_marked ++ ignores ++ last_publish

-- right: task 3 reloads, rereads the count, updates its write to one more, finishes and publishes
abbrev pub repairs : List Call
repairs = alone 10 3 ∷ call 7 3 1 0 0 ∷ call 8 3 1 2 8 ∷ alone 12 3 ∷ last_publish

-- what calls are told after some calls
abbrev pub told_after : List Call → List Call → List Shown
told_after calls more = replies controller (end_state controller one_group calls) more

-- the right step, and the one without the rule, whose ignore loses updates
abbrev pub right_step : State → Call → Outcome
right_step = step controller

abbrev pub losing_step : State → Call → Outcome
losing_step = slip 11 ignore_loses right_step

-- the erases cell's word after some calls, and the run's history
abbrev pub count_after : (State → Call → Outcome) → List Call → ℕ
count_after next calls = (cell_at (final next one_group calls) 1).word

abbrev pub of_run : (State → Call → Outcome) → List Call → List Event
of_run next calls = history next one_group calls

-- A commit of such a task: its stamp, the count that it read and raised by one, and the marks of its two entries; it has ignored them, if there are any.
abbrev pub raising : (stamp count : ℕ) → (truth_mark count_mark : Bool) → Commit
raising stamp count truth_mark count_mark =
    record {
      stamp = stamp;
      writes = record { cell = 1; word = suc count } ∷ [];
      reads = record { cell = 0; mark = truth_mark; word = 1 } ∷ record { cell = 1; mark = count_mark; word = count } ∷ [];
      ignoring = truth_mark or count_mark;
    }

-- .. and the one of the task that makes the group unusable
abbrev pub disabling : Commit
disabling = record { stamp = 1; writes = record { cell = 0; word = 0 } ∷ []; reads = []; ignoring = false }

-- Task 3's count is marked, and it writes that cell.
pub record IgnoreRefused : Type 0 where
  -- The area is at rest at first. What task 3 does after its begin is what the wear operation does.
  pub at_rest : state_at_rest controller one_group ≡ true
  pub operation : (wear controller (end_state controller one_group (alone 1 3 ∷ [])) its_set 3).state ≡ end_state controller one_group (levels_to 3 6)
  -- Once it has entered, the truth cell is not marked and the erases cell is.
  pub marked : told_after count_marked asks ≡ (shown 0 1 0 ∷ shown 0 1 1 ∷ [])
  -- Its ignore is refused with 15, for a marked cell is also in its write log. If it finishes all the same it is told 13: its transaction is aborted, nothing of it is
  -- written, and the count stays at 7.
  pub refused : told_after count_marked ignores ≡ (refused_with 15 ∷ shown 13 0 0 ∷ [])
  pub stays : count_after right_step (count_marked ++ ignores) ≡ 7

-- Instead it reloads.
pub record Repaired : Type 0 where
  -- It rereads 7, updates its write to 8, finishes and publishes. All of that is accepted, with stamp 4.
  pub rereads : told_after count_marked repairs ≡ (done ∷ shown 0 2 7 ∷ done ∷ done ∷ done ∷ [])
  pub committed :
      commits (of_run right_step (count_marked ++ repairs))
      ≡ (raising 1 5 false false ∷ raising 2 6 false false ∷ raising 4 7 false false ∷ [])
  -- Every commit levels: the headline's condition is met. The count is 8, three more than at first.
  pub only : OnlyLevelled (of_run right_step (count_marked ++ repairs)) 1
  pub counted : count_after right_step (count_marked ++ repairs) ≡ 8

-- Without the rule it could ignore the mark on its count.
pub record WithoutTheRule : Type 0 where
  -- There are three commits: 5 to 6, 6 to 7, and again 5 to 6, with the mark ignored. Each of them levels.
  pub committed :
      commits (of_run losing_step count_ignored)
      ≡ (raising 1 5 false false ∷ raising 2 6 false false ∷ raising 3 5 false true ∷ [])
  pub only : OnlyLevelled (of_run losing_step count_ignored) 1
  -- The publish lets the count fall from 7 to 6. The group has been erased three times more and says one.
  pub before : count_after losing_step (count_marked ++ ignores) ≡ 7
  pub fallen : count_after losing_step count_ignored ≡ 6
  -- So the headline is false.
  pub headline_false : NeverFallsBy controller losing_step → ⊥

-- With the rule it can ignore a mark on the truth cell, which it does not write.
pub record TruthIgnored : Type 0 where
  -- The truth cell is marked and the erases cell is not; ignore, finish and publish are accepted.
  pub marked : told_after truth_marked asks ≡ (shown 0 1 1 ∷ shown 0 1 0 ∷ [])
  pub accepted : told_after truth_marked (ignores ++ last_publish) ≡ (done ∷ done ∷ done ∷ [])
  pub committed : commits (of_run right_step truth_ignored) ≡ (disabling ∷ raising 2 5 true false ∷ [])
  -- Its commit levels, and the count is one more ..
  pub only : OnlyLevelled (of_run right_step truth_ignored) 1
  pub counted : count_after right_step truth_ignored ≡ 6
  -- .. but just before its stamp the group is not usable. That is why `least_worn` asks that no mark on the set was ignored.
  pub not_the_pick : RightPick one_group (of_run right_step truth_ignored) 2 its_set 0 → ⊥
