-- The runs, by computation. What was committed in each is written out once.
use mathlib.Core.Bool.{Bool, true, false, false≢true}
use mathlib.Core.List.{[], ◌∷◌, ◌++◌}
use mathlib.Core.Path.{◌≡◌, refl, sym, subst, subst₂}
use Prim.Native.Nat.{ℕ}
use lib.Dec.{ltb}
use lib.Signed.{◌≤ℤ◌}
use Rattle.slot.specs.Logic.{All, same, every, all, pairwise}
use Rattle.slot.specs.Logs.{writes_cell}
use Rattle.rules.specs.Model.{controller}
use Rattle.rules.specs.LogsRight.{cell_right, stamps_apart, holders_right, cell_count_right}
use Rattle.rules.specs.StateRight.{slot_right, holds, shape_right, state_right_but_holders, state_holders_right, state_right, state_at_rest}
use Rattle.rules.specs.Run.{end_state}
use Rattle.rules.specs.Edges.{alone}
use Rattle.rules.proofs.Open.{computed}
use Rattle.history.specs.History.{history, final, Commit, commits, log_at, up_to}
use Rattle.history.specs.Slips.{slip, ignore_loses}
use Rattle.pick.specs.Groups.{negative, last_count}
use Rattle.pick.specs.Pick.{negative_at, pickable, picked}
use Rattle.wearset.specs.WearSet.{set_length_right, cell_fits, place_right, set_right}
use Rattle.level.specs.Level.{read_at, read_first}
use Rattle.wear.specs.Wear.{wear}
use Rattle.levelling.specs.CountsUp.{Levels, signed, RightPick, OnlyLevelled, NeverFallsBy}
use Rattle.levelling.specs.Ignoring.{one_group, its_set, levels_to, count_marked, ignores, last_publish, count_ignored, truth_ignored, repairs, right_step, losing_step, count_after, of_run, raising, disabling, IgnoreRefused, Repaired, WithoutTheRule, TruthIgnored}

-- opens what a run of calls computes, and what the pick rule does
unfoldable runs : ℕ
unfolding computed history final commits
runs = 0

unfoldable picks : ℕ
unfolding computed negative negative_at pickable picked
picks = 0

-- the area is at rest
at_rest : state_at_rest controller one_group ≡ true
unfolding computed same every all pairwise cell_right stamps_apart holders_right cell_count_right slot_right holds shape_right state_right_but_holders state_holders_right state_right state_at_rest
at_rest = refl

-- what task 3 does first is what the operation does
as-operation : (wear controller (end_state controller one_group (alone 1 3 ∷ [])) its_set 3).state ≡ end_state controller one_group (levels_to 3 6)
unfolding picks every set_length_right cell_fits place_right set_right read_at read_first wear
as-operation = refl

-- the commit of a count that is not negative and below the last one levels, whatever its stamp and its marks
levels : (stamp count : ℕ) (truth_mark count_mark : Bool) → negative count ≡ false → ltb count last_count ≡ true → Levels (raising stamp count truth_mark count_mark)
unfolding picks
levels stamp count truth_mark count_mark sound below = (its_set, 0, record { cells = refl; sound = rw sound; pick = rw below; write = refl })

-- the run with the reload: task 3 has a new stamp, and writes one more than what it reloaded
repaired-commits : commits (of_run right_step (count_marked ++ repairs)) ≡ (raising 1 5 false false ∷ raising 2 6 false false ∷ raising 4 7 false false ∷ [])
unfolding runs
repaired-commits = refl

-- the run without the rule: task 3 comes last, with what it read first
lost-commits : commits (of_run losing_step count_ignored) ≡ (raising 1 5 false false ∷ raising 2 6 false false ∷ raising 3 5 false true ∷ [])
unfolding runs slip ignore_loses
lost-commits = refl

-- the run with a marked truth cell: task 3 ignores that mark
truth-commits : commits (of_run right_step truth_ignored) ≡ (disabling ∷ raising 2 5 true false ∷ [])
unfolding runs
truth-commits = refl

-- each commit that writes the count levels
abbrev LevelsCount : Commit → Type 0
LevelsCount x = writes_cell x.writes 1 ≡ true → Levels x

repaired-only : OnlyLevelled (of_run right_step (count_marked ++ repairs)) 1
unfolding picks
repaired-only =
    subst (All LevelsCount) (sym repaired-commits)
    (λ w. levels 1 5 false false refl refl, (λ w. levels 2 6 false false refl refl, (λ w. levels 4 7 false false refl refl, tt)))

lost-only : OnlyLevelled (of_run losing_step count_ignored) 1
unfolding picks
lost-only =
    subst (All LevelsCount) (sym lost-commits)
    (λ w. levels 1 5 false false refl refl, (λ w. levels 2 6 false false refl refl, (λ w. levels 3 5 false true refl refl, tt)))

truth-only : OnlyLevelled (of_run right_step truth_ignored) 1
unfolding picks
truth-only = subst (All LevelsCount) (sym truth-commits) (λ w. absurd (false≢true w), (λ w. levels 2 5 true false refl refl, tt))

-- the count of the run without the rule: 7 is not at most 6
count-before : count_after losing_step (count_marked ++ ignores) ≡ 7
unfolding runs slip ignore_loses
count-before = refl

count-fallen : count_after losing_step count_ignored ≡ 6
unfolding runs slip ignore_loses
count-fallen = refl

headline-false : NeverFallsBy controller losing_step → ⊥
headline-false never = (subst₂ (λ a b. signed a ≤ℤ signed b) count-before count-fallen (never one_group at_rest (count_marked ++ ignores) last_publish 1 lost-only)).le

-- just before stamp 2 the truth cell has 0
not-the-pick : RightPick one_group (of_run right_step truth_ignored) 2 its_set 0 → ⊥
unfolding runs log_at up_to
not-the-pick right = false≢true right.least.is_usable

-- The mark on the count can't be ignored.
pub ignore-refused : IgnoreRefused
unfolding runs
ignore-refused = record { at_rest = at_rest; operation = as-operation; marked = refl; refused = refl; stays = refl }

-- It can be repaired.
pub repaired : Repaired
unfolding runs
repaired = record { rereads = refl; committed = repaired-commits; only = repaired-only; counted = refl }

-- Without the rule the count falls.
pub without-the-rule : WithoutTheRule
without-the-rule = record { committed = lost-commits; only = lost-only; before = count-before; fallen = count-fallen; headline_false = headline-false }

-- With it a mark on the truth cell may be ignored; the count is right, and the pick is not.
pub truth-ignored : TruthIgnored
unfolding runs
truth-ignored = record { marked = refl; accepted = refl; committed = truth-commits; only = truth-only; counted = refl; not_the_pick = not-the-pick }
