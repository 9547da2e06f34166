-- The run on bytes is the run on states: its lines are those of the states.
use mathlib.Core.Bool.{true}
use mathlib.Core.List.{List, ◌++◌, append_assoc}
use mathlib.Core.Path.{◌≡◌, sym, ap, ◌∙◌}
use Prim.Native.Nat.{ℕ, ◌+◌, ◌<◌}
use lib.ListN.{length, get_or, drop}
use Rattle.wire.specs.Table.{cat}
use Rattle.wire.proofs.Laws.Table.{cat-ext, length-tab, get_or-tab}
use Rattle.rules.specs.Model.{controller, cell_offset}
use Rattle.rules.specs.State.{State, no_cell, cell_count, cell_at}
use Rattle.rules.specs.StateRight.{state_right}
use Rattle.rules.specs.Layout.{pack, cell_of, count_in, clock_in, cells_in, state_of}
use Rattle.rules.specs.Area.{step_on_bytes}
use Rattle.line.specs.Line.{clock_line}
use Rattle.apart.specs.Apart.{steps}
use Rattle.apart.proofs.Apart.{good-parts}
use Rattle.stage.specs.Calls.{call_at, step_count}
use Rattle.stage.specs.States.{state_after}
use Rattle.stage.proofs.First.{first-packed, first-right}
use Rattle.stage.proofs.States.{step-reply, back, state-right, area_of}
use Rattle.sheet.specs.Output.{line_of, step_line, line_of_cell, line_in_area, printed, output}
use Rattle.sheet.specs.States.{state_line, end_lines, state_lines, OnStates}

-- the lines of a state at its end
module _ (T : State) (right : state_right controller T ≡ true) where
  count : count_in (pack controller T) ≡ cell_count T
  unfolding state_of cells_in
  count =
      sym (length-tab (count_in (pack controller T)) (λ c. cell_of 8 (drop (cell_offset controller c) (pack controller T))))
      ∙ ap (λ (S : State). length S.cells) (back T right)

  cell : (c : ℕ) → c < count_in (pack controller T) → cell_of 8 (drop (cell_offset controller c) (pack controller T)) ≡ cell_at T c
  unfolding state_of cells_in
  cell c h =
      sym (get_or-tab (count_in (pack controller T)) (λ k. cell_of 8 (drop (cell_offset controller k) (pack controller T))) no_cell c h)
      ∙ ap (λ (S : State). get_or S.cells c no_cell) (back T right)

  clock : clock_in controller (pack controller T) ≡ T.clock
  unfolding state_of
  clock = ap (λ (S : State). S.clock) (back T right)

  end_same : cat (count_in (pack controller T)) (line_in_area (pack controller T)) ++ clock_line (clock_in controller (pack controller T)) ≡ end_lines T
  unfolding end_lines line_in_area
  end_same =
      let cells : cat (count_in (pack controller T)) (line_in_area (pack controller T)) ≡ cat (count_in (pack controller T)) (λ c. line_of_cell c (cell_at T c)) =
      cat-ext (count_in (pack controller T)) (line_in_area (pack controller T)) (λ c. line_of_cell c (cell_at T c)) (λ c h. ap (line_of_cell c) (cell c h)) in
      (λ i. cells i ++ clock_line (clock i)) ∙ ap (λ (n : ℕ). cat n (λ c. line_of_cell c (cell_at T c)) ++ clock_line T.clock) count

module _ (S : State) (right : state_right controller S ≡ true) (l : List ℕ) where
  line_same : (k : ℕ) → step_line (pack controller S) l k ≡ state_line S l k
  unfolding step_line state_line
  line_same k =
      ap (λ (x : List ℕ). line_of (k + 1) (step_on_bytes controller x (call_at l k)).reply) (area_of S right l k)
      ∙ ap (line_of (k + 1)) (step-reply (state_after S l k) (state-right S right l k) (call_at l k))

  printed-same : printed (pack controller S) l ≡ state_lines S l
  unfolding printed
  printed-same =
      let n = step_count l in
      let lines : cat n (step_line (pack controller S) l) ≡ cat n (state_line S l) =
      cat-ext n (step_line (pack controller S) l) (state_line S l) (λ k h. line_same k) in
      ap
      (λ (e : List ℕ). cat n (step_line (pack controller S) l) ++ cat (count_in e) (line_in_area e) ++ clock_line (clock_in controller e))
      (area_of S right l n)
      ∙ append_assoc (cat n (step_line (pack controller S) l)) (cat (count_in (pack controller (state_after S l n))) (line_in_area (pack controller (state_after S l n)))) (clock_line (clock_in controller (pack controller (state_after S l n))))
      ∙ (λ i. lines i ++ end_same (state_after S l n) (state-right S right l n) i)

pub on-states : OnStates
unfolding output
on-states s good =
    let parts = good-parts s good in
    rw good (ap (λ (a : List ℕ). printed a (steps s)) (first-packed parts) ∙ printed-same _ (first-right parts) (steps s))
