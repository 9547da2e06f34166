-- What a sheet's run prints: lay out, make the steps in order, print.
use Rattle.std.specs.Prelude.{cond, List, ◌++◌, ℕ, ◌+◌, drop}
use Rattle.wire.specs.Table.{cat}
use Rattle.call.specs.Answer.{Reply, reply_code, reply_kind, reply_word}
use Rattle.rules.specs.Model.{controller, cell_offset}
use Rattle.rules.specs.Layout.{cell_of, count_in, clock_in}
use Rattle.rules.specs.Area.{step_on_bytes}
use Rattle.rules.specs.declared.Cell.{Cell}
use Rattle.line.specs.Line.{reply_line, cell_line, clock_line}
use Rattle.apart.specs.Apart.{steps, good_sheet}
use Rattle.stage.specs.Calls.{call_at, step_count, area_after, end_area}
use Rattle.stage.specs.First.{first_area, bad_sheet}

-- a line per step: place from 1, code, kind, word
abbrev pub line_of : ℕ → Reply → List ℕ
line_of place reply = reply_line place (reply_code reply) (reply_kind reply) (reply_word reply)

unfoldable pub step_line : List ℕ → List ℕ → ℕ → List ℕ
step_line a l k = line_of (k + 1) (step_on_bytes controller (area_after a l k) (call_at l k)).reply

-- a line per cell, as the area has it
abbrev pub line_of_cell : ℕ → Cell → List ℕ
line_of_cell c x = cell_line c x.kind x.word x.stamp x.holder

unfoldable pub line_in_area : List ℕ → ℕ → List ℕ
line_in_area a c = line_of_cell c (cell_of controller.stamp_bytes (drop (cell_offset controller c) a))

-- the lines of the steps, of the cells and of the clock
unfoldable pub printed : List ℕ → List ℕ → List ℕ
printed a l =
    cat (step_count l) (step_line a l)
    ++ cat (count_in (end_area a l)) (line_in_area (end_area a l))
    ++ clock_line (clock_in controller (end_area a l))

unfoldable pub output : List ℕ → List ℕ
output s = cond (good_sheet s) (printed (first_area s) (steps s)) bad_sheet
