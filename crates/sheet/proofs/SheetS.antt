-- Sheet S prints what document 01 says: its run on states, by computation.
use mathlib.Core.Path.{refl, ◌∙◌}
use Rattle.wire.specs.Field.{be}
use Rattle.slot.specs.Logic.{all}
use Rattle.rules.specs.LogsRight.{cell_count_right}
use Rattle.rules.specs.Area.{described_cell, described_cells}
use Rattle.rules.proofs.Open.{computed}
use Rattle.line.specs.Number.{digit, digits}
use Rattle.line.specs.Line.{reply_line, cell_line, clock_line}
use Rattle.apart.specs.Apart.{whole_sheet, described_right, steps_right, good_sheet}
use Rattle.stage.specs.Calls.{call_of}
use Rattle.stage.specs.States.{state_after}
use Rattle.sheet.specs.States.{state_line, end_lines}
use Rattle.stage.specs.SheetS.{sheet_s}
use Rattle.sheet.specs.SheetS.{SheetS}
use Rattle.sheet.proofs.States.{on-states}

pub sheet-s : SheetS
unfolding computed be all cell_count_right described_cell described_cells digit digits reply_line cell_line clock_line whole_sheet described_right steps_right good_sheet call_of state_after state_line end_lines
sheet-s = on-states sheet_s refl ∙ refl
