-- Sheet S gives the seven lines of request #104: its run on states, by computation.
use mathlib.Core.List.{flat_map}
use mathlib.Core.Path.{refl, ◌∙◌}
use Rattle.wire.specs.Field.{be}
use Rattle.wire.specs.Table.{cat, tab}
use Rattle.slot.specs.Logic.{all}
use Rattle.rules.specs.LogsRight.{cell_count_right}
use Rattle.rules.specs.Area.{described_cell, described_cells}
use Rattle.rules.proofs.Open.{computed}
use Rattle.history.specs.History.{history}
use Rattle.line.specs.Number.{digit, digits}
use Rattle.apart.specs.Apart.{whole_sheet, described_right, steps_right, good_sheet}
use Rattle.stage.specs.Calls.{call_of}
use Rattle.stage.specs.SheetS.{sheet_s}
use Rattle.effects.specs.Effects.{begins, number_of, effect_of, effects_after}
use Rattle.effects.specs.Trace.{effect_line, trace}
use Rattle.effects.specs.SheetS.{SheetS}
use Rattle.effects.proofs.States.{on-states}

pub sheet-s : SheetS
unfolding computed be cat tab all cell_count_right described_cell described_cells digit digits flat_map whole_sheet described_right steps_right good_sheet call_of history begins number_of effect_of effects_after effect_line trace
sheet-s = on-states sheet_s refl ∙ refl
