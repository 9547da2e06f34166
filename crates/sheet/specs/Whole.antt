-- A sheet `s` run with a lent area and a lent buffer: the answer, and every byte of both.
use Rattle.std.specs.Prelude.{List, ℕ, ◌+◌, ◌*◌, Result}
use Rattle.rules.specs.Model.{controller}
use Rattle.apart.specs.Apart.{most_steps}
use Rattle.stage.specs.declared.TooShort.{TooShort}
use Rattle.stage.specs.Printed.{Printed}
use Rattle.sheet.specs.Output.{output}

-- room for the longest output: a step's line has at most 19 bytes, a cell's 46, the clock's 27
abbrev pub most_output : ℕ
most_output = 19 * most_steps + 46 * controller.cells + 27

-- with too little room nothing is done; else the output stands at the front of the buffer
abbrev pub SheetRun : (s a out : List ℕ) (r : Result ℕ TooShort) (b t : List ℕ) → Type 0
SheetRun s a out r b t = Printed most_output (output s) s a out r b t
