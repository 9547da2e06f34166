-- The numbers of a call, step, cell, kind and word, as a step with its arguments.
use Rattle.std.specs.Prelude.{cond, ℕ, eqb, Option, Some, None, Result, Ok, Err}
use Rattle.value.specs.declared.CellValue.{CellValue}
use Rattle.value.specs.Value.{parsed}
use Rattle.call.specs.declared.Step.{Step}
use Rattle.call.specs.declared.Step.TheVariants.{Begin, Read, Write, Close, Lock, Enter, Reread, Update, Ask, Reload, Ignore, Finish, Publish, GiveUp}
use Rattle.call.specs.declared.Undecoded.{Undecoded}
use Rattle.call.specs.declared.Undecoded.TheVariants.{IllegalWrite, IllegalUpdate, Unknown}

-- a step, or why the numbers are none
abbrev pub Decoded : Type 0
Decoded = Result Step Undecoded

-- the number of each step
abbrev pub step_number : Step → ℕ
step_number Begin = 1
step_number (Read c) = 2
step_number (Write c v) = 3
step_number Close = 4
step_number Lock = 5
step_number Enter = 6
step_number (Reread c) = 7
step_number (Update c v) = 8
step_number (Ask c) = 9
step_number Reload = 10
step_number Ignore = 11
step_number Finish = 12
step_number Publish = 13
step_number GiveUp = 14

-- a write, and an update: with its value where kind and word are legal
abbrev pub a_write : ℕ → Option CellValue → Decoded
a_write cell (Some v) = Ok (Write cell v)
a_write cell None = Err (IllegalWrite cell)

abbrev pub an_update : ℕ → Option CellValue → Decoded
an_update cell (Some v) = Ok (Update cell v)
an_update cell None = Err (IllegalUpdate cell)

-- Steps have numbers 1 to 14. Arguments that a step doesn't use are ignored.
unfoldable pub decoded : ℕ → ℕ → ℕ → ℕ → Decoded
decoded step cell kind word =
    cond (eqb step 1) (Ok Begin)
    (cond (eqb step 2) (Ok (Read cell))
    (cond (eqb step 3) (a_write cell (parsed kind word))
    (cond (eqb step 4) (Ok Close)
    (cond (eqb step 5) (Ok Lock)
    (cond (eqb step 6) (Ok Enter)
    (cond (eqb step 7) (Ok (Reread cell))
    (cond (eqb step 8) (an_update cell (parsed kind word))
    (cond (eqb step 9) (Ok (Ask cell))
    (cond (eqb step 10) (Ok Reload)
    (cond (eqb step 11) (Ok Ignore)
    (cond (eqb step 12) (Ok Finish)
    (cond (eqb step 13) (Ok Publish)
    (cond (eqb step 14) (Ok GiveUp)
    (Err Unknown))))))))))))))
