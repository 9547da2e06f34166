-- The numbers of transactions, as they are kept along the way: how many have begun, and the last one of each slot.
use Rattle.std.specs.Prelude.{not, cond, ℕ, ◌+◌, ◌-◌, ◌^◌, eqb, ltb, set, replicate}
use Rattle.slot.specs.Logic.{◌and◌}
use Rattle.tally.specs.declared.Numbers.{Numbers}

-- a place for each slot, at its own number; place 0 is not used
abbrev pub places : ℕ
places = 9

-- before the first step no transaction has begun
abbrev pub no_numbers : Numbers
no_numbers = record { begun = 0; last = replicate places 0 }

-- an accepted begin gives its slot the next number, as long as there is one
unfoldable pub numbers_after : Numbers → ℕ → ℕ → ℕ → Numbers
numbers_after v step slot code =
    cond (eqb step 1 and eqb code 0 and ltb slot places and not (eqb v.begun (2 ^ 64 - 1)))
    (record { begun = v.begun + 1; last = set v.last slot (v.begun + 1) })
    v
