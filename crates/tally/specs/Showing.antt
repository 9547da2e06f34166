-- What a step shows, by its number and its code, and whether a log had its cell.
use Rattle.std.specs.Prelude.{Bool, not, cond, ℕ, eqb, Option, Some, None}
use Rattle.tally.specs.declared.Effect.{Effect}
use Rattle.tally.specs.declared.Effect.TheVariants.{Begun, Read, Reloaded, Committed, Aborted}

-- an accepted read: nothing if it was answered from a log
abbrev pub read_shown : Bool → Option Effect
read_shown logged = cond logged None (Some Read)

unfoldable pub shown_by : ℕ → ℕ → Bool → Option Effect
shown_by step code logged =
    cond (eqb code 13) (Some Aborted)
    (cond (not (eqb code 0)) None
    (cond (eqb step 1) (Some Begun)
    (cond (eqb step 2) (read_shown logged)
    (cond (eqb step 10) (Some Reloaded)
    (cond (eqb step 12) (Some Committed)
    (cond (eqb step 14) (Some Aborted)
    None))))))
