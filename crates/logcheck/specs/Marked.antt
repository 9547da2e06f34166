-- What "well formed" says of a slot's marks and its ignoring flag, but for the write log's part in it (`no_update_lost`), and what the gathered marks tell of it.
use Rattle.std.specs.Prelude.{Bool, true, List, ◌≡◌, ℕ, ◌+◌, ◌*◌, eqb, leb, get_or, drop}
use Rattle.wire.specs.Table.{tab}
use Rattle.slot.specs.Logic.{◌and◌, every}
use Rattle.slot.specs.Logs.{some_marked}
use Rattle.slot.specs.Layout.{read_size, reads_at, slot_of, read_of}
use Rattle.rules.specs.AreaRight.{marks_right, ignoring_right, flags_right}

-- the marks and the ignoring flag
unfoldable pub marked_right : List ℕ → Bool
marked_right l = marks_right (slot_of 8 l) and ignoring_right (slot_of 8 l) and flags_right 8 l

-- what the bitwise or of the first `count` mark bytes tells of them
pub record MarksGathered (r count : ℕ) (l : List ℕ) : Type 0 where
  pub flags : leb r 1 ≡ every count (λ i. leb (get_or l (reads_at 8 + read_size * i + 1) 0) 1)
  pub some : leb r 1 ≡ true → eqb r 1 ≡ some_marked (tab count (λ i. read_of (drop (reads_at 8 + read_size * i) l)))
