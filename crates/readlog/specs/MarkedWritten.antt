-- What the write log of slot i says of its read log, in an area `l`: some marked cell is also in the write log.
use Rattle.std.specs.Prelude.{Bool, List, ℕ}
use Rattle.slot.specs.Logs.{has_marked_written}
use Rattle.area.specs.InPlace.{record_at}

abbrev pub marked_written_in : List ℕ → ℕ → Bool
marked_written_in l i = has_marked_written (record_at l i)
