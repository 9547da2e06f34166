-- What "well formed" says of the slots but for the holders, and the parts of it that one function each decides.
use Rattle.std.specs.Prelude.{Bool, List, ℕ, ◌+◌, ◌*◌, leb, drop}
use Rattle.wire.specs.Field.{be}
use Rattle.slot.specs.declared.SlotRecord.{SlotRecord}
use Rattle.slot.specs.Layout.{commit_at, slot_size, slot_of}
use Rattle.slot.specs.Logic.{◌and◌, every}
use Rattle.slot.specs.Logs.{read_log, write_log}
use Rattle.rules.specs.Model.{controller}
use Rattle.rules.specs.Layout.{cells_in, slot_place, records_in}
use Rattle.rules.specs.LogsRight.{no_update_lost}
use Rattle.rules.specs.AreaRight.{taken_right, commit_right, slot_place_right, commits_apart}

-- a slot, of which l are the bytes from its place on, in the area a at a clock
abbrev pub slot_right_in : List ℕ → ℕ → List ℕ → Bool
slot_right_in a clock l = slot_place_right controller (cells_in controller a) clock l

-- each of the slots
abbrev pub slots_right : ℕ → List ℕ → Bool
slots_right clock a = every 8 (λ k. slot_right_in a clock (slot_place controller a k))

-- the commit stamp of slot k, counted from 0, in an area of n cells
abbrev pub stamp_in : ℕ → List ℕ → ℕ → ℕ
stamp_in n a k = be 8 (drop (14 + 14 * n + slot_size 8 * k + commit_at 8) a)

-- the commit stamps of the slots, apart from each other
abbrev pub stamps_right : List ℕ → Bool
stamps_right a = commits_apart (records_in controller a)

-- no marked cell of a slot with the flag is also in its write log
abbrev pub slot_no_update_lost : List ℕ → Bool
slot_no_update_lost l = no_update_lost (slot_of 8 l).ignoring (read_log (slot_of 8 l)) (write_log (slot_of 8 l))

-- start, taken and commit stamp
unfoldable pub numbers_right : ℕ → SlotRecord → Bool
numbers_right clock v = leb v.start clock and taken_right v and commit_right clock v
