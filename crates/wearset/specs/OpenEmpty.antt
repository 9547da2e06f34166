-- A transaction that is open with empty logs.
use Rattle.std.specs.Prelude.{Bool, true, false, [], ◌∷◌}
use Rattle.rules.specs.State.{Slot, idle, opened, locking, twilight, publishing}

abbrev pub open_and_empty : Slot → Bool
open_and_empty idle = false
open_and_empty (opened start [] []) = true
open_and_empty (opened start [] (e ∷ writes)) = false
open_and_empty (opened start (e ∷ reads) writes) = false
open_and_empty (locking taken start reads writes) = false
open_and_empty (twilight ignoring start commit reads writes) = false
open_and_empty (publishing ignoring taken start commit reads writes) = false
