-- Bytes read at a place, against the fields that the definitions read from a list's head.
use mathlib.Core.List.{List}
use mathlib.Core.Path.{◌≡◌}
use Prim.Native.Nat.{ℕ, ◌+◌, ◌*◌, ◌≤◌}
use native.Mathlib.Omega.{arith}
use lib.ListN.{length, get_or, drop, drop_of_length-le}
use lib.Seq.{get_or-drop}
use Rattle.wire.specs.Field.{be}
use Rattle.slot.proofs.Entry.{first_byte}

-- two bytes, in the list or past its end
pub pair-at : (l : List ℕ) (at : ℕ) → get_or l at 0 * 256 + get_or l (at + 1) 0 ≡ be 2 (drop at l)
unfolding be
pair-at l at = rw (← first_byte l at, get_or-drop) (omega arith)

pub pair-past : (l : List ℕ) (at : ℕ) → length l ≤ at → 0 ≡ be 2 (drop at l)
unfolding be
pair-past l at h = rw (drop_of_length-le l h)
