-- The controller's numbers fit their bytes, and its areas are as long as document 01 says: 1,604 bytes for one cell, 2,486 for 64.
use mathlib.Core.Path.{◌≡◌, refl}
use Prim.Native.Nat.{ℕ, ◌+◌, ◌*◌, ◌^◌, ◌-◌}
use native.Mathlib.Omega.{arith}
use lib.Dec.{lit<}
use Rattle.rules.specs.Model.{controller, last_stamp, area_length, FitsBytes}

pub controller-fits : FitsBytes controller
controller-fits = record { version_fits = lit< tt; slots_fit = lit< tt; cells_fit = lit< tt; length_fits = lit< tt }

pub controller-length : (n : ℕ) → area_length controller n ≡ 1590 + 14 * n
controller-length n = omega arith

pub controller-last : last_stamp controller ≡ 2 ^ 64 - 1
controller-last = refl
