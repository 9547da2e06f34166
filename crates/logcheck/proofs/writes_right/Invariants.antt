use mathlib.Core.Bool.{true}
use mathlib.Core.Path.{◌≡◌}
use Prim.Native.Nat.{ℕ}
use lib.Dec.{leb, ltb}
use Rattle.slot.specs.Logic.{every}
use Rattle.rules.specs.Model.{controller}
use Rattle.rules.specs.Layout.{cells_in}
use Rattle.logcheck.proofs.LogLaws.{cell_in, write_test}
use Rattle.logcheck.proofs.writes_right.Given as goal

abbrev pub invariant-loop-i : goal.invariant-loop-i
invariant-loop-i l = record {
  right : every l.i (write_test (cells_in controller l.area.bytes.now) l.t.bytes.now) ≡ true;
  least : (x : ℕ) → leb l.least x ≡ every l.i (λ k. ltb (cell_in l.t.bytes.now 117 5 k) x);
}
