use mathlib.Core.Bool.{true}
use mathlib.Core.Path.{◌≡◌}
use lib.ListN.{length}
use Rattle.slot.specs.Logic.{every}
use Rattle.rules.specs.Model.{controller}
use Rattle.rules.specs.Layout.{cells_in}
use Rattle.logcheck.proofs.LogLaws.{cell_in, read_test, Seen}
use Rattle.logcheck.proofs.reads_right.Given as goal

abbrev pub invariant-loop-i : goal.invariant-loop-i
invariant-loop-i l = record {
  size : length l.seen ≡ 64;
  right : every l.i (read_test (cells_in controller l.area.bytes.now) l.t.bytes.now) ≡ true;
  seen : Seen (cell_in l.t.bytes.now 21 6) l.seen l.i;
}
