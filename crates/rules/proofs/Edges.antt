-- E1 to E12 hold of states: each by computation.
use mathlib.Core.Path.{refl}
use Rattle.rules.specs.Edges.{EdgesOnStates}
use Rattle.wire.specs.Field.{be}
use Rattle.slot.specs.Logic.{all}
use Rattle.rules.specs.LogsRight.{cell_count_right}
use Rattle.rules.specs.Area.{described_cell, described_cells, lengths_fit, lay_out}
use Rattle.rules.proofs.Open.{computed}

pub edges : EdgesOnStates
unfolding computed be all cell_count_right described_cell described_cells lengths_fit lay_out
edges =
    record {
      E1 = refl;
      E2 = refl;
      E3 = refl;
      E4 = refl;
      E5 = refl;
      E6 = refl;
      E7_legal = (refl, refl);
      E7_write = refl;
      E7_lay_out = (refl, refl);
      E8 = refl;
      E9 = refl;
      E9_clock = refl;
      E9_before = refl;
      E9_kept = refl;
      E10 = refl;
      E10_after = refl;
      E11 = refl;
      E12 = refl;
    }
