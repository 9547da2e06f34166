use Rattle.std.proofs.Common.{◌≡◌, take}
use Rattle.line.specs.Gather.{added_parts, written}
use Rattle.telling.specs.Parts.{cell_parts}
use Rattle.telling.proofs.Fields.{fields_of}
use Rattle.telling.proofs.put_cells.Given as goal

abbrev pub invariant-loop-e : goal.invariant-loop-e
invariant-loop-e l = record {
  same : l.out.bytes.ghost_name ≡ l.initial.out.bytes.ghost_name;
  left : added_parts (fields_of (take l.e-iterator.n l.e-iterator.iter.rest.now)) (written l.out) ≡ added_parts (cell_parts l.fn.own) (written l.initial.out);
}
