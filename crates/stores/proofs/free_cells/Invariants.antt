use mathlib.Core.Path.{◌≡◌}
use Rattle.rules.specs.Model.{controller}
use Rattle.rules.specs.Layout.{pack}
use Rattle.area.specs.Good.{state_in}
use Rattle.stores.proofs.Stored.{freed_to}
use Rattle.stores.proofs.free_cells.Given as goal

abbrev pub invariant-loop-c : goal.invariant-loop-c
invariant-loop-c l = l.s ≡ pack controller (freed_to (state_in l.initial.s) l.i l.c)
