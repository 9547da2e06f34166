use mathlib.Core.Path.{◌≡◌}
use mathlib.Core.List.{◌++◌}
use lib.ListN.{drop}
use Rattle.wire.specs.Table.{tab}
use Rattle.slot.specs.declared.ReadEntry.{ReadEntry}
use Rattle.area.specs.InPlace.{read_in}
use Rattle.area.proofs.Logged.{Counted}
use Rattle.readlog.proofs.changed_reads.Given as goal

abbrev pub invariant-loop-k : goal.invariant-loop-k
invariant-loop-k g l =
    Counted l.slot.area.now l.slot.index l.n
    × ((f : ReadEntry → ReadEntry) → ((e r : ReadEntry) → goal.F-post g l.change e r → r ≡ f e)
    → l.e-items ≡ tab l.k (λ k. f (read_in l.slot.area.now l.slot.index k)) ++ drop l.k l.initial.e-items)
