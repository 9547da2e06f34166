-- `give_up` meets its contract: any slot but an idle and a publishing one is cleared, and its cells are freed.
use mathlib.Core.Path.{refl}
use Rattle.rules.specs.Model.{controller}
use Rattle.ways.proofs.Phases.{uncommitted}
use Rattle.ways.proofs.Done.{leaves}
use Rattle.ending.proofs.Ways.{give-up-0}
use Rattle.ending.proofs.give_up.Goals as goal

pub returns-in-Open : goal.returns-in-Open
returns-in-Open c = leaves _ (give-up-0 controller _ _ refl (uncommitted _ c.of.ensures c.in-Open.is) c.idled-idled.ensures) c.store_freed.ensures
