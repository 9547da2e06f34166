-- `read` meets its contract: what either log has is answered and nothing changes; otherwise it is the read from the shared cell.
use mathlib.Core.Path.{refl}
use Rattle.rules.specs.Model.{controller}
use Rattle.ways.proofs.Done.{keeps, onward}
use Rattle.opening.proofs.Ways.{read-written, read-logged, read-shared}
use Rattle.opening.proofs.read.Goals as goal

pub returns-in-Some : goal.returns-in-Some
returns-in-Some c =
    keeps _ c.requires.0
    (read-written controller _ _ refl c.in_ok-in_phase.ensures _ c.in_ok-cell_there.ensures.row c.find_write.ensures c.cell_at-x.ensures c.in-Some.is c.value_of.ensures)

pub returns-in-Some-find_read : goal.returns-in-Some-find_read
returns-in-Some-find_read c =
    keeps _ c.requires.0
    (read-logged controller _ _ refl c.in_ok-in_phase.ensures _ c.in_ok-cell_there.ensures.row c.find_write.ensures c.in_default.is c.find_read.ensures c.cell_at-x.ensures c.in-Some-find_read.is c.value_of-in-Some-find_read.ensures)

pub returns : goal.returns
returns c =
    onward (read-shared controller _ _ refl c.in_ok-in_phase.ensures _ c.in_ok-cell_there.ensures.row c.find_write.ensures c.in_default.is c.find_read.ensures c.in_default-find_read.is) c.read_shared.ensures
