-- A record that a slot lays down stands for that slot, and nothing of it is lost: so a step's next record stands for the next slot of its row.
use mathlib.Core.Bool.{Bool, true, false, cond}
use mathlib.Core.Path.{◌≡◌, refl, sym, ◌∙◌, ap}
use Rattle.slot.specs.declared.SlotRecord.{SlotRecord}
use Rattle.slot.specs.Logs.{read_log}
use Rattle.rules.specs.State.{Slot, reads_of}
use Rattle.rules.specs.Layout.{lay, view}
use Rattle.rules.proofs.LayView.{view-lay, read-log}

pub record Stands (v : SlotRecord) (x : Slot) : Type 0 where
  pub viewed : view v ≡ x
  pub kept : lay (view v) ≡ v
  pub reads : read_log v ≡ reads_of x

pub stands : {v : SlotRecord} (x : Slot) → v ≡ lay x → Stands v x
stands x e =
    let viewed = ap view e ∙ view-lay x in
    record { viewed = viewed; kept = ap lay viewed ∙ sym e; reads = ap read_log e ∙ read-log x }

-- the record of the one or the other slot
pub laid-either : (b : Bool) (x y : Slot) → cond b (lay x) (lay y) ≡ lay (cond b x y)
laid-either true x y = refl
laid-either false x y = refl
