use mathlib.Core.Path.{refl}
use native.Mathlib.Omega.{arith}
use Rattle.dispatch.proofs.Slots.{way-write, way-update, way-unknown}
use Rattle.dispatch.proofs.without_step.Goals as goal

pub returns-in-Err-IllegalWrite : goal.returns-in-Err-IllegalWrite
returns-in-Err-IllegalWrite c =
    way-write _ _ _ (λ e. omega arith) c.requires.there.2 c.in-Err-IllegalWrite.is (rw c.in-Err-IllegalWrite.is at c.in-Err-IllegalWrite.field-0-is) (c.illegal_value.ensures.write refl)

pub returns-in-Err-IllegalUpdate : goal.returns-in-Err-IllegalUpdate
returns-in-Err-IllegalUpdate c =
    way-update _ _ _ (λ e. omega arith) c.requires.there.2 c.in-Err-IllegalUpdate.is (rw c.in-Err-IllegalUpdate.is at c.in-Err-IllegalUpdate.field-0-is)
    (c.illegal_value-in-Err-IllegalUpdate.ensures.update refl)

pub returns-in-Err-Unknown : goal.returns-in-Err-Unknown
returns-in-Err-Unknown c = way-unknown _ _ _ _ c.in-Err-Unknown.is (rw c.in-Err-Unknown.is at c.in-Err-Unknown.field-0-is)

pub returns-in-Ok : goal.returns-in-Ok
returns-in-Ok c = absurd (c.requires.none _ c.in-Ok.is)
