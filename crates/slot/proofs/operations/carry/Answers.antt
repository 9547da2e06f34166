-- `carry` meets its contract: before each turn the log is done up to the place, and what is carried is still to be put into the rest.
use mathlib.Core.List.{append-nil}
use mathlib.Core.Path.{refl, ◌∙◌}
use native.Mathlib.Omega.{arith}
use lib.ListN.{drop, length-set, length-take}
use lib.Seq.{take_at}
use Rattle.slot.specs.declared.WriteEntry.{WriteEntry}
use Rattle.slot.proofs.Carry.{carry-before, carry-past, carry_same, carry-end}
use Rattle.slot.proofs.operations.carry.Goals as goal
use Rattle.slot.proofs.operations.carry.Goals.{then-carried-here-2, else-carried-here-2}

pub loop-here-init : goal.loop-here-init
loop-here-init c = record { put = refl; left = refl }

pub returns-then-carried-here-clause-put : goal.returns-then-carried-here-clause-put
returns-then-carried-here-clause-put c =
    append-nil _ ∙ take_at _ _ c.args.count (simp length-set (omega (arith, length-take {A = WriteEntry}))) ∙ carry_same c.loop-here.invariant c.loop-here.auto.here-items c.loop-here-test.true c.if-carried-here.true

pub loop-here-preserved : goal.loop-here-preserved
loop-here-preserved c =
    elim c.if-carried-here-2.branch [
      | then-carried-here-2 w ↦ carry-before c.loop-here.invariant c.loop-here.auto.here-items c.loop-here-test.true c.requires.1 w.if-carried-here-2.true (cc) (cc)
      | else-carried-here-2 w ↦ carry-past c.loop-here.invariant c.loop-here.auto.here-items c.loop-here-test.true (omega arith) w.here-items-is w.carried-is
    ]

pub returns-clause-put : goal.returns-clause-put
returns-clause-put c =
    rw (take_at c.loop-here.here-items (drop c.args.count c.args.log.now) c.args.count (omega (arith, length-take {A = WriteEntry})))
    (carry-end c.loop-here.invariant c.loop-here.auto.here-items c.loop-here-test.false)
