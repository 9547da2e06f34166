use Rattle.pick.proofs.Searches.{sought-none, sought-better, sought-other}
use Rattle.pick.proofs.pick.Goals as goal
use Rattle.pick.proofs.pick.Goals.{then-usable+then-erases-fewest, else-usable}

pub loop-g-init : goal.loop-g-init
loop-g-init c = sought-none _

pub loop-g-preserved : goal.loop-g-preserved
loop-g-preserved c =
    elim c.if-usable.branch [
      | then-usable+then-erases-fewest w ↦
          rw (w.fewest-is, w.best-is) (sought-better _ _ _ _ c.loop-g.invariant w.if-usable.true w.if-erases-fewest.true)
      | else-usable w ↦ rw (w.fewest-is, w.best-is) (sought-other _ _ _ _ c.loop-g.invariant w.else-usable.either)
    ]
