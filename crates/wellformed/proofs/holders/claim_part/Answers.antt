-- Before each turn the claims of the entries passed are right and due.
use mathlib.Core.Path.{sym, ◌∙◌, ap}
use Prim.Native.Nat.{ℕ, ◌+◌}
use native.Mathlib.Omega.{arith}
use lib.Dec.{eqb}
use Rattle.slot.specs.Logic.{◌or◌}
use Rattle.wellformed.specs.Claims.{in_part}
use Rattle.wellformed.proofs.Claims.{part-start, part-next, part-has, claimed-none, claimed-wrong, claimed-next}
use Rattle.wellformed.proofs.holders.claim_part.Goals as goal

pub loop-i-init : goal.loop-i-init
loop-i-init c =
    let l = c.args.t.bytes.now in
    let from = c.args.from in
    claimed-none c.args.area.bytes.now c.args.slot (in_part l from from) (part-start l from) c.args.due.now

pub returns-then-area-c : goal.returns-then-area-c
returns-then-area-c c =
    let l = c.args.t.bytes.now in
    let here = c.from-c.ensures in
    claimed-wrong c.args.area.bytes.now c.args.slot (in_part l c.args.from c.args.to) c.from-c.result
    (omega (arith, c.requires.below c.loop-i.i (omega arith)))
    (ap (in_part l c.args.from c.args.to) here ∙ part-has l c.args.from c.args.to c.loop-i.i (omega arith) (omega arith))
    c.if-area-c.true c.args.due.now c.loop-i.due

pub loop-i-preserved : goal.loop-i-preserved
loop-i-preserved c =
    let l = c.args.t.bytes.now in
    let from = c.args.from in
    let i = c.loop-i.i in
    let here = c.from-c.ensures in
    claimed-next c.args.area.bytes.now c.args.slot (in_part l from i) (in_part l from (i + 1)) c.from-c.result c.args.due.now c.loop-i.due
    (λ x. part-next l from i (omega arith) x ∙ ap (λ (k : ℕ). in_part l from i x or eqb k x) (sym here))
    (omega (arith, c.requires.below i (omega arith))) c.if-area-c.false c.loop-i.invariant
