-- `spell` meets its contract: before each turn the whole is what is left to write, and then what is written.
use mathlib.Core.Path.{◌≡◌, sym, ◌∙◌, ap}
use Prim.Native.Nat.{◌+◌, ◌-◌}
use native.Mathlib.Omega.{arith}
use lib.ListN.{take, length-set}
use lib.Seq.{take-take, take-set-le}
use Rattle.line.specs.Number.{digit}
use Rattle.line.proofs.Number.{over-when, not-over, digits-over, digits-none, turn, ending}
use Rattle.line.proofs.spell.Goals as goal

pub returns-then-rest-eq0 : goal.returns-then-rest-eq0
returns-then-rest-eq0 c =
    let inv = c.loop-i.invariant in
    let here : c.loop-i.i - 1 + 1 ≡ c.loop-i.i = omega arith in
    let over = digits-over _ _ c.loop-i.i _ (over-when c.if-least-eq0.true c.if-rest-eq0.true) in
    rw here (ending _ _ _ _ _ _ _ _ inv.0 inv.1 inv.2 over (rw (c.base-base.ensures, c.least-least.ensures) at inv.3))

pub loop-i-preserved : goal.loop-i-preserved
unfolding digit
loop-i-preserved c =
    let inv = c.loop-i.invariant in
    let text = c.args.text.now in
    let front = sym (take-take (c.loop-i.i - 1) c.loop-i.i c.loop-i.text (omega arith)) ∙ ap (take (c.loop-i.i - 1)) inv.2 ∙ take-take (c.loop-i.i - 1) c.loop-i.i text (omega arith) in (
      omega arith,
      length-set c.loop-i.text (c.loop-i.i - 1) _ ∙ inv.1,
      take-set-le (c.loop-i.i - 1) c.loop-i.text (c.loop-i.i - 1) _ (omega arith) ∙ front,
      rw c.saturating_sub-least.ensures (turn _ c.loop-i.text _ _ c.loop-i.i c.loop-i.rest (omega arith) (omega arith) (not-over c.else-least-eq0.either) inv.3),
    )

pub returns : goal.returns
returns c =
    let inv = c.loop-i.invariant in
    let here : c.loop-i.i ≡ 0 = omega arith in
    let none = digits-none _ _ c.loop-i.i _ (omega arith) in
    rw here at (ending _ _ _ _ _ _ _ _ inv.0 inv.1 inv.2 none (rw (c.base-base.ensures, c.least-least.ensures) at inv.3))
