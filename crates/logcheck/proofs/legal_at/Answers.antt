-- Each return is the definition's case of the kind; the bytes of a word are below 256, so that any four of them are a word of kind 2.
use native.Mathlib.Omega.{arith}
use lib.ListN.{drop}
use Rattle.wire.proofs.Laws.Field.{be-bound, bytes_drop}
use Rattle.logcheck.proofs.Words.{legal-whole, legal-none}
use Rattle.logcheck.proofs.legal_at.Goals as goal

pub returns-then-kind-eq2 : goal.returns-then-kind-eq2
returns-then-kind-eq2 c =
    legal-whole c.args.kind _ c.if-kind-eq2.true
    (omega (arith, be-bound 4 (drop c.args.at c.args.s.now) (bytes_drop c.args.at c.args.s.now (λ i. omega (arith, c.type_inv.s i)))))

pub returns : goal.returns
returns c =
    legal-none c.args.kind _ c.if-kind-eq2.false c.if-kind-eq1.false c.if-kind-eq3.false
