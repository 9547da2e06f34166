use native.Mathlib.Omega.{arith}
use Rattle.level.proofs.Judging.{place-inside, group-inside, picked-below, negative-comes, none-comes, picked-comes}
use Rattle.level.proofs.judge.Goals as goal

pub overflow_cast-result : goal.overflow_cast-result
overflow_cast-result c =
    let inside = place-inside c.args.of.set.now _ c.requires.1 _ c.in-Some.ensures in
    omega arith

pub returns-in-Some : goal.returns-in-Some
returns-in-Some c =
    negative-comes c.args.of.set.now _ c.requires.1 _ _ _ c.in-Some.ensures c.requires.0

pub returns-in_default-pick : goal.returns-in_default-pick
returns-in_default-pick c =
    none-comes c.args.of.set.now _ c.requires.1 _ _ c.in_default.ensures c.in_default-pick.ensures c.requires.0

pub write_count-requires-clause-good : goal.write_count-requires-clause-good
write_count-requires-clause-good c =
    let inside = group-inside c.args.of.set.now _ c.requires.1 _ c.in-Some-pick.ensures in
    (c.requires.0, c.requires.1, omega arith)

pub write_count-requires-clause-g_bound : goal.write_count-requires-clause-g_bound
write_count-requires-clause-g_bound c =
    picked-below c.args.of.set.now _ c.requires.1 _ c.in-Some-pick.ensures

pub overflow_cast-result-2 : goal.overflow_cast-result-2
overflow_cast-result-2 c =
    let inside = group-inside c.args.of.set.now _ c.requires.1 _ c.in-Some-pick.ensures in
    omega arith

pub returns : goal.returns
returns c =
    picked-comes c.args.of.set.now _ c.requires.1 _ _ c.in_default.ensures _ _ _ c.in-Some-pick.ensures c.write_count.ensures
