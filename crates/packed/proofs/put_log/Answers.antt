-- `put_log` meets its contract: before each turn the first `i` entries are put, one after the other.
use mathlib.Core.Path.{◌≡◌, refl, sym}
use Prim.Native.Nat.{ℕ, ◌+◌, ◌*◌, ◌<◌, ◌≤◌}
use native.Mathlib.Nat.{mul-suc, mul-le-mul_left}
use native.Mathlib.Omega.{arith}
use lib.ListN.{length, get_or}
use Rattle.std.proofs.lemmas.List.{get_or_read_under}
use Rattle.wire.specs.Table.{cat}
use Rattle.wire.proofs.Laws.Part.{splice-nil, splice-part}
use Rattle.packed.proofs.put_log.Goals as goal

-- entry i has room where n of them have
room : (size i n : ℕ) → i < n → size * i + size ≤ size * n
room size i n h = rw mul-suc at (mul-le-mul_left size h)

pub loop-i-init : goal.loop-i-init
unfolding cat
loop-i-init g c d = sym (splice-nil _ _)

pub put-requires : goal.put-requires
put-requires g c = rw c.SIZE.ensures (omega (arith, room g.E.Entry.SIZE c.loop-i.i (length c.args.log.now) c.loop-i-test.true))

pub loop-i-preserved : goal.loop-i-preserved
loop-i-preserved g c d =
    let here : c.index-log-i.result ≡ get_or c.args.log.now c.loop-i.i d = get_or_read_under _ _ _ _ d c.index-log-i.is c.loop-i-test.true refl in
    splice-part g.E.Entry.SIZE (λ j. g.E.Entry.bytes (get_or c.args.log.now j d)) (λ j. g.met.E.Entry.sized _) c.args.s.now c.args.at c.loop-i.i
    c.loop-i.s c.put.new.s (omega arith) (c.loop-i.invariant d) (rw (← here, ← c.SIZE.ensures) c.put.ensures)

pub returns : goal.returns
returns g c d =
    let all : c.loop-i.i ≡ length c.args.log.now = omega arith in
    rw (← all) (c.loop-i.invariant d)
