-- `put` meets its contract: before each turn, putting the lowest `k` bytes of `n` would leave what the contract says, and a turn puts the last of them.
use mathlib.Core.Path.{◌≡◌, sym, ◌∙◌}
use mathlib.Core.List.{List, [], ◌∷◌}
use Prim.Native.Nat.{ℕ, zero, suc, ◌+◌, ◌-◌, ◌/◌, ◌%◌, ◌≤◌, ◌<◌}
use native.Mathlib.Omega.{arith}
use lib.ListN.{length, set}
use Rattle.wire.specs.Field.{to_be, field_put}
use Rattle.wire.proofs.Laws.Field.{length-to_be}
use Rattle.wire.proofs.Laws.Part.{splice-nil, splice-set, splice-under}
use Rattle.wire.proofs.put.Goals as goal

-- a turn stores the last byte that is left to put
turn : (s : List ℕ) (at k n : ℕ) → 0 < k → at + k ≤ length s
    → field_put (set s (at + (k - 1)) (n % 256)) at (k - 1) (n / 256) ≡ field_put s at k n
unfolding to_be
turn s at zero n h fits = absurd (omega arith)
turn s at (suc k) n h fits =
    let place : at + (suc k - 1) ≡ at + length (to_be k (n / 256)) = rw length-to_be (omega arith) in
    let last : suc k - 1 ≡ k = omega arith in
    let within : at + length (to_be k (n / 256)) < length s = rw length-to_be (omega arith) in
    rw (place, splice-set, last) (splice-under s at (to_be k (n / 256)) (n % 256 ∷ []) (omega arith))

-- when nothing is left to put, all is put
rest : (s : List ℕ) (at k n : ℕ) → k ≤ 0 → s ≡ field_put s at k n
unfolding to_be
rest s at zero n h = sym (splice-nil s at)
rest s at (suc k) n h = absurd (omega arith)

pub loop-k-preserved : goal.loop-k-preserved
loop-k-preserved c = turn c.loop-k.s c.args.at c.loop-k.k c.loop-k.n (omega arith) (omega arith) ∙ c.loop-k.invariant

pub returns : goal.returns
returns c = rest c.loop-k.s c.args.at c.loop-k.k c.loop-k.n (omega arith) ∙ c.loop-k.invariant
