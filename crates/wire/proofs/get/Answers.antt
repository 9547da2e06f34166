-- `get` meets its contract: before each turn `n` is the field of the bytes passed, and a turn is the definition's own step. Seven bytes' number
-- times 256 and one byte more still fit 64 bits.
use mathlib.Core.Path.{◌≡◌, refl}
use mathlib.Core.List.{List}
use Prim.Native.Nat.{ℕ, ◌+◌, ◌*◌, ◌-◌, ◌^◌, ◌≤◌, ◌<◌}
use native.Mathlib.Nat.{lt_of_lt_of_le, pow-le-pow_right}
use native.Mathlib.Numerals.{add-one}
use native.Mathlib.Omega.{arith}
use lib.Dec.{lit<}
use lib.ListN.{get_or, take, drop, length-take, length-drop}
use lib.Seq.{get_or-take}
use mir.Syntax.{w8}
use mir.Val.{Fits}
use Rattle.wire.specs.Field.{Bytes, be}
use Rattle.wire.proofs.Laws.Field.{be-bound, bytes_drop}
use Rattle.wire.proofs.get.Goals as goal

-- at most seven bytes' number
room : {n : ℕ} (s : List ℕ) (at i : ℕ) → ((k : ℕ) → Fits w8 (get_or s k 0)) → n ≡ be i (drop at s) → i ≤ 7 → n < 256 ^ 7
room s at i known e h =
    let bytes : Bytes (drop at s) = bytes_drop at s (λ k. omega (arith, known k)) in
    rw e (lt_of_lt_of_le (be-bound i (drop at s) bytes) (pow-le-pow_right (lit< tt) h))

-- a turn takes one more byte
turn : {n byte i width : ℕ} (l : List ℕ) → i < width → byte ≡ get_or (take width l) i 0 → n ≡ be i l → n * 256 + byte ≡ be (i + 1) l
unfolding be
turn {i = i} {width = width} l h here e = rw (add-one i, here, e, get_or-take width l i 0 h)

pub loop-byte-init : goal.loop-byte-init
unfolding be
loop-byte-init c = refl

pub overflow_mul-n : goal.overflow_mul-n
overflow_mul-n c =
    let seven : c.loop-byte.byte-index ≤ 7 = omega (arith, length-take {A = ℕ}) in
    omega (arith, room c.args.s.now c.args.at c.loop-byte.byte-index c.type_inv.s c.loop-byte.invariant seven)

pub overflow_add-n : goal.overflow_add-n
overflow_add-n c =
    let seven : c.loop-byte.byte-index ≤ 7 = omega (arith, length-take {A = ℕ}) in
    omega (arith, room c.args.s.now c.args.at c.loop-byte.byte-index c.type_inv.s c.loop-byte.invariant seven)

pub loop-byte-preserved : goal.loop-byte-preserved
loop-byte-preserved c =
    let inside : c.loop-byte.byte-index < c.args.at + c.args.width - c.args.at = omega (arith, length-take {A = ℕ}) in
    turn (drop c.args.at c.args.s.now) inside c.from.ensures c.loop-byte.invariant

pub returns : goal.returns
returns c =
    let all : c.loop-byte.byte-index ≡ c.args.width = omega (arith, length-take {A = ℕ}, length-drop {A = ℕ}) in
    rw (← all) c.loop-byte.invariant
