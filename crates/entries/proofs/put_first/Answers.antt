-- `put_first` meets its contract: each store is right after the bytes that are put already.
use mathlib.Core.Path.{◌≡◌, refl}
use mathlib.Core.List.{List, [], ◌∷◌}
use Prim.Native.Nat.{ℕ, ◌+◌, ◌≤◌}
use native.Mathlib.Omega.{arith}
use lib.ListN.{length, set}
use Rattle.wire.specs.Part.{splice}
use Rattle.wire.proofs.Laws.Part.{splice-set, splice-store}
use Rattle.slot.proofs.Entry.{bit-from}
use Rattle.entries.proofs.put_first.Goals as goal

-- five stores one after the other are one part
five : (a : List ℕ) (at u v x y z : ℕ) → at + 5 ≤ length a
    → set (set (set (set (set a at u) (at + 1) v) (at + 2) x) (at + 3) y) (at + 4) z ≡ splice a at (u ∷ v ∷ x ∷ y ∷ z ∷ [])
five a at u v x y z h =
    let one = splice-set a at u (omega arith) in
    let two = splice-store a at (u ∷ []) (set a at u) (at + 1) v (omega arith) refl one in
    let three = splice-store a at (u ∷ v ∷ []) (set (set a at u) (at + 1) v) (at + 2) x (omega arith) refl two in
    let four = splice-store a at (u ∷ v ∷ x ∷ []) (set (set (set a at u) (at + 1) v) (at + 2) x) (at + 3) y (omega arith) refl three in
    splice-store a at (u ∷ v ∷ x ∷ y ∷ []) (set (set (set (set a at u) (at + 1) v) (at + 2) x) (at + 3) y) (at + 4) z (omega arith) refl four

pub returns : goal.returns
returns c =
    rw (← bit-from c.args.v.now.ignoring, ← c.from.ensures)
    (five c.args.s.now c.args.at c.args.v.now.phase c.from.result c.args.v.now.taken c.args.v.now.readcount c.args.v.now.writecount (c.requires))
