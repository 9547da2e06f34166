-- `put_cell` meets its contract: word and stamp are put right after the two bytes that are stored.
use mathlib.Core.Path.{refl}
use mathlib.Core.List.{[], ◌∷◌}
use Prim.Native.Nat.{◌+◌}
use native.Mathlib.Omega.{arith}
use lib.ListN.{set}
use Rattle.wire.specs.Field.{to_be}
use Rattle.wire.proofs.Laws.Field.{length-to_be}
use Rattle.wire.proofs.Laws.Part.{splice-set, splice-store, splice-next}
use Rattle.rules.specs.Layout.{cell_bytes}
use Rattle.stores.proofs.put_cell.Goals as goal

pub returns : goal.returns
unfolding cell_bytes
returns c =
    let a = c.args.s.now in
    let at = c.args.at in
    let x = c.args.x in
    let one = splice-set a at x.kind (omega arith) in
    let two = splice-store a at (x.kind ∷ []) (set a at x.kind) (at + 1) x.holder (omega arith) refl one in
    let three = splice-next a at (x.kind ∷ x.holder ∷ []) (to_be 4 x.word) _ c.put.new.s (at + 2) (omega arith) refl two (rw c.from.ensures at c.put.ensures) in
    splice-next a at (x.kind ∷ x.holder ∷ to_be 4 x.word) (to_be 8 x.stamp) c.put.new.s c.put-2.new.s (at + 6) (omega arith)
    (rw length-to_be (omega arith)) three c.put-2.ensures
