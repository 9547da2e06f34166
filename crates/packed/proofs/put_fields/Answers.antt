-- `put_fields` meets its contract: each part is put right after those before it.
use mathlib.Core.Path.{refl}
use mathlib.Core.List.{[], ◌∷◌}
use Prim.Native.Nat.{◌+◌, ◌≤◌}
use native.Mathlib.Omega.{arith}
use lib.ListN.{length}
use Rattle.wire.specs.Field.{to_be}
use Rattle.wire.proofs.Laws.Field.{length-to_be}
use Rattle.slot.specs.Layout.{bit, slot_size}
use Rattle.packed.proofs.Parts.{three}
use Rattle.packed.proofs.put_fields.Goals as goal

pub returns : goal.returns
returns c =
    let a = c.args.s.now in
    let at = c.args.at in
    let w = c.args.width in
    let v = c.args.v in
    let fits : at + slot_size w ≤ length a = c.requires in
    three a at (v.phase ∷ bit v.ignoring ∷ v.taken ∷ v.readcount ∷ v.writecount ∷ []) (to_be w v.start) (to_be w v.commit)
    (at + 5) (at + 5 + w) c.put_first.new.s c.put.new.s c.put-2.new.s
    (omega arith) refl (rw length-to_be) c.put_first.ensures c.put.ensures c.put-2.ensures
