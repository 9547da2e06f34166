-- `put_header` meets its contract: each field is put right after those before it.
use mathlib.Core.List.{[], ◌∷◌, ◌++◌, append_assoc}
use mathlib.Core.Path.{refl, ap, ◌∙◌}
use Prim.Native.Nat.{◌+◌, ◌*◌}
use native.Mathlib.Omega.{arith}
use lib.ListN.{set, length-append}
use Rattle.wire.specs.Field.{to_be}
use Rattle.wire.specs.Part.{splice}
use Rattle.wire.proofs.Laws.Field.{length-to_be}
use Rattle.wire.proofs.Laws.Part.{splice-set, splice-store, splice-next}
use Rattle.fresh.proofs.put_header.Goals as goal

pub returns : goal.returns
returns c =
    let a = c.args.s.now in
    let n = c.args.n in
    let length-field = to_be 4 (14 + 14 * n + 197 * 8) in
    let one = splice-set a 0 1 (omega arith) in
    let two = splice-next a 0 (1 ∷ []) length-field (set a 0 1) c.put.new.s 1 (omega arith) refl one (rw c.from.ensures at c.put.ensures) in
    let three = splice-store a 0 (1 ∷ length-field) c.put.new.s 5 n (omega arith) (rw length-to_be) two in
    let four =
    splice-next a 0 ((1 ∷ length-field) ++ (n ∷ [])) (to_be 8 0) (set c.put.new.s 5 n) c.put-2.new.s 6 (omega arith) (simp (length-append, length-to_be)) three
    c.put-2.ensures in
    four ∙ ap (splice a 0) (append_assoc (1 ∷ length-field) (n ∷ []) (to_be 8 0))
