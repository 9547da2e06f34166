-- `put` meets its contract: the word is put right after the two bytes that are stored.
use mathlib.Core.Path.{refl}
use mathlib.Core.List.{[], ◌∷◌}
use Prim.Native.Nat.{◌+◌}
use native.Mathlib.Omega.{arith}
use lib.ListN.{set}
use Rattle.wire.specs.Field.{to_be}
use Rattle.wire.proofs.Laws.Part.{splice-set, splice-store, splice-next}
use Rattle.slot.specs.Layout.{read_bytes}
use Rattle.slot.proofs.Entry.{bit-from}
use Rattle.entries.proofs.ReadEntryEntry.put.Goals as goal

pub returns : goal.returns
unfolding read_bytes
returns c =
    let a = c.args.s.now in
    let at = c.args.at in
    let cell = c.args.self.cell in
    let mark = c.from.result in
    let one = splice-set a at cell (omega arith) in
    let two = splice-store a at (cell ∷ []) (set a at cell) (at + 1) mark (omega arith) refl one in
    rw (← bit-from c.args.self.mark, ← c.from.ensures, ← c.from-2.ensures)
    (splice-next a at (cell ∷ mark ∷ []) (to_be 4 c.from-2.result) (set (set a at cell) (at + 1) mark) c.put.new.s (at + 2) (omega arith) refl two c.put.ensures)
