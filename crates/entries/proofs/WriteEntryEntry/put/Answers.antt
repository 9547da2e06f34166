-- `put` meets its contract: the word is put right after the byte that is stored.
use mathlib.Core.Path.{refl}
use mathlib.Core.List.{[], ◌∷◌}
use Prim.Native.Nat.{◌+◌}
use native.Mathlib.Omega.{arith}
use lib.ListN.{set}
use Rattle.wire.specs.Field.{to_be}
use Rattle.wire.proofs.Laws.Part.{splice-set, splice-next}
use Rattle.slot.specs.Layout.{write_bytes}
use Rattle.entries.proofs.WriteEntryEntry.put.Goals as goal

pub returns : goal.returns
unfolding write_bytes
returns c =
    let a = c.args.s.now in
    let at = c.args.at in
    let cell = c.args.self.cell in
    rw (← c.from.ensures)
    (splice-next a at (cell ∷ []) (to_be 4 c.from.result) (set a at cell) c.put.new.s (at + 1) (omega arith) refl (splice-set a at cell (omega arith)) c.put.ensures)
