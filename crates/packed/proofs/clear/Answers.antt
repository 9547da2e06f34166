-- `clear` meets its contract: an idle slot's bytes are all zero.
use mathlib.Core.List.{List}
use mathlib.Core.Path.{◌≡◌, sym, ap, ◌∙◌}
use Prim.Native.Nat.{ℕ, ◌+◌, ◌-◌, ◌≤◌}
use native.Mathlib.Omega.{arith}
use lib.ListN.{length, take, drop, replicate, length-replicate, length-take, length-drop}
use Rattle.wire.proofs.Laws.Part.{splice-over}
use Rattle.slot.specs.Layout.{slot_size, slot_bytes, empty}
use Rattle.slot.proofs.Zero.{empty-bytes}
use Rattle.packed.proofs.clear.Goals as goal

cut : (s : List ℕ) (at size : ℕ) → at + size ≤ length s → length (take (at + size - at) (drop at s)) ≡ size
cut s at size fits = omega (arith, length-take {A = ℕ}, length-drop {A = ℕ})

pub returns : goal.returns
returns c =
    let s = c.args.s.now in
    let at = c.args.at in
    let w = c.args.width in
    let zeros = c.fill.ensures.after (λ y e. e) ∙ ap (λ (n : ℕ). replicate n 0) (cut s at (slot_size w) c.requires.1) ∙ sym (empty-bytes w) in
    splice-over s at (slot_size w) (slot_bytes w empty) _ zeros (ap length (empty-bytes w) ∙ length-replicate (slot_size w) 0)
