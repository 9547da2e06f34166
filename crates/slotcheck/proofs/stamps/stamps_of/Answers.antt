-- Before each turn the first `k` stamps are those of the table, and the others are as they were made.
use native.Mathlib.Omega.{arith}
use mathlib.Core.Path.{◌≡◌, ◌∙◌}
use lib.ListN.{replicate}
use Rattle.wire.proofs.Laws.Table.{fill_start, fill_step}
use Rattle.slotcheck.specs.SlotParts.{stamp_in}
use Rattle.slotcheck.proofs.SlotPlaces.{stamp-at}
use Rattle.slotcheck.proofs.stamps.stamps_of.Goals as goal

pub loop-k-init : goal.loop-k-init
loop-k-init c = fill_start (stamp_in c.args.area.cells c.args.area.bytes.now) (replicate 8 0)

pub loop-k-preserved : goal.loop-k-preserved
loop-k-preserved c =
    let here : c.get.result ≡ stamp_in c.args.area.cells c.args.area.bytes.now c.loop-k.k =
    c.get.ensures ∙ stamp-at c.args.area.cells c.args.area.bytes.now c.args.area.framed c.loop-k.k c.slot_place.result.bytes.now c.slot_place.ensures in
    rw here (fill_step (stamp_in c.args.area.cells c.args.area.bytes.now) (replicate 8 0) c.loop-k.stamp-items c.loop-k.k (omega arith) c.loop-k.invariant)
