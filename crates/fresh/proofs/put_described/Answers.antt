-- `put_described` meets its contract: before each turn the cells of the descriptions seen so far are put, one after the other.
use mathlib.Core.Path.{sym, ap, ◌∙◌}
use Prim.Native.Nat.{ℕ, ◌+◌, ◌*◌}
use native.Mathlib.Omega.{arith}
use lib.ListN.{length, drop}
use Rattle.std.proofs.lemmas.Iterator.Consumers.{YieldsList-from_enumerate, YieldsList-turn}
use Rattle.std.proofs.lemmas.List.{length_push}
use Rattle.wire.specs.Part.{splice}
use Rattle.wire.specs.Table.{cat}
use Rattle.wire.proofs.Laws.Part.{splice-nil, splice-part}
use Rattle.rules.specs.Layout.{cell_bytes}
use Rattle.rules.specs.Area.{described_cell}
use Rattle.rules.proofs.CellBytes.{length-cell_bytes}
use Rattle.fresh.specs.Parts.{fresh_cells}
use Rattle.fresh.proofs.Descriptions.{cells-yielded, cell-turn}
use Rattle.fresh.proofs.put_described.Goals as goal

pub loop-c-init : goal.loop-c-init
unfolding cat
loop-c-init c = sym (splice-nil c.args.s.now 14)

pub loop-c-preserved : goal.loop-c-preserved
loop-c-preserved c =
    let ds = c.args.ds.now in
    let k = length c.loop-c.yielded in
    let cells = YieldsList-from_enumerate {s = c.into_iter-c-iterator.result} (cells-yielded ds (cc) (cc)) (cc) in
    let turn = cell-turn ds k c.in-Some.c (described_cell c.in-Some.d.now)
    (YieldsList-turn cells c.loop-c.yielded _ c.loop-c.yielded_by _ _ (c.in-Some.c, c.in-Some.d) c.in-Some.is c.next.ensures.steps) in
    let put = c.put_cell.ensures ∙ (λ j. splice c.loop-c.s (14 + 14 * turn.0 j) (cell_bytes 8 ((c.described.ensures ∙ turn.1) j))) in
    splice-part 14 (λ j. cell_bytes 8 (described_cell (drop (5 * j) ds))) (λ j. length-cell_bytes 8 (described_cell (drop (5 * j) ds))) c.args.s.now 14 k c.loop-c.s c.put_cell.new.s (omega arith)
    c.loop-c.invariant put
    ∙ ap (λ (n : ℕ). splice c.args.s.now 14 (fresh_cells n ds)) (sym (length_push c.loop-c.yielded (c.in-Some.c, c.in-Some.d)))
