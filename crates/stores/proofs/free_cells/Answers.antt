-- `free_cells` meets its contract: before each turn the area packs the state in which the first `c` cells are freed where slot `i` holds them.
use mathlib.Core.List.{List}
use mathlib.Core.Path.{◌≡◌, refl, ap, ◌∙◌}
use Prim.Native.Nat.{ℕ, ◌+◌, ◌*◌, ◌<◌}
use native.Mathlib.Numerals.{add-one}
use native.Mathlib.Omega.{arith}
use Rattle.rules.specs.Model.{controller}
use Rattle.rules.specs.State.{State, cell_count, no_cell}
use Rattle.rules.specs.Cells.{free_all}
use Rattle.rules.specs.Layout.{pack}
use Rattle.rules.specs.declared.Cell.{Cell}
use Rattle.rules.proofs.AreaRead.{count-read}
use Rattle.rules.proofs.Freed.{freed_from}
use Rattle.area.specs.Good.{state_in}
use Rattle.stores.specs.Stores.{holder_freed}
use Rattle.area.proofs.Good.{good-kept}
use Rattle.stores.proofs.Sweep.{sweep-length, sweep-turn, sweep-end}
use Rattle.stores.proofs.Stored.{cell-freed, freed_to}
use Rattle.stores.proofs.free_cells.Goals as goal

-- a turn frees cell c
free-next : (S : State) (i c : ℕ) → c < cell_count S → holder_freed (pack controller (freed_to S i c)) (14 + 14 * c + 1) (i + 1) ≡ pack controller (freed_to S i (c + 1))
free-next S i c h =
    rw (add-one i)
    (cell-freed (freed_to S i c) i c (rw (sweep-length (freed_from i) no_cell S.cells c (omega arith)) h)
    ∙ ap (λ (cells : List Cell). pack controller (record { clock = S.clock; cells = cells; slots = S.slots }))
    (sweep-turn (freed_from i) no_cell S.cells (freed_to S i c).cells _ c h refl refl))

pub loop-c-init : goal.loop-c-init
loop-c-init c = good-kept c.args.s.now c.requires.0

pub loop-c-preserved : goal.loop-c-preserved
loop-c-preserved c =
    let l = c.args.s.now in
    c.free.ensures
    ∙ (λ j. holder_freed (c.loop-c.invariant j) (c.cell_offset.ensures j + 1) (c.args.i + 1))
    ∙ free-next (state_in l) c.args.i c.loop-c.c (rw (count-read controller l) (omega arith))

pub returns : goal.returns
unfolding free_all
returns c =
    let S = state_in c.args.s.now in
    c.loop-c.invariant
    ∙ ap (λ (cells : List Cell). pack controller (record { clock = S.clock; cells = cells; slots = S.slots }))
    (sweep-end (freed_from c.args.i) no_cell S.cells c.loop-c.c (rw (count-read controller c.args.s.now) (omega arith)))
