-- `first_obstacle` meets its contract: before each turn no other slot holds a cell of the entries before entry `k`, so the search goes on from there.
use mathlib.Core.Bool.{Bool}
use mathlib.Core.List.{List}
use mathlib.Core.Path.{◌≡◌, refl, sym, ap, ◌∙◌}
use Prim.Native.Nat.{ℕ}
use native.Mathlib.Omega.{arith}
use Rattle.std.specs.Prelude as code
use lib.ListN.{take, length-take}
use Rattle.slot.specs.Layout.{no_read}
use Rattle.slot.specs.declared.ReadEntry.{ReadEntry}
use Rattle.slot.proofs.Search.{search-next, search-found, search-end}
use Rattle.rules.specs.Cells.{held_by_other, obstacle}
use Rattle.rules.specs.State.{State, cell_at}
use Rattle.area.specs.Good.{state_in}
use Rattle.area.specs.InPlace.{record_at}
use Rattle.area.proofs.Logged.{Counted, counted_of}
use Rattle.readlog.specs.Reload.{obstacle_of, obstacle_in}
use Rattle.readlog.proofs.first_obstacle.Goals as goal

-- what is looked for
abbrev held : State → ℕ → ReadEntry → Bool
held S i e = held_by_other i (cell_at S e.cell)

-- the entries that are looked at are the whole log
whole : {l : List ℕ} {i n : ℕ} → Counted l i n → obstacle_of (state_in l) (obstacle (state_in l) i (take n (record_at l i).reads)) ≡ obstacle_in l i
whole {l} {i} {n} counted = ap (λ (m : ℕ). obstacle_of (state_in l) (obstacle (state_in l) i (take m (record_at l i).reads))) counted.count

pub loop-k-init : goal.loop-k-init
loop-k-init c =
    (refl, rw c.from-n.ensures (counted_of c.args.slot.good c.args.slot.below c.fields.ensures), refl)

pub loop-k-preserved : goal.loop-k-preserved
unfolding obstacle
loop-k-preserved c =
    let S = state_in c.args.slot.area.now in
    let i = c.args.slot.index in
    let asked = ap (held S i) (sym c.read_entry-e.ensures) ∙ ap (held_by_other i) (sym c.cell_at-x.ensures) ∙ sym c.held_by_other.ensures ∙ c.if-held_by_other.false in
    (c.loop-k.invariant.0, c.loop-k.invariant.1, search-next (held S i) no_read (record_at c.args.slot.area.now i).reads c.from-n.result c.loop-k.k c.loop-k.invariant.2 (omega arith) (omega arith) asked)

pub returns-then-held_by_other : goal.returns-then-held_by_other
unfolding obstacle
returns-then-held_by_other c =
    let S = state_in c.args.slot.area.now in
    let i = c.args.slot.index in
    let asked = ap (held S i) (sym c.read_entry-e.ensures) ∙ ap (held_by_other i) (sym c.cell_at-x.ensures) ∙ sym c.held_by_other.ensures ∙ c.if-held_by_other.true in
    let found = search-found (held S i) no_read (record_at c.args.slot.area.now i).reads c.from-n.result c.loop-k.k c.loop-k.invariant.2 (omega arith) (omega arith) asked in
    (λ j. code.Some (record { cell = (c.read_entry-e.ensures j).cell; holder = ((c.cell_at-x.ensures ∙ ap (λ (e : ReadEntry). cell_at S e.cell) c.read_entry-e.ensures) j).holder }))
    ∙ ap (obstacle_of S) (sym found)
    ∙ whole c.loop-k.invariant.1

pub returns-after-loop-k : goal.returns-after-loop-k
unfolding obstacle
returns-after-loop-k c =
    let S = state_in c.args.slot.area.now in
    let i = c.args.slot.index in
    let none_held = search-end (held S i) no_read (record_at c.args.slot.area.now i).reads c.from-n.result c.loop-k.k c.loop-k.invariant.2 (rw length-take (omega arith)) in
    c.loop-k.invariant.0 ∙ ap (obstacle_of S) (sym none_held) ∙ whole c.loop-k.invariant.1
