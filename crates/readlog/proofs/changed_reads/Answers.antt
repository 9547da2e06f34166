-- `changed_reads` meets its contract: before each turn the first `k` entries are changed.
use mathlib.Core.List.{List, ◌++◌, map}
use mathlib.Core.Path.{◌≡◌, ap, ◌∙◌}
use Prim.Native.Nat.{ℕ}
use native.Mathlib.Omega.{arith}
use lib.ListN.{length, take, drop, set, length-take}
use Rattle.wire.specs.Table.{tab}
use Rattle.wire.proofs.Laws.Table.{fill_start, fill_step, fill_end}
use Rattle.slot.specs.Logs.{padded_reads}
use Rattle.slot.specs.declared.SlotRecord.{SlotRecord}
use Rattle.area.specs.InPlace.{record_at, read_in, fields_in}
use Rattle.area.proofs.Logged.{Counted, counted_of}
use Rattle.readlog.proofs.Fill.{filled}
use Rattle.readlog.proofs.changed_reads.Goals as goal

-- the array begins with 16 entries
sixteen : (l : List ℕ) (i : ℕ) {v : SlotRecord} → v ≡ fields_in l i → length v.reads ≡ 16
sixteen l i e = ap (λ (u : SlotRecord). length u.reads) e

pub slice_bounds-log-end : goal.slice_bounds-log-end
slice_bounds-log-end g c =
    let counted = counted_of c.args.slot.good c.args.slot.below c.requires.v_value in
    let long = sixteen c.args.slot.area.now c.args.slot.index c.requires.v_value in
    omega arith

pub slice_bounds-e-items-end : goal.slice_bounds-e-items-end
slice_bounds-e-items-end g c =
    let counted = counted_of c.args.slot.good c.args.slot.below c.requires.v_value in
    let long = sixteen c.args.slot.area.now c.args.slot.index c.requires.v_value in
    rw length-take (omega arith)

pub loop-k-init : goal.loop-k-init
loop-k-init g c = (
  rw c.from-n.ensures (counted_of c.args.slot.good c.args.slot.below c.requires.v_value),
  λ f computes. fill_start (λ k. f (read_in c.args.slot.area.now c.args.slot.index k)) (take c.from-n.result c.args.v.reads),
)

pub loop-k-preserved : goal.loop-k-preserved
loop-k-preserved g c = (
  c.loop-k.invariant.0,
  λ f computes.
      ap (set c.loop-k.e-items c.loop-k.k) (computes _ _ c.change.ensures ∙ ap f c.read_entry.ensures)
      ∙ fill_step (λ k. f (read_in c.args.slot.area.now c.args.slot.index k)) (take c.from-n.result c.args.v.reads) c.loop-k.e-items c.loop-k.k c.loop-k-test.true
      (c.loop-k.invariant.1 f computes),
)

pub returns : goal.returns
returns g c = λ f computes.
    let a = c.args.slot.area.now in
    let i = c.args.slot.index in
    let n = c.from-n.result in
    let counted : Counted a i n = c.loop-k.invariant.0 in
    let long = sixteen c.args.slot.area.now c.args.slot.index c.requires.v_value in
    let looked : length (take n c.args.v.reads) ≡ n = rw length-take (omega arith) in
    let end : c.loop-k.k ≡ n = omega arith in
    let items = fill_end (λ k. f (read_in a i k)) (take n c.args.v.reads) c.loop-k.e-items c.loop-k.k (omega arith) (c.loop-k.invariant.1 f computes)
    ∙ ap (λ (m : ℕ). tab m (λ k. f (read_in a i k))) end in
    ap (λ (u : SlotRecord). c.loop-k.e-items ++ drop n u.reads) c.requires.v_value
    ∙ filled f (record_at a i).reads n (omega arith) c.loop-k.e-items items
    ∙ ap (λ (m : ℕ). padded_reads (map f (take m (record_at a i).reads))) counted.count
