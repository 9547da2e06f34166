-- An operation that leaves the logs as they stand comes to the same on the fields alone: with the logs put back it is the operation on the whole record.
use mathlib.Core.Bool.{Bool, true, false, cond}
use mathlib.Core.List.{List}
use mathlib.Core.Path.{◌≡◌, refl, ap, ◌∙◌}
use Prim.Native.Nat.{ℕ, ◌+◌, ◌-◌, ◌<◌}
use native.Mathlib.Omega.{arith}
use lib.Dec.{eqb, ltb}
use lib.ListN.{get_or, set, replicate}
use lib.Seq.{get_or-set_same}
use borrow.Author.Tests.{ne_eqb}
use Rattle.slot.specs.Layout.{read_capacity, no_read, empty}
use Rattle.slot.specs.Operations.{moved, with_reads, Writable, begun, joined, written, closed, locked_one, entered, reloaded_with, ignoring_set, finished, published_one}
use Rattle.slot.specs.Fields.{fields_of, with_fields, turned_to, with_last, without_reads, with_reads_of, with_writes_of}
use Rattle.slot.specs.declared.ReadEntry.{ReadEntry}
use Rattle.slot.specs.declared.WriteEntry.{WriteEntry}
use Rattle.slot.specs.declared.SlotRecord.{SlotRecord}

-- a slot that does not turn idle keeps its logs
turned-busy : (v w : SlotRecord) → (w.phase ≡ 0 → ⊥) → turned_to v w ≡ with_fields v w
unfolding turned_to
turned-busy v w busy = rw (ne_eqb w.phase 0 busy)

pub begun-fields : (v : SlotRecord) {w : SlotRecord} (start : ℕ) → v ≡ empty → w ≡ begun v start → turned_to v w ≡ begun v start
unfolding turned_to
begun-fields v start here made = rw (here, made)

module _ (v : SlotRecord) {h w : SlotRecord} (taken_out : h ≡ fields_of v) where
  pub closed-fields : w ≡ closed h → turned_to v w ≡ closed v
  unfolding turned_to
  closed-fields made = rw (made, taken_out)

  pub locked-fields : v.phase ≡ 2 → w ≡ locked_one h → turned_to v w ≡ locked_one v
  locked-fields p made =
      let same : w ≡ locked_one (fields_of v) = made ∙ ap locked_one taken_out in
      ap (turned_to v) same ∙ turned-busy v (locked_one (fields_of v)) (λ e. omega (arith, p, e))

  pub ignoring-fields : v.phase ≡ 3 → w ≡ ignoring_set h → turned_to v w ≡ ignoring_set v
  ignoring-fields p made =
      let same : w ≡ ignoring_set (fields_of v) = made ∙ ap ignoring_set taken_out in
      ap (turned_to v) same ∙ turned-busy v (ignoring_set (fields_of v)) (λ e. omega (arith, p, e))

  pub finished-fields : w ≡ finished h → turned_to v w ≡ finished v
  unfolding turned_to finished
  finished-fields made = rw (made, taken_out) (by (eqb v.writecount 0))
    where
      by : (b : Bool)
          → cond (eqb (cond b empty (moved (fields_of v) 4 v.ignoring v.taken v.commit)).phase 0) empty
          (with_fields v (cond b empty (moved (fields_of v) 4 v.ignoring v.taken v.commit)))
          ≡ cond b empty (moved v 4 v.ignoring v.taken v.commit)
      by true = refl
      by false = refl

  pub published-fields : v.phase ≡ 4 → w ≡ published_one h → turned_to v w ≡ published_one v
  unfolding turned_to published_one
  published-fields p made = ap (turned_to v) (made ∙ ap published_one taken_out) ∙ by (ltb (v.taken + 1) v.writecount)
    where
      by : (b : Bool)
          → turned_to v (cond b (moved (fields_of v) v.phase v.ignoring (v.taken + 1) v.commit) empty)
          ≡ cond b (moved v v.phase v.ignoring (v.taken + 1) v.commit) empty
      by true = turned-busy v (moved (fields_of v) v.phase v.ignoring (v.taken + 1) v.commit) (λ e. omega (arith, p, e))
      by false = refl

  -- one more entry in the read log
  pub joined-fields : (e : ReadEntry) → v.readcount < read_capacity → w ≡ joined h e → with_last v w ≡ joined v e
  joined-fields e room made =
      let same : w ≡ joined (fields_of v) e = made ∙ ap (λ (u : SlotRecord). joined u e) taken_out in
      let place : v.readcount + 1 - 1 ≡ v.readcount = omega arith in
      let put : get_or (set (replicate read_capacity no_read) v.readcount e) v.readcount no_read ≡ e = get_or-set_same (replicate read_capacity no_read) v.readcount e no_read room in
      ap (with_last v) same ∙ (λ i. with_reads v (v.readcount + 1) (set v.reads (place i) (get_or (set (replicate read_capacity no_read) v.readcount e) (place i) no_read)))
      ∙ ap (λ (x : ReadEntry). with_reads v (v.readcount + 1) (set v.reads v.readcount x)) put

-- with one log taken out
pub writable-alone : (v : SlotRecord) (e : WriteEntry) → Writable v e → Writable (without_reads v) e
writable-alone v e able = record { counted = able.counted; unused = able.unused; ascending = able.ascending; room = able.room }

pub written-alone : (v : SlotRecord) {h w : SlotRecord} (e : WriteEntry) → h ≡ without_reads v → w ≡ written h e → with_reads_of v w ≡ written v e
written-alone v e taken_out made = ap (with_reads_of v) (made ∙ ap (λ (u : SlotRecord). written u e) taken_out)

module _ (v : SlotRecord) {h w : SlotRecord} {reads : List ReadEntry} {commit : ℕ} (taken_out : h ≡ fields_of v) where
  pub entered-alone : w ≡ entered h reads commit → with_writes_of v w ≡ entered v reads commit
  entered-alone made = ap (with_writes_of v) (made ∙ ap (λ (u : SlotRecord). entered u reads commit) taken_out)

  pub reloaded-alone : w ≡ reloaded_with h reads commit → with_writes_of v w ≡ reloaded_with v reads commit
  reloaded-alone made = ap (with_writes_of v) (made ∙ ap (λ (u : SlotRecord). reloaded_with u reads commit) taken_out)
