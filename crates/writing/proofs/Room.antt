-- Where there is room for a cell, and where its entry is found, a slot's record can take an entry of it.
use Rattle.std.specs.Prelude as code
use mathlib.Core.Bool.{Bool, true, false, not}
use mathlib.Core.List.{List}
use mathlib.Core.Option.{Option, none, some}
use mathlib.Core.Path.{◌≡◌, refl, sym, ◌∙◌, ap}
use Prim.Native.Nat.{ℕ, ◌≤◌}
use native.Mathlib.Omega.{arith}
use lib.ListN.{length}
use Rattle.slot.specs.declared.WriteEntry.{WriteEntry}
use Rattle.slot.specs.declared.SlotRecord.{SlotRecord}
use Rattle.slot.specs.Layout.{write_capacity}
use Rattle.slot.specs.Logs.{write_entry, writes_cell, put_write, write_log}
use Rattle.slot.specs.Operations.{write_found, Writable}
use Rattle.slot.proofs.Search.{write-has, write-lacks}
use Rattle.slot.proofs.Laws.Operations.{put-few, put-length-same}
use Rattle.ways.specs.Asked.{no_room}
use Rattle.ways.proofs.Found.{write-sought}
use Rattle.ways.proofs.Known.{Known}

-- a search that came back with nothing, of a log that has not the cell
module _ (writes : List WriteEntry) (c : ℕ) {f : code.Option WriteEntry} where
  has : (o : Option WriteEntry) → write_entry writes c ≡ o → f ≡ write_found o → code.is_some f ≡ writes_cell writes c
  has none logged found = ap code.is_some found ∙ sym (write-lacks writes c logged)
  has (some e) logged found = ap code.is_some found ∙ sym (write-has writes c e logged)

  pub lacking : (lacks : Bool) → f ≡ write_found (write_entry writes c) → code.is_some f ≡ not lacks → lacks ≡ not (writes_cell writes c)
  lacking true found told = ap not (sym told ∙ has _ refl found)
  lacking false found told = ap not (sym told ∙ has _ refl found)

-- the record can take the entry: where there is room, and where its cell is found
module _ {l : List ℕ} {v : SlotRecord} (k : Known l v) (e : WriteEntry) where
  fits : length (put_write e (write_log v)) ≤ write_capacity → Writable v e
  fits r = record { counted = k.writes_few; unused = k.unused; ascending = k.ascending; room = r }

  few : length (write_log v) ≤ write_capacity
  few = rw k.counted k.writes_few

  pub writable : {full : Bool} → full ≡ no_room v e.cell → full ≡ false → Writable v e
  writable asked free = fits (put-few e write_capacity (write_log v) k.ascending few (rw (k.counted, ← asked) free))

  pub writable-again : {f : code.Option WriteEntry} {found : WriteEntry} → f ≡ write_found (write_entry (write_log v) e.cell) → f ≡ code.Some found → Writable v e
  writable-again {found = found} sought told =
      let has = write-has (write_log v) e.cell found (write-sought (write_entry (write_log v) e.cell) sought told) in
      fits (omega (arith, put-length-same e (write_log v) has k.ascending, few))
