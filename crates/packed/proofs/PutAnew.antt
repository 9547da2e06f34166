-- A slot's bytes with a part put anew: the bytes of the record with that part.
use mathlib.Core.List.{List, [], ◌++◌, append_assoc, append-nil}
use mathlib.Core.Path.{◌≡◌, sym, ap, ◌∙◌}
use Prim.Native.Nat.{ℕ, ◌+◌, ◌*◌, ◌<◌, ◌≤◌}
use native.Mathlib.Omega.{arith}
use lib.ListN.{length, get_or, set, length-append}
use Rattle.wire.specs.Part.{splice}
use Rattle.wire.proofs.Laws.Field.{length-to_be}
use Rattle.wire.proofs.Laws.Part.{splice_front, splice-within, splice-record, splice-whole}
use Rattle.wire.proofs.Laws.Table.{length-cat}
use Rattle.slot.specs.Layout.{read_capacity, write_capacity, no_read, no_write, read_size, write_size, read_bytes, write_bytes, reads_at, writes_at, field_bytes, read_log_bytes, write_log_bytes, slot_bytes}
use Rattle.slot.specs.Operations.{with_reads, with_writes}
use Rattle.slot.specs.Fields.{with_fields}
use Rattle.slot.specs.declared.ReadEntry.{ReadEntry}
use Rattle.slot.specs.declared.WriteEntry.{WriteEntry}
use Rattle.slot.specs.declared.SlotRecord.{SlotRecord}
use Rattle.slot.proofs.Entry.{length-read_bytes, length-write_bytes}

-- the bytes of a slot that was put, with its fields or with an entry of its read log put anew
module _ (w : ℕ) (a : List ℕ) (at : ℕ) (v : SlotRecord) (h : at ≤ length a) where
  abbrev reads : List ℕ
  reads = read_log_bytes v.reads

  abbrev writes : List ℕ
  writes = write_log_bytes v.writes

  length_fields : (u : SlotRecord) → length (field_bytes w u) ≡ reads_at w
  length_fields u = simp (length-append, length-to_be) (omega arith)

  pub put-fields : (u : SlotRecord) → splice (splice a at (slot_bytes w v)) at (field_bytes w u) ≡ splice a at (slot_bytes w (with_fields v u))
  unfolding slot_bytes
  put-fields u =
      ap (λ (l : List ℕ). splice (splice a at l) at (field_bytes w u)) (append_assoc (field_bytes w v) reads writes)
      ∙ splice_front a at (field_bytes w v) (reads ++ writes) (field_bytes w u) h (length_fields u ∙ sym (length_fields v))
      ∙ ap (splice a at) (sym (append_assoc (field_bytes w u) reads writes))

  length-reads : (log : List ReadEntry) → length (read_log_bytes log) ≡ 96
  length-reads log = length-cat read_size read_capacity (λ i. read_bytes (get_or log i no_read)) (λ i b. length-read_bytes (get_or log i no_read))

  length-writes : (log : List WriteEntry) → length (write_log_bytes log) ≡ 80
  length-writes log = length-cat write_size write_capacity (λ i. write_bytes (get_or log i no_write)) (λ i b. length-write_bytes (get_or log i no_write))

  pub put-entry : (k : ℕ) (e : ReadEntry) → k < read_capacity → length v.reads ≡ read_capacity
      → splice (splice a at (slot_bytes w v)) (at + (reads_at w + read_size * k)) (read_bytes e)
      ≡ splice a at (slot_bytes w (with_reads v v.readcount (set v.reads k e)))
  unfolding slot_bytes
  put-entry k e below sized =
      ap (λ (n : ℕ). splice (splice a at (field_bytes w v ++ reads ++ writes)) (at + (n + read_size * k)) (read_bytes e)) (sym (length_fields v))
      ∙ splice-within a at (field_bytes w v) reads writes (read_bytes e) (read_size * k) h (rw (length-read_bytes, length-reads) (omega arith))
      ∙ ap (λ (l : List ℕ). splice a at (field_bytes w v ++ l ++ writes)) (splice-record no_read read_size read_bytes length-read_bytes read_capacity v.reads k e sized below)

  pub put_reads : (log : List ReadEntry)
      → splice (splice a at (slot_bytes w v)) (at + reads_at w) (read_log_bytes log) ≡ splice a at (slot_bytes w (with_reads v v.readcount log))
  unfolding slot_bytes
  put_reads log =
      let place : at + reads_at w ≡ at + (length (field_bytes w v) + 0) = rw (length_fields v) (omega arith) in
      ap (λ (n : ℕ). splice (splice a at (field_bytes w v ++ reads ++ writes)) n (read_log_bytes log)) place
      ∙ splice-within a at (field_bytes w v) reads writes (read_log_bytes log) 0 h (omega (arith, length-reads log, length-reads v.reads))
      ∙ ap (λ (l : List ℕ). splice a at (field_bytes w v ++ l ++ writes)) (splice-whole reads (read_log_bytes log) (length-reads log ∙ sym (length-reads v.reads)))

  pub put-writes : (log : List WriteEntry)
      → splice (splice a at (slot_bytes w v)) (at + writes_at w) (write_log_bytes log) ≡ splice a at (slot_bytes w (with_writes v v.writecount log))
  unfolding slot_bytes
  put-writes log =
      let place : at + writes_at w ≡ at + (length (field_bytes w v ++ reads) + 0) = rw (length-append, length_fields v, length-reads v.reads) (omega arith) in
      (λ j. splice (splice a at (sym (append-nil (field_bytes w v ++ reads ++ writes)) j)) (place j) (write_log_bytes log))
      ∙ splice-within a at (field_bytes w v ++ reads) writes [] (write_log_bytes log) 0 h (omega (arith, length-writes log, length-writes v.writes))
      ∙ ap (λ (l : List ℕ). splice a at (field_bytes w v ++ reads ++ l ++ [])) (splice-whole writes (write_log_bytes log) (length-writes log ∙ sym (length-writes v.writes)))
      ∙ ap (splice a at) (append-nil (field_bytes w v ++ reads ++ write_log_bytes log))
