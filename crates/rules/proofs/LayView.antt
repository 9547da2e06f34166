-- A slot and its record: what `lay` pads, `view` cuts off again, and the other way round where what is past a count is zero.
use mathlib.Core.Bool.{Bool, false}
use mathlib.Core.Path.{◌≡◌, refl, sym, ◌∙◌, ap, ap₂}
use Prim.Native.Nat.{ℕ, ◌-◌, ◌<◌, ◌≤◌}
use native.Mathlib.Omega.{arith}
use lib.ListN.{length, get_or, replicate}
use lib.Seq.{take_at, length-take-le}
use Rattle.slot.specs.declared.SlotRecord.{SlotRecord}
use Rattle.slot.specs.Layout.{read_capacity, write_capacity, no_read, no_write}
use Rattle.slot.proofs.Padding.{pad-back}
use Rattle.slot.specs.Logs.{padded_reads, padded_writes, read_log, write_log, busy_record}
use Rattle.rules.specs.State.{Slot, idle, opened, locking, twilight, publishing, reads_of, writes_of}
use Rattle.rules.specs.Layout.{lay, view}

-- the logs of a slot's record are the slot's
pub read-log : (x : Slot) → read_log (lay x) ≡ reads_of x
read-log idle = refl
read-log (opened start reads writes) = take_at reads (replicate (read_capacity - length reads) no_read) (length reads) refl
read-log (locking taken start reads writes) = take_at reads (replicate (read_capacity - length reads) no_read) (length reads) refl
read-log (twilight ignoring start commit reads writes) = take_at reads (replicate (read_capacity - length reads) no_read) (length reads) refl
read-log (publishing ignoring taken start commit reads writes) = take_at reads (replicate (read_capacity - length reads) no_read) (length reads) refl

pub write-log : (x : Slot) → write_log (lay x) ≡ writes_of x
write-log idle = refl
write-log (opened start reads writes) = take_at writes (replicate (write_capacity - length writes) no_write) (length writes) refl
write-log (locking taken start reads writes) = take_at writes (replicate (write_capacity - length writes) no_write) (length writes) refl
write-log (twilight ignoring start commit reads writes) = take_at writes (replicate (write_capacity - length writes) no_write) (length writes) refl
write-log (publishing ignoring taken start commit reads writes) = take_at writes (replicate (write_capacity - length writes) no_write) (length writes) refl

-- a slot comes back from its record
pub view-lay : (x : Slot) → view (lay x) ≡ x
unfolding view
view-lay idle = refl
view-lay (opened start reads writes) = ap₂ (opened start) (read-log (opened start reads writes)) (write-log (opened start reads writes))
view-lay (locking taken start reads writes) =
    ap₂ (locking taken start) (read-log (opened start reads writes)) (write-log (opened start reads writes))
view-lay (twilight ignoring start commit reads writes) =
    ap₂ (twilight ignoring start commit) (read-log (opened start reads writes)) (write-log (opened start reads writes))
view-lay (publishing ignoring taken start commit reads writes) =
    ap₂ (publishing ignoring taken start commit) (read-log (opened start reads writes)) (write-log (opened start reads writes))

-- a record whose logs are padded comes back from its parts
module _ (v : SlotRecord)
    (reads_length : length v.reads ≡ read_capacity) (writes_length : length v.writes ≡ write_capacity)
    (reads_fit : v.readcount ≤ read_capacity) (writes_fit : v.writecount ≤ write_capacity)
    (reads_zero : (i : ℕ) → v.readcount ≤ i → i < read_capacity → get_or v.reads i no_read ≡ no_read)
    (writes_zero : (i : ℕ) → v.writecount ≤ i → i < write_capacity → get_or v.writes i no_write ≡ no_write) where
  lay-parts : (phase : ℕ) (ignoring : Bool) (taken commit : ℕ)
      → phase ≡ v.phase → ignoring ≡ v.ignoring → taken ≡ v.taken → commit ≡ v.commit
      → busy_record phase ignoring taken v.start commit (read_log v) (write_log v) ≡ v
  lay-parts phase ignoring taken commit p f t c =
      let readcount : length (read_log v) ≡ v.readcount = length-take-le v.readcount v.reads (omega arith) in
      let writecount : length (write_log v) ≡ v.writecount = length-take-le v.writecount v.writes (omega arith) in
      let reads : padded_reads (read_log v) ≡ v.reads = pad-back no_read v.reads read_capacity v.readcount reads_length reads_fit reads_zero in
      let writes : padded_writes (write_log v) ≡ v.writes = pad-back no_write v.writes write_capacity v.writecount writes_length writes_fit writes_zero in
      λ i.
      record {
        phase = p i;
        ignoring = f i;
        taken = t i;
        readcount = readcount i;
        writecount = writecount i;
        start = v.start;
        commit = c i;
        reads = reads i;
        writes = writes i;
      }

  -- .. and so does a record that keeps in each phase just what that phase keeps
  pub lay-view-1 : v.phase ≡ 1 → v.ignoring ≡ false → v.taken ≡ 0 → v.commit ≡ 0 → lay (view v) ≡ v
  unfolding view
  lay-view-1 p f t c =
      let seen : view v ≡ opened v.start (read_log v) (write_log v) = rw p in
      ap lay seen ∙ lay-parts 1 false 0 0 (sym p) (sym f) (sym t) (sym c)

  pub lay-view-2 : v.phase ≡ 2 → v.ignoring ≡ false → v.commit ≡ 0 → lay (view v) ≡ v
  unfolding view
  lay-view-2 p f c =
      let seen : view v ≡ locking v.taken v.start (read_log v) (write_log v) = rw p in
      ap lay seen ∙ lay-parts 2 false v.taken 0 (sym p) (sym f) refl (sym c)

  pub lay-view-3 : v.phase ≡ 3 → v.taken ≡ 0 → lay (view v) ≡ v
  unfolding view
  lay-view-3 p t =
      let seen : view v ≡ twilight v.ignoring v.start v.commit (read_log v) (write_log v) = rw p in
      ap lay seen ∙ lay-parts 3 v.ignoring 0 v.commit (sym p) refl (sym t) refl

  pub lay-view-4 : v.phase ≡ 4 → lay (view v) ≡ v
  unfolding view
  lay-view-4 p =
      let seen : view v ≡ publishing v.ignoring v.taken v.start v.commit (read_log v) (write_log v) = rw p in
      ap lay seen ∙ lay-parts 4 v.ignoring v.taken v.commit (sym p) refl refl refl
