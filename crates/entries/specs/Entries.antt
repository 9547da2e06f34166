-- What stands at `at` of the list l, and what is left of l when it is put there: one entry, a write log, or the fields of one byte.
use Rattle.std.specs.Prelude.{Bool, List, [], ◌∷◌, ℕ, ◌+◌, ◌*◌, drop}
use Rattle.wire.specs.Part.{splice}
use Rattle.wire.specs.Table.{tab}
use Rattle.slot.specs.Layout.{write_capacity, write_size, bit, read_of, read_bytes, write_of, write_bytes}
use Rattle.slot.specs.declared.ReadEntry.{ReadEntry}
use Rattle.slot.specs.declared.WriteEntry.{WriteEntry}

module _ (at : ℕ) (l : List ℕ) where
  abbrev pub read_here : ReadEntry
  read_here = read_of (drop at l)

  abbrev pub write_here : WriteEntry
  write_here = write_of (drop at l)

  abbrev pub write_log_here : List WriteEntry
  write_log_here = tab write_capacity (λ i. write_of (drop (at + write_size * i) l))

  abbrev pub read_put : ReadEntry → List ℕ
  read_put e = splice l at (read_bytes e)

  abbrev pub write_put : WriteEntry → List ℕ
  write_put e = splice l at (write_bytes e)

  abbrev pub first_put : ℕ → Bool → ℕ → ℕ → ℕ → List ℕ
  first_put phase ignoring taken readcount writecount = splice l at (phase ∷ bit ignoring ∷ taken ∷ readcount ∷ writecount ∷ [])
