-- The bytes of an idle slot are zero throughout.
use mathlib.Core.List.{◌++◌}
use mathlib.Core.Path.{◌≡◌, refl, ◌∙◌, ap}
use Prim.Native.Nat.{ℕ, ◌+◌, ◌*◌}
use native.Mathlib.Omega.{arith}
use lib.ListN.{get_or, replicate, replicate-append-replicate}
use Rattle.wire.specs.Field.{to_be}
use Rattle.wire.specs.Table.{cat}
use Rattle.wire.proofs.Laws.Field.{to_be-zero}
use Rattle.slot.specs.Layout.{read_capacity, write_capacity, no_read, no_write, read_bytes, read_size, write_bytes, write_size, start_at, slot_size, empty, slot_bytes}

-- zeros, one part after the other
joined : (z a b c d e : ℕ) → replicate a z ++ replicate b z ++ replicate c z ++ replicate d z ++ replicate e z ≡ replicate (a + b + c + d + e) z
joined z a b c d e = simp replicate-append-replicate

no_reads : cat read_capacity (λ i. read_bytes (get_or empty.reads i no_read)) ≡ replicate (read_size * read_capacity) 0
unfolding cat read_bytes to_be
no_reads = refl

no_writes : cat write_capacity (λ i. write_bytes (get_or empty.writes i no_write)) ≡ replicate (write_size * write_capacity) 0
unfolding cat write_bytes to_be
no_writes = refl

-- an idle slot is all zero
pub empty-bytes : (w : ℕ) → slot_bytes w empty ≡ replicate (slot_size w) 0
unfolding slot_bytes
empty-bytes w =
    let size : start_at + w + w + read_size * read_capacity + write_size * write_capacity ≡ slot_size w = omega arith in
    rw (to_be-zero w, no_reads, no_writes)
    (joined 0 start_at w w (read_size * read_capacity) (write_size * write_capacity) ∙ ap (λ (n : ℕ). replicate n 0) size)
