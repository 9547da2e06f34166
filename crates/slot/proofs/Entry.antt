-- One entry and its bytes: the bytes at the head are the entry's own, and the word is a field of 4 bytes.
use mathlib.Core.Path.{◌≡◌, refl, sym, ap, ◌∙◌}
use mathlib.Core.Bool.{Bool, true, false}
use mathlib.Core.List.{List, [], ◌∷◌, ◌++◌}
use Prim.Native.Nat.{ℕ, zero, suc, ◌^◌, ◌≤◌, ◌<◌}
use native.Mathlib.Nat.{add-zero}
use native.Mathlib.Omega.{arith}
use lib.Dec.{eqb, lit<}
use lib.ListN.{length, get_or, take, drop}
use lib.Seq.{get_or-drop}
use Rattle.std.specs.Int.{from_bool}
use Rattle.wire.specs.Field.{Bytes, to_be}
use Rattle.wire.proofs.Laws.Field.{length-to_be, to_be-bytes, be-to_be, to_be-be, bytes-cons}
use Rattle.slot.specs.Layout.{bit, read_of, read_bytes, read_size, write_of, write_bytes, write_size}
use Rattle.slot.specs.declared.ReadEntry.{ReadEntry}
use Rattle.slot.specs.declared.WriteEntry.{WriteEntry}

-- a flag is read back from its byte
pub flag-back : (b : Bool) → eqb (bit b) 1 ≡ b
flag-back true = refl
flag-back false = refl

-- a byte that is 0 or 1 is written back from the flag that it stands for
pub bit-back : (x : ℕ) → x ≤ 1 → bit (eqb x 1) ≡ x
bit-back zero h = refl
bit-back (suc zero) h = refl
bit-back (suc (suc x)) h = absurd (omega arith)

-- it is what std makes of the flag
pub bit-from : (b : Bool) → from_bool b ≡ bit b
bit-from true = refl
bit-from false = refl

-- a flag's byte is a byte
pub bit_byte : (b : Bool) → bit b < 256
bit_byte true = lit< tt
bit_byte false = lit< tt

pub length-read_bytes : (e : ReadEntry) → length (read_bytes e) ≡ read_size
unfolding read_bytes
length-read_bytes e = rw (length-to_be 4 e.word)

pub length-write_bytes : (e : WriteEntry) → length (write_bytes e) ≡ write_size
unfolding write_bytes
length-write_bytes e = rw (length-to_be 4 e.word)

-- a read entry is read back from its bytes, whatever follows them
pub read_back : (e : ReadEntry) (rest : List ℕ) → e.word < 2 ^ 32 → read_of (read_bytes e ++ rest) ≡ e
unfolding read_of read_bytes
read_back e rest h = λ i. record { cell = e.cell; mark = flag-back e.mark i; word = be-to_be 4 e.word rest h i }

-- a write entry is read back from its bytes, whatever follows them
pub write-back : (e : WriteEntry) (rest : List ℕ) → e.word < 2 ^ 32 → write_of (write_bytes e ++ rest) ≡ e
unfolding write_of write_bytes
write-back e rest h = λ i. record { cell = e.cell; word = be-to_be 4 e.word rest h i }

-- the bytes of a read entry are written back
pub read-bytes-back : (l : List ℕ) → Bytes l → read_size ≤ length l → get_or l 1 0 ≤ 1 → read_bytes (read_of l) ≡ take read_size l
unfolding read_of read_bytes
read-bytes-back [] b h m = absurd (omega arith)
read-bytes-back (x ∷ []) b h m = absurd (omega arith)
read-bytes-back (x ∷ y ∷ l) b h m = rw (bit-back y m, to_be-be 4 l (λ i. b (suc (suc i))) (omega arith))

-- the bytes of a write entry are written back
pub write-bytes-back : (l : List ℕ) → Bytes l → write_size ≤ length l → write_bytes (write_of l) ≡ take write_size l
unfolding write_of write_bytes
write-bytes-back [] b h = absurd (omega arith)
write-bytes-back (x ∷ l) b h = rw (to_be-be 4 l (λ i. b (suc i)) (omega arith))

-- a read entry's bytes are bytes
pub read_bytes-bytes : (e : ReadEntry) → e.cell < 256 → Bytes (read_bytes e)
unfolding read_bytes
read_bytes-bytes e h =
    bytes-cons e.cell (bit e.mark ∷ to_be 4 e.word) h (bytes-cons (bit e.mark) (to_be 4 e.word) (bit_byte e.mark) (to_be-bytes 4 e.word))

-- a write entry's bytes are bytes
pub write_bytes-bytes : (e : WriteEntry) → e.cell < 256 → Bytes (write_bytes e)
unfolding write_bytes
write_bytes-bytes e h = bytes-cons e.cell (to_be 4 e.word) h (to_be-bytes 4 e.word)

-- the byte at an offset is the first from there on
pub first_byte : (l : List ℕ) (at : ℕ) → get_or l at 0 ≡ get_or (drop at l) 0 0
first_byte l at = ap (λ (k : ℕ). get_or l k 0) (sym (add-zero at)) ∙ sym (get_or-drop at l 0 0)
