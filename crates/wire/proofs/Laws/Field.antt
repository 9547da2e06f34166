-- Fields of any width: both round trips go by induction over the width, since the definitions take the lowest byte off in the same way.
use mathlib.Core.Path.{◌≡◌, refl, sym, ap, ◌∙◌}
use mathlib.Core.List.{List, [], ◌∷◌, ◌++◌, append_assoc}
use Prim.Native.Nat.{ℕ, zero, suc, ◌+◌, ◌*◌, ◌/◌, ◌%◌, ◌^◌, ◌≤◌, ◌<◌}
use native.Mathlib.Nat.{pow-zero, pow-suc, div-add-mod'}
use native.Mathlib.Numerals.{add-one}
use native.Mathlib.Omega.{arith}
use lib.Arith.{digits_lt, digits_div, digits_mod}
use lib.Dec.{lit<}
use lib.ListN.{length, get_or, take, drop, replicate, length-append, replicate-append-replicate, get_or-append}
use lib.Seq.{take-suc, get_or_at, get_or-drop}
use Rattle.wire.specs.Field.{Bytes, be, to_be}

-- no byte at all
pub bytes-nil : Bytes []
bytes-nil i = lit< tt

-- a byte before bytes
pub bytes-cons : (x : ℕ) (l : List ℕ) → x < 256 → Bytes l → Bytes (x ∷ l)
bytes-cons x l h b zero = h
bytes-cons x l h b (suc i) = b i

-- bytes after bytes
pub bytes-append : (k l : List ℕ) → Bytes k → Bytes l → Bytes (k ++ l)
bytes-append [] l a b = b
bytes-append (x ∷ k) l a b = bytes-cons x (k ++ l) (a 0) (bytes-append k l (λ i. a (suc i)) b)

-- bytes from an offset on
pub bytes_drop : (n : ℕ) (l : List ℕ) → Bytes l → Bytes (drop n l)
bytes_drop n l b i = rw get_or-drop (b (n + i))

-- bytes up to an offset
pub bytes_take : (n : ℕ) (l : List ℕ) → Bytes l → Bytes (take n l)
bytes_take zero l b = bytes-nil
bytes_take (suc n) [] b = bytes-nil
bytes_take (suc n) (x ∷ l) b = bytes-cons x (take n l) (b 0) (bytes_take n l (λ i. b (suc i)))

-- a field has as many bytes as it is wide
pub length-to_be : (w n : ℕ) → length (to_be w n) ≡ w
unfolding to_be
length-to_be zero n = refl
length-to_be (suc w) n = rw (length-append, length-to_be w (n / 256)) (omega arith)

-- a field is made of bytes
pub to_be-bytes : (w n : ℕ) → Bytes (to_be w n)
unfolding to_be
to_be-bytes zero n = bytes-nil
to_be-bytes (suc w) n = bytes-append (to_be w (n / 256)) (n % 256 ∷ []) (to_be-bytes w (n / 256)) (bytes-cons (n % 256) [] (omega arith) bytes-nil)

-- a field of w bytes is below 256 to the power w
pub be-bound : (w : ℕ) (l : List ℕ) → Bytes l → be w l < 256 ^ w
unfolding be
be-bound zero l b = rw pow-zero (lit< tt)
be-bound (suc w) l b = rw pow-suc (digits_lt (be-bound w l b) (b w))

-- round trip, number to bytes to number, a theorem that the issue names: a number that fits the width is read back, whatever follows its bytes
pub be-to_be : (w n : ℕ) (rest : List ℕ) → n < 256 ^ w → be w (to_be w n ++ rest) ≡ n
unfolding be to_be
be-to_be zero n rest h = let one : n < 1 = rw pow-zero at h in omega arith
be-to_be (suc w) n rest h =
    let fits : n < 256 ^ w * 256 = rw pow-suc at h in
    let high : be w (to_be w (n / 256) ++ (n % 256 ∷ rest)) ≡ n / 256 = be-to_be w (n / 256) (n % 256 ∷ rest) (omega arith) in
    let low : get_or (to_be w (n / 256) ++ (n % 256 ∷ rest)) w 0 ≡ n % 256 = get_or_at (to_be w (n / 256)) (n % 256) rest 0 w (length-to_be w (n / 256)) in
    rw (append_assoc, high, low) (div-add-mod' n 256)

-- round trip, bytes to number to bytes, a theorem that the issue names: the bytes of the number that a field stands for are the field
pub to_be-be : (w : ℕ) (l : List ℕ) → Bytes l → w ≤ length l → to_be w (be w l) ≡ take w l
unfolding be to_be
to_be-be zero l b h = refl
to_be-be (suc w) l b h =
    let within : w < length l = omega arith in
    let front : to_be w (be w l) ≡ take w l = to_be-be w l b (omega arith) in
    rw (digits_div (be w l) (b w), digits_mod (be w l) (b w), front) (sym (take-suc l w 0 within))

-- a field is its own bytes' alone: two lists whose first w bytes agree have the same
pub be-ext : (w : ℕ) (k l : List ℕ) → ((i : ℕ) → i < w → get_or k i 0 ≡ get_or l i 0) → be w k ≡ be w l
unfolding be
be-ext zero k l e = refl
be-ext (suc w) k l e = rw (be-ext w k l (λ i h. e i (omega arith)), e w (omega arith))

-- what follows the bytes of a field does not matter
pub be-front : (w : ℕ) (l rest : List ℕ) → w ≤ length l → be w (l ++ rest) ≡ be w l
be-front w l rest h = be-ext w (l ++ rest) l (λ i below. get_or-append l rest 0 i (omega arith))

-- a field whose bytes are all 0 is 0, and 0 is a field of such bytes
pub be-zero : (w : ℕ) (l : List ℕ) → ((i : ℕ) → i < w → get_or l i 0 ≡ 0) → be w l ≡ 0
unfolding be
be-zero zero l z = refl
be-zero (suc w) l z = rw (be-zero w l (λ i h. z i (omega arith)), z w (omega arith))

pub to_be-zero : (w : ℕ) → to_be w 0 ≡ replicate w 0
unfolding to_be
to_be-zero zero = refl
to_be-zero (suc w) = rw (to_be-zero w) (replicate-append-replicate w 1 0 ∙ ap (λ (n : ℕ). replicate n 0) (add-one w))
