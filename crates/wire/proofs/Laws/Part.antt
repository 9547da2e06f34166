-- A part put in place: the list before it, the part, and the list after it keep their places, since as many bytes come as go.
use mathlib.Core.Path.{◌≡◌, sym, ap, ◌∙◌}
use mathlib.Core.List.{List, [], ◌∷◌, ◌++◌, append_assoc, append-nil}
use mathlib.Core.Logic.{◌≢◌}
use Prim.Native.Nat.{ℕ, zero, suc, ◌+◌, ◌*◌, ◌-◌, ◌≤◌, ◌<◌}
use native.Mathlib.Nat.{zero-add, add-zero, add_assoc, mul-suc, mul-le-mul_left}
use native.Mathlib.Numerals.{add-one}
use native.Mathlib.Omega.{arith}
use borrow.Author.Count.{below_more}
use borrow.Rule.Slice.PartMut.{put_mid}
use lib.ListN.{length, get_or, take, drop, set, length-append, length-drop, take-append-drop, get_or-append, drop_of_length-le}
use lib.Seq.{length-take-le, take-append-le, drop-append-le, take-append-add, drop-append-add, take-take, take_at, drop_at, drop-drop, get_or-take, get_or-drop, set_split, get_or-set_same, get_or-set_other}
use Rattle.wire.specs.Field.{Bytes}
use Rattle.wire.specs.Part.{splice}
use Rattle.wire.specs.Table.{cat}
use Rattle.wire.proofs.Laws.Table.{cat-ext, length-cat}
use Rattle.wire.proofs.Laws.Field.{bytes-append, bytes_drop, bytes_take}

-- nothing put in place changes nothing
pub splice-nil : (a : List ℕ) (at : ℕ) → splice a at [] ≡ a
unfolding splice
splice-nil a at = rw (append-nil, add-zero) (take-append-drop at a)

-- a part of one byte is a store
pub splice-set : (a : List ℕ) (i v : ℕ) → i < length a → set a i v ≡ splice a i (v ∷ [])
unfolding splice
splice-set a i v h = set_split a i v h ∙ rw (add-one i, append_assoc)

-- a part as long as the list takes its place
pub splice-whole : (a p : List ℕ) → length p ≡ length a → splice a 0 p ≡ p
unfolding splice
splice-whole a p e = rw (zero-add, drop_of_length-le a {i = length p} (omega arith)) (append-nil p)

-- a part written over the slice of its place
pub splice-over : (a : List ℕ) (at size : ℕ) (p now : List ℕ) → now ≡ p → length p ≡ size → put_mid at (at + size - at) a now ≡ splice a at p
unfolding splice
splice-over a at size p now e sized =
    let same : at + size - at ≡ length p = omega arith in
    rw (e, same, drop-drop, append_assoc)

-- the bytes before a part and the part
head : (a : List ℕ) (at : ℕ) (p : List ℕ) → at ≤ length a → length (take at a ++ p) ≡ at + length p
head a at p h = rw (length-append, length-take-le at a h)

module _ (a : List ℕ) (at : ℕ) (p : List ℕ) where
  -- the length stays
  pub length-splice : at + length p ≤ length a → length (splice a at p) ≡ length a
  unfolding splice
  length-splice h = rw (length-append, head a at p (omega arith), length-drop) (omega arith)

  -- the bytes before the part stay
  pub take-splice : (n : ℕ) → at ≤ length a → n ≤ at → take n (splice a at p) ≡ take n a
  unfolding splice
  take-splice n h below =
      let front : at ≤ length a = h in
      let far : n ≤ length (take at a) = rw (length-take-le at a h) below in
      rw (append_assoc, take-append-le n (take at a)) (take-take n at a below)

  -- the bytes before the part, and the part
  pub take-splice-part : at ≤ length a → take (at + length p) (splice a at p) ≡ take at a ++ p
  unfolding splice
  take-splice-part h = take_at (take at a ++ p) (drop (at + length p) a) (at + length p) (head a at p h)

  -- from the part's place on there is the part, and then what stood past it
  pub drop-splice-part : at ≤ length a → drop at (splice a at p) ≡ p ++ drop (at + length p) a
  unfolding splice
  drop-splice-part h = rw append_assoc (drop_at (take at a) (p ++ drop (at + length p) a) at (length-take-le at a h))

  -- the bytes past the part stay
  pub drop-splice : (n : ℕ) → at ≤ length a → at + length p ≤ n → drop n (splice a at p) ≡ drop n a
  unfolding splice
  drop-splice n h past =
      let there : at + length p + (n - (at + length p)) ≡ n = omega arith in
      ap (λ (k : ℕ). drop k (splice a at p)) (sym there)
      ∙ sym (drop-drop (n - (at + length p)) (at + length p) (splice a at p))
      ∙ ap (drop (n - (at + length p))) (drop_at (take at a ++ p) (drop (at + length p) a) (at + length p) (head a at p h))
      ∙ drop-drop (n - (at + length p)) (at + length p) a
      ∙ ap (λ (k : ℕ). drop k a) there

  -- a byte before the part stays
  pub get_or-splice-before : (i : ℕ) → at ≤ length a → i < at → get_or (splice a at p) i 0 ≡ get_or a i 0
  get_or-splice-before i h below =
      sym (get_or-take at (splice a at p) i 0 below) ∙ ap (λ (l : List ℕ). get_or l i 0) (take-splice at h (omega arith)) ∙ get_or-take at a i 0 below

  -- a byte of the part
  pub get_or-splice-part : (i : ℕ) → at ≤ length a → i < length p → get_or (splice a at p) (at + i) 0 ≡ get_or p i 0
  get_or-splice-part i h below =
      sym (get_or-drop at (splice a at p) i 0) ∙ ap (λ (l : List ℕ). get_or l i 0) (drop-splice-part h) ∙ get_or-append p (drop (at + length p) a) 0 i below

  -- a byte past the part stays
  pub get_or-splice-after : (i : ℕ) → at ≤ length a → at + length p ≤ i → get_or (splice a at p) i 0 ≡ get_or a i 0
  get_or-splice-after i h past =
      let plain : (l : List ℕ) → get_or (drop i l) 0 0 ≡ get_or l i 0 = λ l. get_or-drop i l 0 0 ∙ ap (λ (k : ℕ). get_or l k 0) (add-zero i) in
      sym (plain (splice a at p)) ∙ ap (λ (l : List ℕ). get_or l 0 0) (drop-splice i h past) ∙ plain a

  -- bytes put in bytes are bytes
  pub bytes-splice : Bytes a → Bytes p → Bytes (splice a at p)
  unfolding splice
  bytes-splice b c =
      bytes-append (take at a ++ p) (drop (at + length p) a) (bytes-append (take at a) p (bytes_take at a b) c) (bytes_drop (at + length p) a b)

  -- two parts put one right after the other are one part
  pub splice-join : (q x y : List ℕ) → at ≤ length a → x ≡ splice a at p → y ≡ splice x (at + length p) q → y ≡ splice a at (p ++ q)
  unfolding splice
  splice-join q x y h first second =
      let front : take (at + length p) x ≡ take at a ++ p = ap (take (at + length p)) first ∙ take-splice-part h in
      let back : drop (at + length p + length q) x ≡ drop (at + length p + length q) a =
      ap (drop (at + length p + length q)) first ∙ drop-splice (at + length p + length q) h (omega arith) in
      second ∙ rw (front, back, length-append, ← add_assoc, append_assoc (take at a) p q)

  -- the same with the second part's place given by an equation
  pub splice-next : (q x y : List ℕ) (k : ℕ) → at ≤ length a → k ≡ at + length p → x ≡ splice a at p → y ≡ splice x k q → y ≡ splice a at (p ++ q)
  splice-next q x y k h place first second = splice-join q x y h first (rw place at second)

  -- a store right after a part makes the part one byte longer
  pub splice-store : (x : List ℕ) (k v : ℕ) → k < length a → k ≡ at + length p → x ≡ splice a at p → set x k v ≡ splice a at (p ++ (v ∷ []))
  splice-store x k v h place first =
      splice-next (v ∷ []) x (set x k v) k (omega arith) place first
      (splice-set x k v (rw (first, length-splice (omega arith)) h))

-- two parts put one right before the other are one part
pub splice-under : (a : List ℕ) (at : ℕ) (p q : List ℕ) → at + length p ≤ length a
    → splice (splice a (at + length p) q) at p ≡ splice a at (p ++ q)
unfolding splice
splice-under a at p q h =
    let front : take at (splice a (at + length p) q) ≡ take at a = take-splice a (at + length p) q at h (omega arith) in
    let back : drop (at + length p) (splice a (at + length p) q) ≡ q ++ drop (at + length p + length q) a = drop-splice-part a (at + length p) q h in
    rw (front, back, length-append, ← add_assoc, ← append_assoc (take at a ++ p) q, append_assoc (take at a) p q)

-- a loop that puts parts of one size one after the other has one part more after each turn
pub splice-part : (size : ℕ) (f : ℕ → List ℕ) → ((i : ℕ) → length (f i) ≡ size) → (a : List ℕ) (at i : ℕ) (x y : List ℕ) → at ≤ length a
    → x ≡ splice a at (cat i f) → y ≡ splice x (at + size * i) (f i) → y ≡ splice a at (cat (i + 1) f)
unfolding cat
splice-part size f sized a at i x y h first second =
    let place : at + size * i ≡ at + length (cat i f) = rw (length-cat size i f (λ j below. sized j)) in
    rw (add-one i) (splice-next a at (cat i f) (f i) x y (at + size * i) h place first second)

-- a part put past a front leaves the front
pub splice-right : (x a : List ℕ) (at : ℕ) (p : List ℕ) → splice (x ++ a) (length x + at) p ≡ x ++ splice a at p
unfolding splice
splice-right x a at p =
    let front : take (length x + at) (x ++ a) ≡ x ++ take at a = take-append-add x a at in
    let back : drop (length x + (at + length p)) (x ++ a) ≡ drop (at + length p) a = drop-append-add x a (at + length p) in
    rw (front, add_assoc, back) (simp append_assoc)

-- a part put before an end leaves the end
pub splice-left : (a y : List ℕ) (at : ℕ) (p : List ℕ) → at + length p ≤ length a → splice (a ++ y) at p ≡ splice a at p ++ y
unfolding splice
splice-left a y at p h =
    let front : take at (a ++ y) ≡ take at a = take-append-le at a y (omega arith) in
    let back : drop (at + length p) (a ++ y) ≡ drop (at + length p) a ++ y = drop-append-le (at + length p) a y h in
    rw (front, back) (simp append_assoc)

-- part i of parts of one size put anew changes that part alone
pub splice-cat : (size n : ℕ) (f g : ℕ → List ℕ) → ((j : ℕ) → j < n → length (f j) ≡ size)
    → (i : ℕ) → i < n → length (g i) ≡ size → ((j : ℕ) → j < n → j ≢ i → g j ≡ f j) → splice (cat n f) (size * i) (g i) ≡ cat n g
unfolding cat
splice-cat size zero f g sized i h new other = absurd (omega arith)
splice-cat size (suc n) f g sized i h new other =
    let all : length (cat n f) ≡ size * n = length-cat size n f (λ j b. sized j (omega arith)) in
    below_more
    (λ k. length (g k) ≡ size → ((j : ℕ) → j < suc n → j ≢ k → g j ≡ f j) → splice (cat n f ++ f n) (size * k) (g k) ≡ cat n g ++ g n)
    n
    (λ k b same_size same.
    let room : size * k + size ≤ size * n = rw mul-suc at (mul-le-mul_left size b) in
    let fits : size * k + length (g k) ≤ length (cat n f) = rw (same_size, all) room in
    let front = splice-cat size n f g (λ j c. sized j (omega arith)) k b same_size (λ j c. same j (omega arith)) in
    splice-left (cat n f) (f n) (size * k) (g k) fits ∙ rw (front, same n (omega arith) (λ e. omega arith)))
    (λ same_size same.
    let place : size * n ≡ length (cat n f) + 0 = rw all (omega arith) in
    let end : splice (f n) 0 (g n) ≡ g n = splice-whole (f n) (g n) (same_size ∙ sym (sized n (omega arith))) in
    let front : cat n f ≡ cat n g = cat-ext n f g (λ j b. sym (same j (omega arith) (λ e. omega arith))) in
    ap (λ (k : ℕ). splice (cat n f ++ f n) k (g n)) place ∙ splice-right (cat n f) (f n) 0 (g n) ∙ rw (end, front))
    i (omega arith) new other

-- record i of a table put anew is the table of the changed list
pub splice-record : {A : Type 0} (d : A) (size : ℕ) (encode : A → List ℕ) → ((x : A) → length (encode x) ≡ size)
    → (n : ℕ) (xs : List A) (i : ℕ) (v : A) → length xs ≡ n → i < n
    → splice (cat n (λ j. encode (get_or xs j d))) (size * i) (encode v) ≡ cat n (λ j. encode (get_or (set xs i v) j d))
splice-record d size encode sized n xs i v e h =
    let new : get_or (set xs i v) i d ≡ v = get_or-set_same xs i v d (omega arith) in
    ap (λ x. splice (cat n (λ j. encode (get_or xs j d))) (size * i) (encode x)) (sym new)
    ∙ splice-cat size n (λ j. encode (get_or xs j d)) (λ j. encode (get_or (set xs i v) j d)) (λ j b. sized (get_or xs j d)) i h (sized (get_or (set xs i v) i d))
    (λ j b apart. ap encode (get_or-set_other xs i j v d apart))

-- a part of three parts
in_three : (a : List ℕ) (at : ℕ) (p m r : List ℕ) → splice a at (p ++ m ++ r) ≡ take at a ++ (p ++ (m ++ (r ++ drop (at + length (p ++ m ++ r)) a)))
unfolding splice
in_three a at p m r = simp append_assoc

-- a part put anew inside a part that was put: what stands before and behind it stays
pub splice-within : (a : List ℕ) (at : ℕ) (p m r q : List ℕ) (j : ℕ) → at ≤ length a → j + length q ≤ length m
    → splice (splice a at (p ++ m ++ r)) (at + (length p + j)) q ≡ splice a at (p ++ splice m j q ++ r)
splice-within a at p m r q j h fits =
    let front = take at a in
    let rest = drop (at + length (p ++ m ++ r)) a in
    let place : at + (length p + j) ≡ length front + (length p + j) = rw (length-take-le at a h) in
    let size : length (p ++ m ++ r) ≡ length (p ++ splice m j q ++ r) = simp (length-append, length-splice m j q fits) in
    ap (λ (x : List ℕ). splice x (at + (length p + j)) q) (in_three a at p m r)
    ∙ ap (λ (k : ℕ). splice (front ++ (p ++ (m ++ (r ++ rest)))) k q) place
    ∙ splice-right front (p ++ (m ++ (r ++ rest))) (length p + j) q
    ∙ ap (λ (x : List ℕ). front ++ x) (splice-right p (m ++ (r ++ rest)) j q)
    ∙ ap (λ (x : List ℕ). front ++ (p ++ x)) (splice-left m (r ++ rest) j q fits)
    ∙ ap (λ (n : ℕ). front ++ (p ++ (splice m j q ++ (r ++ drop (at + n) a)))) size
    ∙ sym (in_three a at p (splice m j q) r)

-- the front of a part put anew
pub splice_front : (a : List ℕ) (at : ℕ) (m r q : List ℕ) → at ≤ length a → length q ≡ length m
    → splice (splice a at (m ++ r)) at q ≡ splice a at (q ++ r)
splice_front a at m r q h same =
    let place : at ≡ at + (0 + 0) = omega arith in
    ap (λ (k : ℕ). splice (splice a at (m ++ r)) k q) place
    ∙ splice-within a at [] m r q 0 h (omega arith)
    ∙ ap (λ (x : List ℕ). splice a at (x ++ r)) (splice-whole m q same)
