-- Tables: every law goes by induction over the count, at whose end the definitions put the next part; the round trips of a table of
-- records follow from those of one record, once for any record.
use mathlib.Core.Path.{◌≡◌, refl, sym, ap, ◌∙◌}
use mathlib.Core.List.{List, [], ◌∷◌, ◌++◌, append_assoc, append-nil}
use Prim.Native.Nat.{ℕ, zero, suc, ◌+◌, ◌*◌, ◌≤◌, ◌<◌}
use native.Mathlib.Nat.{mul-zero, mul-suc}
use native.Mathlib.Numerals.{add-one}
use native.Mathlib.Omega.{arith}
use borrow.Author.Count.{below_more}
use lib.ListN.{set, drop_of_length-le, length, get_or, take, drop, length-append, take-append-drop, get_or-append}
use lib.Seq.{drop-cons, set_at, length-take-le, get_or-take, take_at, drop_at, drop-drop, take-add, get_or_at, ext_get_or}
use Rattle.wire.specs.Field.{Bytes}
use Rattle.wire.specs.Table.{cat, tab}
use Rattle.wire.proofs.Laws.Field.{bytes-nil, bytes-append}

module _ {A : Type 0} where
  -- the same parts make the same list
  pub cat-ext : (n : ℕ) (f g : ℕ → List A) → ((i : ℕ) → i < n → f i ≡ g i) → cat n f ≡ cat n g
  unfolding cat
  cat-ext zero f g e = refl
  cat-ext (suc n) f g e = rw (cat-ext n f g (λ i h. e i (omega arith)), e n (omega arith))

  -- n parts of one size have n times that size
  pub length-cat : (size n : ℕ) (f : ℕ → List A) → ((i : ℕ) → i < n → length (f i) ≡ size) → length (cat n f) ≡ size * n
  unfolding cat
  length-cat size zero f s = sym (mul-zero size)
  length-cat size (suc n) f s =
      rw (length-append, length-cat size n f (λ i h. s i (omega arith)), s n (omega arith)) (sym (mul-suc size n))

  -- part i starts at size times i, whatever follows the parts
  pub take-cat : (size n : ℕ) (f : ℕ → List A) (rest : List A) → ((i : ℕ) → i < n → length (f i) ≡ size)
      → (i : ℕ) → i < n → take size (drop (size * i) (cat n f ++ rest)) ≡ f i
  unfolding cat
  take-cat size zero f rest s i h = absurd (omega arith)
  take-cat size (suc n) f rest s i h =
      rw append_assoc
      (below_more (λ k. take size (drop (size * k) (cat n f ++ (f n ++ rest))) ≡ f k) n
      (take-cat size n f (f n ++ rest) (λ k b. s k (omega arith)))
      (ap (take size) (drop_at (cat n f) (f n ++ rest) (size * n) (length-cat size n f (λ k b. s k (omega arith))))
      ∙ take_at (f n) rest size (s n (omega arith)))
      i (omega arith))

  -- from size times i on there is part i, and then what stands past it
  pub drop-cat : (size n : ℕ) (f : ℕ → List A) (rest : List A) → ((i : ℕ) → i < n → length (f i) ≡ size)
      → (i : ℕ) → i < n → drop (size * i) (cat n f ++ rest) ≡ f i ++ drop (size * i + size) (cat n f ++ rest)
  drop-cat size n f rest s i h =
      sym (take-append-drop size (drop (size * i) (cat n f ++ rest)))
      ∙ rw (take-cat size n f rest s i h, drop-drop)

  -- a list that is cut into parts is its parts, one after the other
  pub cat-of : (size n : ℕ) (l : List A) → cat n (λ i. take size (drop (size * i) l)) ≡ take (size * n) l
  unfolding cat
  cat-of size zero l = rw mul-zero
  cat-of size (suc n) l = rw (mul-suc, take-add, cat-of size n l)

  -- the same elements make the same table
  pub tab-ext : (n : ℕ) (f g : ℕ → A) → ((i : ℕ) → i < n → f i ≡ g i) → tab n f ≡ tab n g
  unfolding tab
  tab-ext n f g e = cat-ext n (λ i. f i ∷ []) (λ i. g i ∷ []) (λ i h. ap (λ (x : A). x ∷ []) (e i h))

  -- a table of n elements has n
  pub length-tab : (n : ℕ) (f : ℕ → A) → length (tab n f) ≡ n
  unfolding tab
  length-tab n f = length-cat 1 n (λ i. f i ∷ []) (λ i h. refl) ∙ omega arith

  -- element i of a table is f i
  pub get_or-tab : (n : ℕ) (f : ℕ → A) (d : A) (i : ℕ) → i < n → get_or (tab n f) i d ≡ f i
  unfolding cat tab
  get_or-tab zero f d i h = absurd (omega arith)
  get_or-tab (suc n) f d i h =
      below_more (λ k. get_or (tab n f ++ (f n ∷ [])) k d ≡ f k) n
      (λ k b. get_or-append (tab n f) (f n ∷ []) d k (rw length-tab b) ∙ get_or-tab n f d k b)
      (get_or_at (tab n f) (f n) [] d n (length-tab n f))
      i (omega arith)

  -- a list is the table of its elements
  pub tab-of : (n : ℕ) (l : List A) (d : A) → length l ≡ n → tab n (λ i. get_or l i d) ≡ l
  tab-of n l d e =
      ext_get_or d (tab n (λ i. get_or l i d)) l (length-tab n (λ i. get_or l i d) ∙ sym e)
      (λ i h. get_or-tab n (λ j. get_or l j d) d i (rw length-tab at h))

  -- the front of a list is the table of its elements
  pub tab-take : (n : ℕ) (l : List A) (d : A) → n ≤ length l → tab n (λ i. get_or l i d) ≡ take n l
  tab-take n l d h =
      tab-ext n (λ i. get_or l i d) (λ i. get_or (take n l) i d) (λ i b. sym (get_or-take n l i d b)) ∙ tab-of n (take n l) d (length-take-le n l h)

  -- a loop that fills a list from the front starts with the list as it was,
  pub fill_start : (f : ℕ → A) (l : List A) → l ≡ tab 0 f ++ drop 0 l
  unfolding cat tab
  fill_start f l = refl

  -- has one element more of the table after each turn,
  pub fill_step : (f : ℕ → A) (l x : List A) (i : ℕ) → i < length l → x ≡ tab i f ++ drop i l → set x i (f i) ≡ tab (i + 1) f ++ drop (i + 1) l
  unfolding cat tab
  fill_step f l x i h e =
      rw (e, add-one i, drop-cons l i (f i) h, set_at (tab i f) (get_or l i (f i)) (drop (suc i) l) (f i) i (length-tab i f), append_assoc)

  -- and ends with the table
  pub fill_end : (f : ℕ → A) (l x : List A) (n : ℕ) → length l ≤ n → x ≡ tab n f ++ drop n l → x ≡ tab n f
  fill_end f l x n h e = e ∙ rw (drop_of_length-le l h) (append-nil (tab n f))

-- parts that are bytes make bytes
pub bytes-cat : (n : ℕ) (f : ℕ → List ℕ) → ((i : ℕ) → i < n → Bytes (f i)) → Bytes (cat n f)
unfolding cat
bytes-cat zero f b = bytes-nil
bytes-cat (suc n) f b = bytes-append (cat n f) (f n) (bytes-cat n f (λ i h. b i (omega arith))) (b n (omega arith))

module _ {A : Type 0} (d : A) (size : ℕ) (decode : List ℕ → A) (encode : A → List ℕ) where
  -- round trip, records to bytes to records: n records of one size are read back from their bytes if each one is
  pub tab-back : (n : ℕ) (xs : List A) (rest : List ℕ) → length xs ≡ n → ((x : A) → length (encode x) ≡ size)
      → ((i : ℕ) → i < n → (more : List ℕ) → decode (encode (get_or xs i d) ++ more) ≡ get_or xs i d)
      → tab n (λ i. decode (drop (size * i) (cat n (λ j. encode (get_or xs j d)) ++ rest))) ≡ xs
  tab-back n xs rest e sized back =
      tab-ext n (λ i. decode (drop (size * i) (cat n (λ j. encode (get_or xs j d)) ++ rest))) (λ i. get_or xs i d)
      (λ i h.
      ap decode (drop-cat size n (λ j. encode (get_or xs j d)) rest (λ j below. sized (get_or xs j d)) i h)
      ∙ back i h (drop (size * i + size) (cat n (λ j. encode (get_or xs j d)) ++ rest)))
      ∙ tab-of n xs d e

  -- the same where the records start at an offset of a list
  pub tab-back-at : (n at : ℕ) (l : List ℕ) (xs : List A) (rest : List ℕ) → drop at l ≡ cat n (λ j. encode (get_or xs j d)) ++ rest
      → length xs ≡ n → ((x : A) → length (encode x) ≡ size)
      → ((i : ℕ) → i < n → (more : List ℕ) → decode (encode (get_or xs i d) ++ more) ≡ get_or xs i d)
      → tab n (λ i. decode (drop (at + size * i) l)) ≡ xs
  tab-back-at n at l xs rest there e sized back =
      tab-ext n (λ i. decode (drop (at + size * i) l)) (λ i. decode (drop (size * i) (cat n (λ j. encode (get_or xs j d)) ++ rest)))
      (λ i h. ap decode (sym (drop-drop (size * i) at l) ∙ ap (drop (size * i)) there))
      ∙ tab-back n xs rest e sized back

  -- round trip, bytes to records to bytes: the bytes of n records of one size are written back if each record's are
  pub cat-back : (n : ℕ) (l : List ℕ)
      → ((i : ℕ) → i < n → encode (decode (drop (size * i) l)) ≡ take size (drop (size * i) l))
      → cat n (λ i. encode (get_or (tab n (λ j. decode (drop (size * j) l))) i d)) ≡ take (size * n) l
  cat-back n l back =
      cat-ext n (λ i. encode (get_or (tab n (λ j. decode (drop (size * j) l))) i d)) (λ i. take size (drop (size * i) l))
      (λ i h. ap encode (get_or-tab n (λ j. decode (drop (size * j) l)) d i h) ∙ back i h)
      ∙ cat-of size n l

  -- the same where the records start at an offset of a list
  pub cat-back-at : (n at : ℕ) (l : List ℕ)
      → ((i : ℕ) → i < n → encode (decode (drop (at + size * i) l)) ≡ take size (drop (at + size * i) l))
      → cat n (λ i. encode (get_or (tab n (λ j. decode (drop (at + size * j) l))) i d)) ≡ take (size * n) (drop at l)
  cat-back-at n at l back =
      ap (λ (t : List A). cat n (λ i. encode (get_or t i d)))
      (tab-ext n (λ j. decode (drop (at + size * j) l)) (λ j. decode (drop (size * j) (drop at l)))
      (λ i h. ap decode (sym (drop-drop (size * i) at l))))
      ∙ cat-back n (drop at l) (λ i h. rw drop-drop (back i h))
