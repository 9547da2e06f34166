-- A log in an array: padded with zero entries, and cut off again.
use mathlib.Core.List.{List, [], ◌∷◌, ◌++◌}
use mathlib.Core.Path.{◌≡◌, sym, ap, ◌∙◌}
use Prim.Native.Nat.{ℕ, suc, ◌+◌, ◌-◌, ◌<◌, ◌≤◌}
use native.Mathlib.Omega.{arith}
use lib.ListN.{length, get_or, take, drop, set, replicate, length-append, length-drop, length-replicate, get_or-replicate, take-append-drop}
use lib.Seq.{length-take-le, ext_get_or, get_or-drop, get_or-append-add, drop-append-add, set-append_seam, append_snoc}

module _ {A : Type 0} (d : A) where
  -- a padded log has all of its entries
  pub length-padded : (l : List A) (n : ℕ) → length l ≤ n → length (l ++ replicate (n - length l) d) ≡ n
  length-padded l n h = simp (length-append, length-replicate) (omega arith)

  -- past a log's count a padded log has zeros
  pub padded-zero : (l : List A) (n i : ℕ) → length l ≤ i → i < n → get_or (l ++ replicate (n - length l) d) i d ≡ d
  padded-zero l n i h below = go (i - length l) (omega arith) (omega arith)
    where
      go : (k : ℕ) → i ≡ length l + k → k < n - length l → get_or (l ++ replicate (n - length l) d) i d ≡ d
      go k e b = rw e (get_or-append-add l (replicate (n - length l) d) k d ∙ get_or-replicate (n - length l) k d d b)

  -- a log whose entries past k are zero is its first k entries, padded
  pub pad-back : (l : List A) (n k : ℕ) → length l ≡ n → k ≤ n → ((i : ℕ) → k ≤ i → i < n → get_or l i d ≡ d)
      → take k l ++ replicate (n - length (take k l)) d ≡ l
  pad-back l n k e h zero =
      let cut : length (take k l) ≡ k = length-take-le k l (omega arith) in
      let zeros : replicate (n - k) d ≡ drop k l =
      ext_get_or d (replicate (n - k) d) (drop k l) (simp (length-replicate, length-drop) (rw e))
      (λ i b.
      let below : i < n - k = rw length-replicate at b in
      get_or-replicate (n - k) i d d below ∙ sym (get_or-drop k l i d ∙ zero (k + i) (omega arith) (omega arith))) in
      rw (cut, zeros) (take-append-drop k l)

  -- the entry after the log's last one takes the place of the first unused entry
  pub padded-next : (l : List A) (n : ℕ) (e : A) → length l < n
      → set (l ++ replicate (n - length l) d) (length l) e ≡ (l ++ (e ∷ [])) ++ replicate (n - length (l ++ (e ∷ []))) d
  padded-next l n e h =
      let one_less : n - length l ≡ suc (n - length (l ++ (e ∷ []))) = rw length-append (omega arith) in
      rw one_less
      (set-append_seam l d (replicate (n - length (l ++ (e ∷ []))) d) e ∙ sym (append_snoc l e (replicate (n - length (l ++ (e ∷ []))) d)))

  -- what is left of the unused entries, with one more in use
  pub padded-drop : (l : List A) (n : ℕ) → length l < n → drop (length l + 1) (l ++ replicate (n - length l) d) ≡ replicate (n - suc (length l)) d
  padded-drop l n h =
      let one_less : n - length l ≡ suc (n - suc (length l)) = omega arith in
      drop-append-add l (replicate (n - length l) d) 1 ∙ ap (λ (k : ℕ). drop 1 (replicate k d)) one_less
