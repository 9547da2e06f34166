-- A loop that changes a list's elements one after the other: after k turns the first k are changed, and the others are as they were.
use mathlib.Core.List.{List, [], ◌∷◌, ◌++◌, map, map-append, append_assoc, append-nil}
use mathlib.Core.Path.{◌≡◌, sym, ap, ◌∙◌}
use Prim.Native.Nat.{ℕ, suc, ◌+◌, ◌≤◌, ◌<◌}
use native.Mathlib.Numerals.{add-one}
use native.Mathlib.Omega.{arith}
use lib.ListN.{length, get_or, take, drop, set, length-append, length-drop, length-map, drop_of_length-le}
use lib.Seq.{length-take-le, take-suc, take_all, drop-cons, set_at, get_or_at}

module _ {A : Type 0} (f : A → A) (d : A) (l : List A) where
  abbrev pub sweep : ℕ → List A
  sweep k = map f (take k l) ++ drop k l

  front_length : (k : ℕ) → k ≤ length l → length (map f (take k l)) ≡ k
  front_length k h = length-map (take k l) f ∙ length-take-le k l h

  pub sweep-length : (k : ℕ) → k ≤ length l → length (sweep k) ≡ length l
  sweep-length k h = simp (length-append, front_length k h, length-drop) (omega arith)

  -- at turn k element k is still as it was,
  pub sweep-at : (x : List A) (k : ℕ) → k < length l → x ≡ sweep k → get_or x k d ≡ get_or l k d
  sweep-at x k h e =
      rw (e, drop-cons l k d h) (get_or_at (map f (take k l)) (get_or l k d) (drop (suc k) l) d k (front_length k (omega arith)))

  -- and the turn changes it
  pub sweep-turn : (x : List A) (y : A) (k : ℕ) → k < length l → x ≡ sweep k → y ≡ f (get_or x k d) → set x k y ≡ sweep (k + 1)
  sweep-turn x y k h e new =
      let here : y ≡ f (get_or l k d) = new ∙ ap f (sweep-at x k h e) in
      rw (e, here, drop-cons l k d h, set_at (map f (take k l)) (get_or l k d) (drop (suc k) l) (f (get_or l k d)) k (front_length k (omega arith)))
      (sym (append_assoc (map f (take k l)) (f (get_or l k d) ∷ []) (drop (suc k) l))
      ∙ rw (add-one k, take-suc l k d h) (ap (λ (front : List A). front ++ drop (suc k) l) (sym (map-append f (take k l) (get_or l k d ∷ [])))))

  -- after the last turn all are changed
  pub sweep-end : (k : ℕ) → length l ≤ k → sweep k ≡ map f l
  sweep-end k h = rw (drop_of_length-le l h, take_all k l h) (append-nil (map f l))
