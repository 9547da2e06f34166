-- What is gathered from the elements of a list, and from more of them.
use mathlib.Core.List.{List, [], ◌∷◌, ◌++◌, append_assoc, flat_map}
use mathlib.Core.Path.{◌≡◌, refl, sym}

pub both-flat : {A B : Type 0} (f : A → List B) (l m : List A) → flat_map f (l ++ m) ≡ flat_map f l ++ flat_map f m
unfolding flat_map
both-flat f [] m = refl
both-flat f (x ∷ l) m = rw (both-flat f l m) (sym (append_assoc (f x) (flat_map f l) (flat_map f m)))
