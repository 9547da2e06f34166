-- Lists that follow a count: f 0, f 1, .., f (n − 1).
use Rattle.std.specs.Prelude.{List, [], ◌∷◌, ◌++◌, ℕ, zero, suc}

module _ {A : Type 0} where
  -- the parts f 0 to f (n − 1), one after the other
  unfoldable pub cat : ℕ → (ℕ → List A) → List A
  cat zero f = []
  cat (suc n) f = cat n f ++ f n

  -- the elements f 0 to f (n − 1)
  unfoldable pub tab : ℕ → (ℕ → A) → List A
  unfolding cat
  tab n f = cat n (λ i. f i ∷ [])
