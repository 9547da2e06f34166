-- The numbers as the lines have them: those of the `at` lines are 1, 2, 3 and so on, and every other line has the number of its slot's last `at`.
use Rattle.std.specs.Prelude.{cond, List, [], ◌∷◌, ◌≡◌, ℕ, suc, eqb}
use Rattle.history.specs.History.{Event}
use Rattle.effects.specs.Effects.{Effect, begun, read_shared, reloaded, committed, aborted, effects}

-- each slot's last number, after an `at`
abbrev pub given : (ℕ → ℕ) → (slot number : ℕ) → ℕ → ℕ
given last slot number other = cond (eqb slot other) number (last other)

-- lines behind `count` lines of `at`, where `last` has each slot's last number
abbrev pub Numbered : ℕ → (ℕ → ℕ) → List Effect → Type 0
Numbered count last [] = Unit
Numbered count last (begun slot number ∷ effects) = (number ≡ suc count) × Numbered (suc count) (given last slot number) effects
Numbered count last (read_shared slot number cell ∷ effects) = (number ≡ last slot) × Numbered count last effects
Numbered count last (reloaded slot number ∷ effects) = (number ≡ last slot) × Numbered count last effects
Numbered count last (committed slot number stamp cells ∷ effects) = (number ≡ last slot) × Numbered count last effects
Numbered count last (aborted slot number ∷ effects) = (number ≡ last slot) × Numbered count last effects

-- of any history
abbrev pub NumbersRight : Type 0
NumbersRight = (events : List Event) → Numbered 0 (λ slot. 0) (effects events)
