-- The words of a kind where none has to be read: every word is one of kind 2, and none is one of a kind that is not 1, 2 or 3.
use mathlib.Core.Bool.{true, false}
use mathlib.Core.Path.{◌≡◌, refl, sym}
use Prim.Native.Nat.{ℕ, ◌<◌, ◌^◌}
use borrow.Author.Tests.{ne_eqb, lt-ltb}
use Rattle.value.specs.Legal.{legal_word}
use Rattle.logcheck.proofs.Chains.{pick_no}

pub legal-whole : (kind word : ℕ) → kind ≡ 2 → word < 2 ^ 32 → true ≡ legal_word kind word
unfolding legal_word
legal-whole kind word e h = rw e (sym (lt-ltb word (2 ^ 32) h))

pub legal-none : (kind word : ℕ) → (kind ≡ 2 → ⊥) → (kind ≡ 1 → ⊥) → (kind ≡ 3 → ⊥) → false ≡ legal_word kind word
unfolding legal_word
legal-none kind word two one three =
    pick_no _ _ _ _ (ne_eqb _ _ one) (pick_no _ _ _ _ (ne_eqb _ _ two) (pick_no _ _ _ _ (ne_eqb _ _ three) refl))
