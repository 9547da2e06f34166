-- Any two replies that a contract allows are equal, since each contract gives the reply by a definition of the arguments.
use mathlib.Core.Bool.{Bool}
use mathlib.Core.Path.{◌≡◌, sym, ◌∙◌}
use Prim.Native.Nat.{ℕ}
use Rattle.value.specs.declared.CellValue.{CellValue}
use Rattle.std.specs.Prelude.{Option}
use Rattle.value.specs.Legal.{legal_word}
use Rattle.value.specs.Value.{kind_of, word_of, value_of, parsed}

-- what is given by one definition is one value
pub given-once : {A : Type 0} {x r₁ r₂ : A} → r₁ ≡ x → r₂ ≡ x → r₁ ≡ r₂
given-once p q = p ∙ sym q

pub legal-unique : (kind word : ℕ) (r₁ r₂ : Bool) → r₁ ≡ legal_word kind word → r₂ ≡ legal_word kind word → r₁ ≡ r₂
legal-unique kind word r₁ r₂ = given-once

pub from-word-unique : (kind word : ℕ) (r₁ r₂ : Option CellValue) → r₁ ≡ parsed kind word → r₂ ≡ parsed kind word → r₁ ≡ r₂
from-word-unique kind word r₁ r₂ = given-once

pub value-of-unique : (kind word : ℕ) (r₁ r₂ : CellValue) → r₁ ≡ value_of kind word → r₂ ≡ value_of kind word → r₁ ≡ r₂
value-of-unique kind word r₁ r₂ = given-once

pub kind-unique : (v : CellValue) (r₁ r₂ : ℕ) → r₁ ≡ kind_of v → r₂ ≡ kind_of v → r₁ ≡ r₂
kind-unique v r₁ r₂ = given-once

pub word-unique : (v : CellValue) (r₁ r₂ : ℕ) → r₁ ≡ word_of v → r₂ ≡ word_of v → r₁ ≡ r₂
word-unique v r₁ r₂ = given-once
