-- Any two replies that a contract allows are equal, since each contract gives the reply by a definition of the arguments.
use mathlib.Core.Path.{◌≡◌}
use Prim.Native.Nat.{ℕ}
use Rattle.value.proofs.Unique.{given-once}
use Rattle.call.specs.Answer.{Reply, reply_code, reply_kind, reply_word, reply_number}
use Rattle.call.specs.Decode.{Decoded, decoded}

pub decode-unique : (step cell kind word : ℕ) (r₁ r₂ : Decoded) → r₁ ≡ decoded step cell kind word → r₂ ≡ decoded step cell kind word → r₁ ≡ r₂
decode-unique step cell kind word r₁ r₂ = given-once

pub code-unique : (reply : Reply) (r₁ r₂ : ℕ) → r₁ ≡ reply_code reply → r₂ ≡ reply_code reply → r₁ ≡ r₂
code-unique reply r₁ r₂ = given-once

pub kind-unique : (reply : Reply) (r₁ r₂ : ℕ) → r₁ ≡ reply_kind reply → r₂ ≡ reply_kind reply → r₁ ≡ r₂
kind-unique reply r₁ r₂ = given-once

pub word-unique : (reply : Reply) (r₁ r₂ : ℕ) → r₁ ≡ reply_word reply → r₂ ≡ reply_word reply → r₁ ≡ r₂
word-unique reply r₁ r₂ = given-once

pub number-unique : (reply : Reply) (r₁ r₂ : ℕ) → r₁ ≡ reply_number reply → r₂ ≡ reply_number reply → r₁ ≡ r₂
number-unique reply r₁ r₂ = given-once
