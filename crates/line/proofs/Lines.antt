-- A line's fields, gathered one after the other in a text of 128 bytes, are the line.
use mathlib.Core.List.{List, [], ◌∷◌, ◌++◌, append_assoc}
use mathlib.Core.Path.{◌≡◌, ◌∙◌}
use Prim.Native.Nat.{ℕ}
use native.Mathlib.Omega.{arith}
use lib.ListN.{length, take}
use Rattle.line.specs.declared.Style.TheVariants.{Decimal, Hex}
use Rattle.line.specs.Number.{numeral}
use Rattle.line.specs.Line.{reply_line, cell_line, clock_line, cell_text, clock_text}
use Rattle.line.specs.Gather.{gathered, added, Leaves}
use Rattle.line.proofs.Gather.{held_none, held_next, held_number, held-taken}

module _ (z : List ℕ) (long : length z ≡ 128) where
  pub reply-gathered : (place code kind word : ℕ) {a b c d : ℕ} {s₁ s₂ s₃ s₄ : List ℕ}
      → Leaves (added (gathered 0 z) (numeral Decimal place ++ (32 ∷ []))) a s₁
      → Leaves (added (gathered a s₁) (numeral Decimal code ++ (32 ∷ []))) b s₂
      → Leaves (added (gathered b s₂) (numeral Decimal kind ++ (32 ∷ []))) c s₃
      → Leaves (added (gathered c s₃) (numeral Hex word ++ (10 ∷ []))) d s₄
      → take d s₄ ≡ reply_line place code kind word
  unfolding reply_line
  reply-gathered place code kind word p q r s =
      let one = held_number Decimal place 32 (held_none z) (omega arith) p in
      let two = held_number Decimal code 32 one (omega arith) q in
      let three = held_number Decimal kind 32 two (omega arith) r in
      held-taken (held_number Hex word 10 three (omega arith) s) (omega arith) ∙ simp append_assoc

  pub cell-gathered : (number kind word stamp holder : ℕ) {a b c d e f : ℕ} {s₁ s₂ s₃ s₄ s₅ s₆ : List ℕ}
      → Leaves (added (gathered 0 z) (cell_text ++ (32 ∷ []))) a s₁
      → Leaves (added (gathered a s₁) (numeral Decimal number ++ (32 ∷ []))) b s₂
      → Leaves (added (gathered b s₂) (numeral Decimal kind ++ (32 ∷ []))) c s₃
      → Leaves (added (gathered c s₃) (numeral Hex word ++ (32 ∷ []))) d s₄
      → Leaves (added (gathered d s₄) (numeral Decimal stamp ++ (32 ∷ []))) e s₅
      → Leaves (added (gathered e s₅) (numeral Decimal holder ++ (10 ∷ []))) f s₆
      → take f s₆ ≡ cell_line number kind word stamp holder
  unfolding cell_line
  cell-gathered number kind word stamp holder p q r s t u =
      let one = held_next (cell_text ++ (32 ∷ [])) (held_none z) (omega arith) (omega arith) p in
      let two = held_number Decimal number 32 one (omega arith) q in
      let three = held_number Decimal kind 32 two (omega arith) r in
      let four = held_number Hex word 32 three (omega arith) s in
      let five = held_number Decimal stamp 32 four (omega arith) t in
      held-taken (held_number Decimal holder 10 five (omega arith) u) (omega arith) ∙ simp append_assoc

  pub clock-gathered : (clock : ℕ) {a b : ℕ} {s₁ s₂ : List ℕ}
      → Leaves (added (gathered 0 z) (clock_text ++ (32 ∷ []))) a s₁
      → Leaves (added (gathered a s₁) (numeral Decimal clock ++ (10 ∷ []))) b s₂
      → take b s₂ ≡ clock_line clock
  unfolding clock_line
  clock-gathered clock p q =
      let one = held_next (clock_text ++ (32 ∷ [])) (held_none z) (omega arith) (omega arith) p in
      held-taken (held_number Decimal clock 10 one (omega arith) q) (omega arith) ∙ simp append_assoc
