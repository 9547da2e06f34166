-- How long the lines of a run are at most.
use mathlib.Core.List.{List}
use mathlib.Core.Path.{◌≡◌, refl}
use Prim.Native.Nat.{ℕ, zero, suc, ◌+◌, ◌*◌, ◌%◌, ◌^◌, ◌<◌, ◌≤◌}
use native.Mathlib.Nat.{mul-suc}
use native.Mathlib.Omega.{arith}
use lib.ListN.{length, get_or, drop, length-append}
use Rattle.wire.specs.Field.{Bytes, be}
use Rattle.wire.specs.Table.{cat}
use Rattle.wire.proofs.Laws.Field.{be-bound, bytes_drop}
use Rattle.call.specs.Answer.{reply_code, reply_kind, reply_word, reply_number}
use Rattle.call.proofs.Replies.{code-bound, kind-bound}
use Rattle.line.specs.declared.Style.TheVariants.{Decimal, Hex}
use Rattle.line.specs.Line.{reply_line, cell_line, clock_line}
use Rattle.line.proofs.Number.{few, most}
use Rattle.rules.specs.Model.{controller, cell_offset}
use Rattle.rules.specs.Layout.{count_in, cell_of, clock_in}
use Rattle.rules.specs.Area.{step_on_bytes}
use Rattle.crocktendril.specs.Contract.{Stepped}
use Rattle.crocktendril.proofs.Demands.{demand1}
use Rattle.stage.specs.Calls.{call_at, step_count, area_after, end_area}
use Rattle.sheet.specs.Output.{step_line, line_in_area, printed}

-- n lines of at most `size` bytes
cat-short : (size n : ℕ) (f : ℕ → List ℕ) → ((i : ℕ) → i < n → length (f i) ≤ size) → length (cat n f) ≤ size * n
unfolding cat
cat-short size zero f h = omega arith
cat-short size (suc n) f h =
    rw (length-append, mul-suc) (omega (arith, cat-short size n f (λ i b. h i (omega arith)), h n (omega arith)))

reply-short : (place code kind word : ℕ) → place < 10 ^ 4 → code < 10 ^ 2 → kind < 10 ^ 1 → word < 16 ^ 8 → length (reply_line place code kind word) ≤ 19
unfolding reply_line
reply-short place code kind word p c k w =
    simp length-append
    (omega (arith, few Decimal 4 place p (omega arith), few Decimal 2 code c (omega arith), few Decimal 1 kind k (omega arith), few Hex 8 word w (omega arith)))

cell-short : (number kind word stamp holder : ℕ) → number < 10 ^ 2 → kind < 10 ^ 3 → word < 16 ^ 8 → holder < 10 ^ 3
    → length (cell_line number kind word stamp holder) ≤ 46
unfolding cell_line
cell-short number kind word stamp holder n k w h =
    simp length-append
    (omega (arith, few Decimal 2 number n (omega arith), few Decimal 3 kind k (omega arith), few Hex 8 word w (omega arith), most Decimal stamp, few Decimal 3 holder h (omega arith)))

clock-short : (clock : ℕ) → length (clock_line clock) ≤ 27
unfolding clock_line
clock-short clock = simp length-append (omega (arith, most Decimal clock))

module _ (a l : List ℕ) where
  -- a step's line
  step-short : (k : ℕ) → k < 4096 → length (step_line a l k) ≤ 19
  unfolding step_line
  step-short k h =
      let x = area_after a l k in
      let answered = step_on_bytes controller x (call_at l k) in
      let made : Stepped x (call_at l k) (reply_number answered.reply) answered.bytes = record { answer = refl; bytes = refl } in
      let word : reply_number answered.reply % 2 ^ 32 ≡ reply_word answered.reply = demand1.word x (call_at l k) (reply_number answered.reply) answered.bytes made in
      reply-short (k + 1) (reply_code answered.reply) (reply_kind answered.reply) (reply_word answered.reply)
      (omega arith) (omega (arith, code-bound answered.reply)) (omega (arith, kind-bound answered.reply)) (omega (arith, word))

-- a cell's line, in an area of bytes
area-short : (a : List ℕ) → Bytes a → (c : ℕ) → c < 64 → length (line_in_area a c) ≤ 46
unfolding line_in_area cell_of
area-short a bytes c h =
    let b = drop (cell_offset controller c) a in
    let here = bytes_drop (cell_offset controller c) a bytes in
    cell-short c (get_or b 0 0) (be 4 (drop 2 b)) (be 8 (drop 6 b)) (get_or b 1 0)
    (omega arith) (omega (arith, here 0)) (omega (arith, be-bound 4 (drop 2 b) (bytes_drop 2 b here))) (omega (arith, here 1))

-- the whole output of a run
pub printed-short : (a l : List ℕ) → step_count l ≤ 4096 → Bytes (end_area a l) → count_in (end_area a l) ≤ 64 → length (printed a l) ≤ 80795
unfolding printed
printed-short a l steps bytes cells =
    let e = end_area a l in
    simp length-append
    (omega (
      arith,
      cat-short 19 (step_count l) (step_line a l) (λ k h. step-short a l k (omega arith)),
      cat-short 46 (count_in e) (line_in_area e) (λ c h. area-short e bytes c (omega arith)),
      clock-short (clock_in controller e),
    ))
