-- The steps of a sheet, one after the other: a turn of a loop over them is the definition's own step.
use mathlib.Core.List.{List, ◌++◌}
use mathlib.Core.Path.{◌≡◌, refl, sym, ap, ◌∙◌}
use Prim.Native.Nat.{ℕ, ◌+◌, ◌-◌, ◌*◌, ◌<◌, ◌≤◌}
use native.Mathlib.Numerals.{add-one}
use native.Mathlib.Omega.{arith}
use lib.ListN.{length, take, drop, length-append, length-drop}
use lib.Seq.{take_at, drop_at, drop-drop}
use Rattle.rules.specs.Model.{controller}
use Rattle.rules.specs.Area.{step_on_bytes}
use Rattle.stage.specs.Calls.{call_of, call_at, step_count, area_after}

-- after the first k steps `rest` is left of the steps `l`
pub record Left (l : List ℕ) (size : ℕ) (rest : List ℕ) (k : ℕ) : Type 0 where
  pub eight : size ≡ 8
  pub here : rest ≡ drop (8 * k) l
  pub inside : 8 * k ≤ length l

pub all_left : (l : List ℕ) {size k : ℕ} {rest : List ℕ} → size ≡ 8 → rest ≡ l → k ≡ 0 → Left l size rest k
all_left l e p q = record { eight = e; here = rw (p, q) refl; inside = rw q (omega arith) }

module _ {l rest : List ℕ} {size k : ℕ} (left : Left l size rest k) where
  -- nothing is left
  pub none-left : length rest < size → k ≡ step_count l
  none-left h = let n : length rest ≡ length l - 8 * k = ap length left.here ∙ length-drop (8 * k) l in omega (arith, left.inside, left.eight)

  -- one step more
  module _ (x more : List ℕ) (cut : rest ≡ x ++ more) (long : length x ≡ size) where
    pub step-left : call_of x ≡ call_at l k
    step-left = ap call_of (sym (ap (take 8) (sym left.here ∙ cut) ∙ take_at x more 8 (long ∙ left.eight)))

    pub next-left : {n j : ℕ} → n ≡ size → j ≡ k + 1 → Left l n more j
    next-left e q =
        let size : length rest ≡ length l - 8 * k = ap length left.here ∙ length-drop (8 * k) l in
        let sum : length rest ≡ length x + length more = ap length cut ∙ length-append x more in
        let past : more ≡ drop (8 * k + 8) l = sym (drop_at x more 8 (long ∙ left.eight)) ∙ ap (drop 8) (sym cut ∙ left.here) ∙ drop-drop 8 (8 * k) l in
        let place : 8 * k + 8 ≡ 8 * (k + 1) = omega arith in
        record { eight = e ∙ left.eight; here = rw q (past ∙ ap (λ (n : ℕ). drop n l) place); inside = rw q (omega (arith, left.eight, left.inside)) }

pub next-area : (a l : List ℕ) (k : ℕ) {x y : List ℕ} → x ≡ area_after a l k → y ≡ (step_on_bytes controller x (call_at l k)).bytes → y ≡ area_after a l (k + 1)
unfolding area_after
next-area a l k here made = rw (add-one k) (made ∙ ap (λ (z : List ℕ). (step_on_bytes controller z (call_at l k)).bytes) here)
