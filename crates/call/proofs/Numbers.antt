-- A step's number comes back: each number up to 14 decodes to its own step by computation, and no other number to any.
use mathlib.Core.Path.{◌≡◌, ap}
use Prim.Native.Nat.{ℕ, zero, suc}
use native.Mathlib.Omega.{arith}
use Rattle.std.specs.Prelude.{Option, Some, None, Ok}
use Rattle.value.specs.declared.CellValue.{CellValue}
use Rattle.value.specs.Value.{parsed}
use Rattle.call.specs.declared.Step.{Step}
use Rattle.call.specs.declared.Step.TheVariants.{Begin, Read, Write, Close, Lock, Enter, Reread, Update, Ask, Reload, Ignore, Finish, Publish, GiveUp}
use Rattle.call.specs.Decode.{Decoded, step_number, a_write, an_update, decoded}
use Rattle.call.proofs.Unknown.{unknown-outside}

-- the step that was made
number-made : (d : Step) (s : Step) → ◌≡◌ {A = Decoded} (Ok d) (Ok s) → step_number d ≡ step_number s
number-made d s e = let same : d ≡ s = cc in ap step_number same

number-write : (cell : ℕ) (p : Option CellValue) (s : Step) → a_write cell p ≡ Ok s → 3 ≡ step_number s
number-write cell (Some v) s e = number-made (Write cell v) s e
number-write cell None s e = let z : ◌≡◌ {A = ℕ} 0 1 = cc in absurd (omega arith)

number-update : (cell : ℕ) (p : Option CellValue) (s : Step) → an_update cell p ≡ Ok s → 8 ≡ step_number s
number-update cell (Some v) s e = number-made (Update cell v) s e
number-update cell None s e = let z : ◌≡◌ {A = ℕ} 0 1 = cc in absurd (omega arith)

-- a call that decodes to a step has the step's number
pub number-back : (n cell kind word : ℕ) (s : Step) → decoded n cell kind word ≡ Ok s → n ≡ step_number s
unfolding decoded
number-back zero cell kind word s e = let z : ◌≡◌ {A = ℕ} 0 1 = cc in absurd (omega arith)
number-back (suc zero) cell kind word s e = number-made Begin s e
number-back (suc (suc zero)) cell kind word s e = number-made (Read cell) s e
number-back (suc (suc (suc zero))) cell kind word s e = number-write cell (parsed kind word) s e
number-back (suc (suc (suc (suc zero)))) cell kind word s e = number-made Close s e
number-back (suc (suc (suc (suc (suc zero))))) cell kind word s e = number-made Lock s e
number-back (suc (suc (suc (suc (suc (suc zero)))))) cell kind word s e = number-made Enter s e
number-back (suc (suc (suc (suc (suc (suc (suc zero))))))) cell kind word s e = number-made (Reread cell) s e
number-back (suc (suc (suc (suc (suc (suc (suc (suc zero)))))))) cell kind word s e = number-update cell (parsed kind word) s e
number-back (suc (suc (suc (suc (suc (suc (suc (suc (suc zero))))))))) cell kind word s e = number-made (Ask cell) s e
number-back (suc (suc (suc (suc (suc (suc (suc (suc (suc (suc zero)))))))))) cell kind word s e = number-made Reload s e
number-back (suc (suc (suc (suc (suc (suc (suc (suc (suc (suc (suc zero))))))))))) cell kind word s e = number-made Ignore s e
number-back (suc (suc (suc (suc (suc (suc (suc (suc (suc (suc (suc (suc zero)))))))))))) cell kind word s e = number-made Finish s e
number-back (suc (suc (suc (suc (suc (suc (suc (suc (suc (suc (suc (suc (suc zero))))))))))))) cell kind word s e = number-made Publish s e
number-back (suc (suc (suc (suc (suc (suc (suc (suc (suc (suc (suc (suc (suc (suc zero)))))))))))))) cell kind word s e = number-made GiveUp s e
number-back (suc (suc (suc (suc (suc (suc (suc (suc (suc (suc (suc (suc (suc (suc (suc n))))))))))))))) cell kind word s e =
    let outside = unknown-outside (suc (suc (suc (suc (suc (suc (suc (suc (suc (suc (suc (suc (suc (suc (suc n))))))))))))))) cell kind word (λ low high. omega arith) in
    let z : ◌≡◌ {A = ℕ} 0 1 = cc in
    absurd (omega arith)
