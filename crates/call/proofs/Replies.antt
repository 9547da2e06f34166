-- What a reply's code, kind and word can be, and that its number holds all three. A reply that carries no truth value, no cell's value and no holder has kind and word 0,
-- and code, kind and word have places of their own in the number: each is below the next one's weight.
use mathlib.Core.Bool.{Bool}
use mathlib.Core.List.{List, [], ◌∷◌}
use mathlib.Core.Logic.{inl, inr}
use mathlib.Core.Path.{◌≡◌, refl}
use Prim.Native.Nat.{ℕ, ◌/◌, ◌%◌, ◌^◌, ◌≤◌, ◌<◌}
use native.Mathlib.Omega.{arith}
use denote.Enum.Declared.{tag_of}
use lib.Dec.{lit≤}
use types.Run.{OneOf, miss}
use Rattle.value.specs.declared.CellValue.{CellValue}
use Rattle.value.specs.declared.CellValue.TheVariants as value
use Rattle.value.specs.Value.{kind_of}
use Rattle.std.specs.Prelude.{Ok, Err}
use Rattle.call.specs.contracts.Refusal.{the_type}
use Rattle.call.specs.declared.Answer.TheVariants.{Done, Verdict, Value, Aborted}
use Rattle.call.specs.declared.Refusal.{Refusal}
use Rattle.call.specs.declared.Refusal.TheVariants.{NotWellFormed, NoSuchStep, NoSuchSlot, NotAllowed, MarkedWritten, NoSuchCell, IllegalValue, OtherKind, NotInLog, LogFull, ReadHeld, ReadNewer, LockHeld, ReloadHeld, LastStamp}
use Rattle.call.specs.Answer.{Reply, refusal_kind, refusal_word, reply_code, reply_kind, reply_word, reply_number, SaysWho}

-- ---- the cases, gone through once

-- what a reply carries: a truth value, a cell's value, a holder with or without its cell, or nothing
data Carries : Reply → Type 0 where
  truth : (b : Bool) → Carries (Ok (Verdict b))
  cell-value : (v : CellValue) → Carries (Ok (Value v))
  read-holder : (holder : ℕ) → Carries (Err (ReadHeld holder))
  lock-holder : (cell holder : ℕ) → Carries (Err (LockHeld cell holder))
  reload-holder : (cell holder : ℕ) → Carries (Err (ReloadHeld cell holder))
  nothing : {r : Reply} → reply_kind r ≡ 0 → reply_word r ≡ 0 → Carries r

cases : (r : Reply) → (reply_code r ≤ 15) × Carries r
cases (Ok Done) = (lit≤ tt, nothing refl refl)
cases (Ok (Verdict b)) = (lit≤ tt, truth b)
cases (Ok (Value v)) = (lit≤ tt, cell-value v)
cases (Err NotWellFormed) = (lit≤ tt, nothing refl refl)
cases (Err NoSuchStep) = (lit≤ tt, nothing refl refl)
cases (Err NoSuchSlot) = (lit≤ tt, nothing refl refl)
cases (Err NotAllowed) = (lit≤ tt, nothing refl refl)
cases (Err MarkedWritten) = (lit≤ tt, nothing refl refl)
cases (Err NoSuchCell) = (lit≤ tt, nothing refl refl)
cases (Err IllegalValue) = (lit≤ tt, nothing refl refl)
cases (Err OtherKind) = (lit≤ tt, nothing refl refl)
cases (Err NotInLog) = (lit≤ tt, nothing refl refl)
cases (Err LogFull) = (lit≤ tt, nothing refl refl)
cases (Err (ReadHeld holder)) = (lit≤ tt, read-holder holder)
cases (Err ReadNewer) = (lit≤ tt, nothing refl refl)
cases (Err (LockHeld cell holder)) = (lit≤ tt, lock-holder cell holder)
cases (Err (ReloadHeld cell holder)) = (lit≤ tt, reload-holder cell holder)
cases (Err LastStamp) = (lit≤ tt, nothing refl refl)
cases (Ok Aborted) = (lit≤ tt, nothing refl refl)

-- The codes are 0 to 15.
pub code-bound : (r : Reply) → reply_code r ≤ 15
code-bound r = (cases r).0

-- A refusal that doesn't say who is in the way, and the outcome 13, has kind and word zero.
pub refusal-bare : (r : Reply) → (reply_code r ≡ 0 → ⊥) → (SaysWho (reply_code r) → ⊥) → (reply_kind r ≡ 0) × (reply_word r ≡ 0)
refusal-bare r = by (cases r).1
  where
    by : {r : Reply} → Carries r → (reply_code r ≡ 0 → ⊥) → (SaysWho (reply_code r) → ⊥) → (reply_kind r ≡ 0) × (reply_word r ≡ 0)
    by (truth b) h who = absurd (h refl)
    by (cell-value v) h who = absurd (h refl)
    by (read-holder holder) h who = absurd (who (inr refl))
    by (lock-holder cell holder) h who = absurd (who (inl refl))
    by (reload-holder cell holder) h who = absurd (who (inl refl))
    by (nothing k w) h who = (k, w)

-- the last arm of a `match` on a refusal that has arms for those that say who is in the way: `ReadHeld`, `LockHeld` and `ReloadHeld`, variants 10, 12 and 13
abbrev others : List ℕ
others = 0 ∷ 1 ∷ 2 ∷ 3 ∷ 4 ∷ 5 ∷ 6 ∷ 7 ∷ 8 ∷ 9 ∷ 11 ∷ 14 ∷ []

pub last_arm : (r : Refusal) → OneOf others (tag_of the_type r) → (0 ≡ refusal_kind r) × (0 ≡ refusal_word r)
last_arm NotWellFormed h = (refl, refl)
last_arm NoSuchStep h = (refl, refl)
last_arm NoSuchSlot h = (refl, refl)
last_arm NotAllowed h = (refl, refl)
last_arm MarkedWritten h = (refl, refl)
last_arm NoSuchCell h = (refl, refl)
last_arm IllegalValue h = (refl, refl)
last_arm OtherKind h = (refl, refl)
last_arm NotInLog h = (refl, refl)
last_arm LogFull h = (refl, refl)
last_arm (ReadHeld holder) h = absurd (miss others 10 tt h)
last_arm ReadNewer h = (refl, refl)
last_arm (LockHeld cell holder) h = absurd (miss others 12 tt h)
last_arm (ReloadHeld cell holder) h = absurd (miss others 13 tt h)
last_arm LastStamp h = (refl, refl)

-- ---- the number

kind-of-bound : (v : CellValue) → kind_of v ≤ 3
kind-of-bound (value.Truth b) = lit≤ tt
kind-of-bound (value.Whole z) = lit≤ tt
kind-of-bound (value.Real x) = lit≤ tt

-- A reply's kind is 0 to 3.
pub kind-bound : (r : Reply) → reply_kind r ≤ 3
kind-bound r = by (cases r).1
  where
    by : {r : Reply} → Carries r → reply_kind r ≤ 3
    by (truth b) = lit≤ tt
    by (cell-value v) = kind-of-bound v
    by (read-holder holder) = lit≤ tt
    by (lock-holder cell holder) = lit≤ tt
    by (reload-holder cell holder) = lit≤ tt
    by (nothing k w) = omega arith

-- Code, kind and word come back from the number.
pub number-splits : (r : Reply) → reply_word r < 2 ^ 32 →
    (reply_number r / 2 ^ 40 ≡ reply_code r) × (reply_number r / 2 ^ 32 % 2 ^ 8 ≡ reply_kind r) × (reply_number r % 2 ^ 32 ≡ reply_word r)
unfolding reply_number
number-splits r w = let k : reply_kind r ≤ 3 = kind-bound r in (omega arith, omega arith, omega arith)
