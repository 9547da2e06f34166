-- From the reads to what the operation comes to.
use mathlib.Core.List.{List}
use mathlib.Core.Path.{◌≡◌}
use Prim.Native.Nat.{ℕ}
use native.Mathlib.Omega.{arith}
use Rattle.std.specs.Prelude.{Ok, Err}
use Rattle.rules.specs.Model.{controller}
use Rattle.area.specs.Good.{Good, state_in}
use Rattle.level.specs.declared.Unlevelled.{Unlevelled}
use Rattle.level.specs.declared.Unlevelled.TheVariants.{Core}
use Rattle.level.specs.Level.{Reading, going, stopped, judged, levelling, levelled_number}
use Rattle.level.specs.Answer.{number_in}
use Rattle.level.specs.Reached.{Reached, Comes}

module _ (slot : ℕ) (set : List ℕ) where
  -- a refused read is passed on
  pub refusal-comes : (R : Reading) (e : Unlevelled) (l words : List ℕ) → Reached R (Err e) l words
      → Comes (levelling controller slot set R) (number_in (Err e)) l
  unfolding levelled_number
  refusal-comes (going ws S) e l words t = let no = t.nothing in cc
  refusal-comes (stopped place reply S) e l words t =
      let same : e ≡ Core place t.refusal = let said = t.answer in cc in
      rw (same, t.reply_is) (record { answer = omega arith; bytes = t.bytes })

  -- all cells are read
  pub read-good : (R : Reading) (l words : List ℕ) → Reached R (Ok tt) l words → Good l
  read-good (going ws S) l words t = t.good
  read-good (stopped place reply S) l words t = let no = t.answer in cc

  pub judged-comes : (R : Reading) (l words : List ℕ) → Reached R (Ok tt) l words → (r : ℕ) (l' : List ℕ)
      → Comes (judged controller (state_in l) slot set words) r l' → Comes (levelling controller slot set R) r l'
  judged-comes (going ws S) l words t r l' comes = rw (← t.state, ← t.kept) comes
  judged-comes (stopped place reply S) l words t r l' comes = let no = t.answer in cc
