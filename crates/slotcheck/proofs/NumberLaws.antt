-- The clauses on a slot's commit stamp, said of its bytes.
use mathlib.Core.List.{List}
use mathlib.Core.Path.{◌≡◌, ap}
use Prim.Native.Nat.{ℕ, ◌<◌, ◌≤◌}
use borrow.Author.Tests.{le-leb, lt-leb}
use lib.Dec.{eqb, ltb, leb}
use lib.ListN.{get_or, drop}
use Rattle.wire.specs.Field.{be}
use Rattle.slot.specs.Layout.{slot_of}
use Rattle.slot.specs.Logic.{◌and◌}
use Rattle.rules.specs.LogsRight.{commit_between}
use Rattle.rules.specs.AreaRight.{commit_right}
use Rattle.logcheck.proofs.Chains.{pick_yes, pick_no}

module _ (l : List ℕ) where
  pub commit-early : (clock commit : ℕ) → commit ≡ be 8 (drop 13 l) → get_or l 0 0 ≤ 2 → eqb commit 0 ≡ commit_right clock (slot_of 8 l)
  unfolding commit_right slot_of
  commit-early clock commit e h = pick_yes _ _ _ _ (le-leb _ _ h) (ap (λ (x : ℕ). eqb x 0) e)

  pub commit-late : (clock start commit : ℕ) → start ≡ be 8 (drop 5 l) → commit ≡ be 8 (drop 13 l) → 2 < get_or l 0 0
      → (ltb start commit and leb commit clock) ≡ commit_right clock (slot_of 8 l)
  unfolding commit_right commit_between slot_of
  commit-late clock start commit d e h =
      pick_no _ _ _ _ (lt-leb _ _ h) (rw (d, e))
