-- From what the functions ensure to what C is promised.
use mathlib.Core.Bool.{true, false}
use mathlib.Core.List.{List}
use mathlib.Core.Path.{◌≡◌, refl}
use Prim.Native.Nat.{ℕ, pred, ◌*◌, ◌-◌, ◌^◌, ◌<◌, ◌≤◌}
use native.Mathlib.Omega.{arith}
use borrow.Author.Tests.{le-leb, lt-leb}
use lib.ListN.{length}
use Rattle.slot.specs.Logic.{◌and◌}
use Rattle.rules.specs.Model.{controller}
use Rattle.rules.specs.State.{slot_at}
use Rattle.rules.specs.AreaRight.{well_formed}
use Rattle.area.specs.Good.{Good, state_in}
use Rattle.area.proofs.Good.{good-kept}
use Rattle.wearset.specs.WearSet.{set_right}
use Rattle.wearset.specs.OpenEmpty.{open_and_empty}
use Rattle.level.specs.Level.{read_first, levelling, levelled_number}
use Rattle.wear.specs.Wear.{wear}
use Rattle.wear.specs.OnBytes.{wear_on_bytes}
use Rattle.wear.specs.Contract.{Worn}
use Rattle.wear.specs.Asked.{Asked}
use Rattle.level.specs.Reached.{Comes}

module _ (l set : List ℕ) (slot : ℕ) where
  -- 1
  pub ill-formed : well_formed controller l ≡ false → Worn l set slot (2 ^ 40) l
  unfolding wear_on_bytes levelled_number
  ill-formed p = record { answer = rw p; bytes = rw p }

  module _ (good : Good l) where
    comes-worn : {r : ℕ} {l' : List ℕ} → Comes (wear controller (state_in l) set slot) r l' → Worn l set slot r l'
    unfolding wear_on_bytes
    comes-worn comes = record { answer = rw good.right comes.answer; bytes = rw good.right comes.bytes }

    -- 32
    pub bad-set : set_right (state_in l) set ≡ false → Worn l set slot (32 * 2 ^ 40) l
    unfolding wear levelled_number
    bad-set p = comes-worn (rw p (record { answer = refl; bytes = good-kept l good }))

    module _ (right : set_right (state_in l) set ≡ true) where
      -- 3
      pub slot-zero : slot ≡ 0 → Worn l set slot (3 * 2 ^ 40) l
      unfolding wear levelled_number ◌and◌
      slot-zero e = comes-worn (rw (right, lt-leb 1 slot (omega arith)) (record { answer = refl; bytes = good-kept l good }))

      pub slot-high : 8 < slot → Worn l set slot (3 * 2 ^ 40) l
      unfolding wear levelled_number ◌and◌
      slot-high h =
          comes-worn (rw (right, le-leb 1 slot (omega arith), lt-leb slot 8 h) (record { answer = refl; bytes = good-kept l good }))

      -- 4
      pub slot-busy : 1 ≤ slot → slot ≤ 8 → open_and_empty (slot_at (state_in l) (slot - 1)) ≡ false → Worn l set slot (4 * 2 ^ 40) l
      unfolding wear levelled_number ◌and◌
      slot-busy low high p =
          let there : slot - 1 ≡ pred slot = omega arith in
          let busy : open_and_empty (slot_at (state_in l) (pred slot)) ≡ false = rw (← there) p in
          comes-worn (rw (right, le-leb 1 slot low, le-leb slot 8 high, busy) (record { answer = refl; bytes = good-kept l good }))

      -- nothing stands against it
      pub slot-free : 1 ≤ slot → slot ≤ 8 → open_and_empty (slot_at (state_in l) (slot - 1)) ≡ true → Asked l set slot
      slot-free low high p =
          let there : slot - 1 ≡ pred slot = omega arith in
          record { good = good; right = right; low = low; high = high; free = rw (← there) p }

  -- the operation begins
  pub levels : Asked l set slot → (r : ℕ) (l' : List ℕ)
      → Comes (levelling controller slot set (read_first controller (state_in l) slot set (length set))) r l' → Worn l set slot r l'
  unfolding wear ◌and◌
  levels asked r l' comes = comes-worn asked.good (rw (asked.right, le-leb 1 slot asked.low, le-leb slot 8 asked.high, asked.free) comes)
