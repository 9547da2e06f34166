-- In a good area a slot is where its offset says, the cells in its logs are below 64, and its write log ascends.
use mathlib.Core.List.{List}
use mathlib.Core.Path.{◌≡◌}
use Prim.Native.Nat.{ℕ, ◌<◌}
use native.Mathlib.Omega.{arith}
use Rattle.bothlogs.specs.BothLogs.{Indexed}
use Rattle.area.specs.Good.{Good}
use Rattle.area.specs.InPlace.{slot_start}
use Rattle.area.proofs.Logged.{logged-at}

pub indexed_of : {l : List ℕ} {i at : ℕ} → Good l → i < 8 → at ≡ slot_start l i → Indexed 8 at l
indexed_of {l} {i} {at} good below place =
    let logged = logged-at good below place in
    let long = good.long in
    let many = good.many in
    record {
      narrow = omega arith;
      size = omega arith;
      reads = logged.reads_most;
      writes = logged.writes_most;
      reads_below = λ k h. let inside = logged.reads_inside k h in omega arith;
      writes_below = λ k h. let inside = logged.writes_inside k h in omega arith;
      ascending = logged.ascending;
    }
