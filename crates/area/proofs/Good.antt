-- A well-formed area is good: the number of its cells and its length are two of the sentences of "well formed".
use mathlib.Core.Bool.{true}
use mathlib.Core.List.{List}
use mathlib.Core.Path.{◌≡◌, sym, ◌∙◌}
use Prim.Native.Nat.{ℕ}
use borrow.Author.Tests.{eqb-true, leb-true}
use Rattle.wire.specs.Field.{Bytes}
use Rattle.slot.proofs.Logic.{and_left, and_right}
use Rattle.rules.specs.Model.{controller}
use Rattle.rules.specs.Layout.{count_in, pack}
use Rattle.rules.specs.LogsRight.{cell_count_right}
use Rattle.rules.specs.AreaRight.{lengths_agree, well_formed_but_holders, well_formed}
use Rattle.rules.proofs.RoundTrip.{right-but-holders, pack-state}
use Rattle.rules.proofs.Controller.{controller-length}
use Rattle.area.specs.Good.{Good, state_in}

pub good_of : (l : List ℕ) → Bytes l → well_formed controller l ≡ true → Good l
unfolding well_formed_but_holders lengths_agree cell_count_right
good_of l bytes right =
    let all = right-but-holders controller l right in
    let count = and_left _ _ (and_right _ _ (and_right _ _ all)) in
    record {
      right = right;
      bytes = bytes;
      few = leb-true _ _ (and_left _ _ count);
      many = leb-true _ _ (and_right _ _ count);
      long = eqb-true _ _ (and_left _ _ (and_left _ _ all)) ∙ controller-length (count_in l);
    }

-- the state of a good area packs to it
pub good-kept : (l : List ℕ) → Good l → l ≡ pack controller (state_in l)
good-kept l good = sym (pack-state controller l good.bytes good.right)
