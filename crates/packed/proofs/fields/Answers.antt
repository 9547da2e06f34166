-- `fields` meets its contract: each field is what stands at its offset from `at` on, and the logs are those of the empty record.
use mathlib.Core.Path.{◌≡◌, refl, sym, ap, ◌∙◌}
use Prim.Native.Nat.{◌+◌}
use native.Mathlib.Nat.{add_assoc}
use lib.Dec.{eqb}
use lib.ListN.{drop}
use lib.Seq.{get_or-drop}
use Rattle.wire.specs.Field.{be}
use Rattle.slot.specs.Layout.{start_at, commit_at, slot_of}
use Rattle.slot.proofs.Entry.{first_byte}
use Rattle.packed.proofs.Offset.{from}
use Rattle.packed.proofs.fields.Goals as goal

pub returns : goal.returns
unfolding slot_of
returns c =
    let l = c.args.s.now in
    let at = c.args.at in
    let w = c.args.width in
    let start_back : _ ≡ be w (drop start_at (drop at l)) = c.get.ensures ∙ ap (be w) (from l at start_at (at + 5) refl) in
    let commit-back : _ ≡ be w (drop (commit_at w) (drop at l)) = c.get-2.ensures ∙ ap (be w) (from l at (commit_at w) (at + 5 + w) (add_assoc at 5 w)) in
    λ i.
    record {
      phase = first_byte l at i;
      ignoring = eqb (sym (get_or-drop at l 1 0) i) 1;
      taken = sym (get_or-drop at l 2 0) i;
      readcount = sym (get_or-drop at l 3 0) i;
      writecount = sym (get_or-drop at l 4 0) i;
      start = start_back i;
      commit = commit-back i;
      reads = (c.empty-v.ensures i).reads;
      writes = (c.empty-v.ensures i).writes;
    }
