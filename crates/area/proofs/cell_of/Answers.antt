-- `cell_of` meets its contract: the bytes from `at` on are the head of what the definition reads.
use mathlib.Core.Path.{◌≡◌, sym, ap, ◌∙◌}
use lib.ListN.{drop}
use lib.Seq.{drop-drop, get_or-drop}
use Rattle.wire.specs.Field.{be}
use Rattle.slot.proofs.Entry.{first_byte}
use Rattle.rules.specs.Layout.{cell_of}
use Rattle.area.proofs.cell_of.Goals as goal

pub returns : goal.returns
unfolding cell_of
returns c =
    let l = c.args.s.now in
    let at = c.args.at in
    let word : c.word_at.result ≡ be 4 (drop 2 (drop at l)) = c.word_at.ensures ∙ ap (be 4) (sym (drop-drop 2 at l)) in
    let stamp : c.get.result ≡ be 8 (drop 6 (drop at l)) = c.get.ensures ∙ ap (be 8) (sym (drop-drop 6 at l)) in
    λ i. record { kind = first_byte l at i; holder = sym (get_or-drop at l 1 0) i; word = word i; stamp = stamp i }
