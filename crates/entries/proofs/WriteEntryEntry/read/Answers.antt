-- `read` meets its contract: the bytes from `at` on are the head of what the definition reads.
use mathlib.Core.Path.{◌≡◌, sym, ap, ◌∙◌}
use lib.ListN.{drop}
use lib.Seq.{drop-drop}
use Rattle.wire.specs.Field.{be}
use Rattle.slot.specs.Layout.{write_of}
use Rattle.slot.proofs.Entry.{first_byte}
use Rattle.entries.proofs.WriteEntryEntry.read.Goals as goal

pub returns : goal.returns
unfolding write_of
returns c =
    let word_back : c.word_at.result ≡ be 4 (drop 1 (drop c.args.at c.args.s.now)) =
    c.word_at.ensures ∙ ap (be 4) (sym (drop-drop 1 c.args.at c.args.s.now)) in
    λ i. record { cell = first_byte c.args.s.now c.args.at i; word = word_back i }
