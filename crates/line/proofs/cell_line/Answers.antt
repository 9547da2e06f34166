-- `cell_line` meets its contract: the fields are gathered in a text of its own, and the text is put whole.
use mathlib.Core.Path.{refl}
use Rattle.line.proofs.Gather.{leaves, puts-same}
use Rattle.line.proofs.Lines.{cell-gathered}
use Rattle.line.proofs.cell_line.Goals as goal

pub returns : goal.returns
returns c =
    let name = leaves c.put_bytes.ensures refl c.unwrap_or-number_at.ensures in
    let number = rw c.from.ensures at c.add_number-kind_at.ensures in
    let kind = rw c.from-2.ensures at c.add_number-word_at.ensures in
    let word = rw c.from-3.ensures at c.add_number-stamp_at.ensures in
    let holder = rw c.from-4.ensures at c.add_number-end.ensures in
    puts-same c.put_front.ensures (cell-gathered _ refl c.args.number c.args.kind c.args.word c.args.stamp c.args.holder name number kind word c.add_number-holder_at.ensures holder)
