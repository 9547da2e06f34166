-- `reply_line` meets its contract: the fields are gathered in a text of its own, and the text is put whole.
use mathlib.Core.Path.{refl}
use Rattle.line.proofs.Gather.{puts-same}
use Rattle.line.proofs.Lines.{reply-gathered}
use Rattle.line.proofs.reply_line.Goals as goal

pub returns : goal.returns
returns c =
    puts-same c.put_front.ensures (reply-gathered _ refl _ _ _ _ c.add_number-code_at.ensures c.add_number-kind_at.ensures c.add_number-word_at.ensures c.add_number-end.ensures)
