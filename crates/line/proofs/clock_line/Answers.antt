-- `clock_line` meets its contract: the fields are gathered in a text of its own, and the text is put whole.
use mathlib.Core.Path.{refl}
use Rattle.line.proofs.Gather.{leaves, puts-same}
use Rattle.line.proofs.Lines.{clock-gathered}
use Rattle.line.proofs.clock_line.Goals as goal

pub returns : goal.returns
returns c =
    let name = leaves c.put_bytes.ensures refl c.unwrap_or-clock_at.ensures in
    puts-same c.put_front.ensures (clock-gathered _ refl c.args.clock name c.add_number-end.ensures)
