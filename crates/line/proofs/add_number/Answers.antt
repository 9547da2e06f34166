-- `add_number` meets its contract: the number is spelt to the end of 20 bytes, and the byte after it stands at the 21st.
use mathlib.Core.Path.{refl}
use Rattle.line.proofs.Number.{spelt-field}
use Rattle.line.proofs.Gather.{leaves}
use Rattle.line.proofs.add_number.Goals as goal

pub returns : goal.returns
returns c =
    leaves c.put_bytes.ensures (spelt-field _ c.spell-first.new.text c.args.style c.args.number c.spell-first.result c.args.after refl c.spell-first.ensures) c.unwrap_or.ensures
