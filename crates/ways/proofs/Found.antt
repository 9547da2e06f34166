-- What a search hands back, in the rules' terms: the code's option and the rules' have a case each for nothing and for something.
use Rattle.std.specs.Prelude as code
use mathlib.Core.Option.{Option, none, some}
use mathlib.Core.Path.{◌≡◌, sym, ◌∙◌, ap}
use Rattle.slot.specs.declared.ReadEntry.{ReadEntry}
use Rattle.slot.specs.declared.WriteEntry.{WriteEntry}
use Rattle.slot.specs.Operations.{read_found, write_found}

abbrev pub sought : {A : Type 0} → code.Option A → Option A
sought (code.Some e) = some e
sought code.None = none

-- what a search of a log gave, told apart
pub read-sought : (o : Option ReadEntry) {r k : code.Option ReadEntry} → r ≡ read_found o → r ≡ k → o ≡ sought k
read-sought none found told = ap sought (sym found ∙ told)
read-sought (some e) found told = ap sought (sym found ∙ told)

pub write-sought : (o : Option WriteEntry) {r k : code.Option WriteEntry} → r ≡ write_found o → r ≡ k → o ≡ sought k
write-sought none found told = ap sought (sym found ∙ told)
write-sought (some e) found told = ap sought (sym found ∙ told)
