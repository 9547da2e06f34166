-- Sheet S prints what document 01 says: by computation.
use mathlib.Core.Path.{refl}
use Rattle.rules.specs.SheetS.{SheetS}
use Rattle.rules.proofs.Open.{computed}

pub sheet-s : SheetS
unfolding computed
sheet-s = record { lines = refl; final = refl }
