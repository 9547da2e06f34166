-- The parts of a line, as they are put.
use mathlib.Core.List.{List, [], ◌∷◌, map}
use mathlib.Core.Path.{◌≡◌, refl, ap}
use Prim.Native.Nat.{ℕ, zero, suc, ◌+◌, ◌<◌}
use native.Mathlib.Numerals.{add-one}
use native.Mathlib.Omega.{arith}
use lib.ListN.{length, take}
use Rattle.slot.specs.declared.WriteEntry.{WriteEntry}
use Rattle.slot.specs.declared.SlotRecord.{SlotRecord}
use Rattle.line.specs.Line.{field}
use Rattle.line.specs.Gather.{Gathered, gathered, added, added_parts, Leaves}
use Rattle.line.proofs.Gather.{gathered-as}
use Rattle.tally.specs.declared.Effect.{Effect}
use Rattle.tally.specs.declared.Effect.TheVariants.{Begun, Read, Reloaded, Committed, Aborted}
use Rattle.telling.specs.Parts.{rest_parts}

-- the fields of a log's cells
abbrev pub fields_of : List WriteEntry → List (List ℕ)
fields_of log = map (λ (e : WriteEntry). field e.cell) log

-- where no entry is left to put, all is put
pub none-left : (rest : List WriteEntry) (n : ℕ) (g : Gathered) → (0 < n → length rest ≡ 0) → added_parts (fields_of (take n rest)) g ≡ g
unfolding added_parts
none-left rest zero g h = refl
none-left [] (suc n) g h = refl
none-left (e ∷ rest) (suc n) g h = absurd (omega (arith, h (omega arith)))

-- one entry more is put
pub one-put : {rest more : List WriteEntry} {e : WriteEntry} {n r : ℕ} {t : List ℕ} (left at : ℕ) (s : List ℕ) → rest ≡ e ∷ more → left + 1 ≡ n → Leaves (added (gathered at s) (field e.cell)) r t
    → added_parts (fields_of (take left more)) (gathered r t) ≡ added_parts (fields_of (take n rest)) (gathered at s)
unfolding added_parts
one-put {more = more} left at s p q put =
    rw (p, ← q, add-one left) (ap (added_parts (fields_of (take left more))) (gathered-as put))

-- what is neither a read nor a commit has nothing behind its number
pub no-rest : (effect : Effect) (cell : ℕ) (v : SlotRecord) → (effect ≡ Read → ⊥) → (effect ≡ Committed → ⊥) → rest_parts effect cell v ≡ []
no-rest Begun cell v p q = refl
no-rest Read cell v p q = absurd (p refl)
no-rest Reloaded cell v p q = refl
no-rest Committed cell v p q = absurd (q refl)
no-rest Aborted cell v p q = refl
