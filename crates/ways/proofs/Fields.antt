-- What a step learns of its slot from the fields alone: the phase that it asked, and the fields that it took out, are its record's.
use mathlib.Core.Path.{◌≡◌, sym, ap, ◌∙◌}
use Prim.Native.Nat.{ℕ}
use lib.ListN.{get_or}
use Rattle.slot.specs.declared.WriteEntry.{WriteEntry}
use Rattle.slot.specs.declared.SlotRecord.{SlotRecord}
use Rattle.slot.specs.Layout.{no_write}
use Rattle.slot.specs.Fields.{fields_of}

-- a number that was asked, and what was found of it
pub other : {p q k : ℕ} → p ≡ q → (p ≡ k → ⊥) → q ≡ k → ⊥
other asked n same = n (asked ∙ same)

pub same : {p q k : ℕ} → p ≡ q → p ≡ k → q ≡ k
same asked found = sym asked ∙ found

pub record Fields (h v : SlotRecord) : Type 0 where
  pub ignoring : h.ignoring ≡ v.ignoring
  pub taken : h.taken ≡ v.taken
  pub readcount : h.readcount ≡ v.readcount
  pub writecount : h.writecount ≡ v.writecount
  pub start : h.start ≡ v.start
  pub commit : h.commit ≡ v.commit

pub fields : {h : SlotRecord} (v : SlotRecord) → h ≡ fields_of v → Fields h v
fields v e =
    record {
      ignoring = ap (λ (u : SlotRecord). u.ignoring) e;
      taken = ap (λ (u : SlotRecord). u.taken) e;
      readcount = ap (λ (u : SlotRecord). u.readcount) e;
      writecount = ap (λ (u : SlotRecord). u.writecount) e;
      start = ap (λ (u : SlotRecord). u.start) e;
      commit = ap (λ (u : SlotRecord). u.commit) e;
    }

-- the write entry that is read at the fields' place is the one at the record's
pub entry_at : {h v : SlotRecord} {e : WriteEntry} → Fields h v → e ≡ get_or v.writes h.taken no_write → get_or v.writes v.taken no_write ≡ e
entry_at {v = v} f found = sym (found ∙ ap (λ (n : ℕ). get_or v.writes n no_write) f.taken)
