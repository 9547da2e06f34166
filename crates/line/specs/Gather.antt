-- Parts put into a lent buffer one after the other. A part that does not fit leaves the buffer as it is.
use Rattle.std.specs.Prelude.{Bool, cond, List, [], ◌∷◌, ◌≡◌, ℕ, zero, suc, ◌+◌, leb, length, Option, Some, None, unwrap_or}
use Rattle.wire.specs.Part.{splice}
use Rattle.line.specs.declared.Out.{Out}

abbrev pub fits : List ℕ → ℕ → List ℕ → Bool
fits s at part = leb (at + length part) (length s)

-- the answer: where the part ends, if the buffer has room for it; and the buffer after it
unfoldable pub put_answer : List ℕ → ℕ → List ℕ → Option ℕ
put_answer s at part = cond (fits s at part) (Some (at + length part)) None

unfoldable pub put_bytes : List ℕ → ℕ → List ℕ → List ℕ
put_bytes s at part = cond (fits s at part) (splice s at part) s

-- a part put at `at` into a buffer `s` answers r and leaves `t`
pub record Puts (s : List ℕ) (at : ℕ) (part : List ℕ) (r : Option ℕ) (t : List ℕ) : Type 0 where
  pub answer : r ≡ put_answer s at part
  pub bytes : t ≡ put_bytes s at part

-- a buffer, and where the parts in it end
pub record Gathered : Type 0 where
  pub end : ℕ
  pub bytes : List ℕ

abbrev pub gathered : ℕ → List ℕ → Gathered
gathered end bytes = record { end = end; bytes = bytes }

-- with one part more: the next one goes behind it, or where it did not fit in its place
abbrev pub added : Gathered → List ℕ → Gathered
added g part = gathered (unwrap_or (put_answer g.bytes g.end part) g.end) (put_bytes g.bytes g.end part)

-- with the parts f 0 to f (n − 1) more
unfoldable pub added_all : ℕ → (ℕ → List ℕ) → Gathered → Gathered
added_all zero f g = g
added_all (suc n) f g = added (added_all n f g) (f n)

-- with the parts of a list more, one after the other
unfoldable pub added_parts : List (List ℕ) → Gathered → Gathered
added_parts [] g = g
added_parts (part ∷ parts) g = added_parts parts (added g part)

-- a function that gathers answers the end r and leaves the bytes t
pub record Leaves (g : Gathered) (r : ℕ) (t : List ℕ) : Type 0 where
  pub end : r ≡ g.end
  pub bytes : t ≡ g.bytes

-- what a writer's buffer has, and where it ends
abbrev pub written : Out → Gathered
written out = gathered out.end out.bytes.now

-- a writer that is left with what is gathered: in the same buffer as before
pub record Writes (before : Out) (g : Gathered) (after : Out) : Type 0 where
  pub same : after.bytes.ghost_name ≡ before.bytes.ghost_name
  pub leaves : Leaves g after.end after.bytes.now
