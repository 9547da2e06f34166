-- Parts gathered one after the other: where all fit, the buffer holds them from its start on, and the end is their length.
use mathlib.Core.Bool.{true}
use mathlib.Core.List.{List, [], ◌∷◌, ◌++◌, append_assoc, append-nil, flatten}
use mathlib.Core.Path.{◌≡◌, refl, sym, ◌∙◌, ap, subst}
use Prim.Native.Nat.{ℕ, zero, suc, ◌+◌, ◌*◌, ◌≤◌, ◌<◌}
use native.Mathlib.Numerals.{add-one}
use native.Mathlib.Nat.{zero-add}
use native.Mathlib.Omega.{arith}
use borrow.Author.Tests.{le-leb, lt-leb}
use lib.Dec.{leb}
use lib.ListN.{length, take, length-append}
use Rattle.wire.specs.Part.{splice}
use Rattle.wire.specs.Table.{cat}
use Rattle.wire.proofs.Laws.Part.{splice-nil, splice-next, take-splice-part, length-splice}
use Rattle.std.specs.Prelude.{Option, Some, None, unwrap_or}
use Rattle.line.specs.declared.Style.{Style}
use Rattle.line.specs.declared.Out.{Out}
use Rattle.line.specs.Number.{base_of, least_of, numeral}
use Rattle.line.proofs.Number.{digits-most}
use Rattle.line.specs.Gather.{put_answer, put_bytes, Puts, Gathered, gathered, added, added_all, added_parts, Leaves, written, Writes}

-- the two ways of putting a part
module _ (s : List ℕ) (at : ℕ) (part : List ℕ) where
  pub no_room : length s < at + length part → Puts s at part None s
  unfolding put_answer put_bytes
  no_room h = let test = lt-leb (at + length part) (length s) h in record { answer = rw test; bytes = rw test }

  pub room : (t : List ℕ) → at + length part ≤ length s → t ≡ splice s at part → Puts s at part (Some (at + length part)) t
  unfolding put_answer put_bytes
  room t h e = let test = le-leb (at + length part) (length s) h in record { answer = rw test; bytes = rw test e }

-- a part that is put, and the end that is read off its answer
pub leaves : {s part whole t : List ℕ} {at : ℕ} {p : Option ℕ} {r : ℕ} → Puts s at part p t → part ≡ whole → r ≡ unwrap_or p at → Leaves (added (gathered at s) whole) r t
leaves {s} {at = at} puts same e =
    record { end = e ∙ ap (λ (q : Option ℕ). unwrap_or q at) (puts.answer ∙ ap (put_answer s at) same); bytes = puts.bytes ∙ ap (put_bytes s at) same }

-- what is gathered, by its two parts
pub gathered-as : {g : Gathered} {at : ℕ} {s : List ℕ} → Leaves g at s → gathered at s ≡ g
gathered-as h = λ i. record { end = h.end i; bytes = h.bytes i }

-- one part more after those that a loop has gathered
pub writes-next : (f : ℕ → List ℕ) (g : Gathered) (k : ℕ) {part : List ℕ} {a b c : Out}
    → Writes a (added_all k f g) b → part ≡ f k → Writes b (added (written b) part) c → Writes a (added_all (k + 1) f g) c
unfolding added_all
writes-next f g k {c = c} before same put =
    let one = subst (λ (x : Gathered). Leaves (added x (f k)) c.end c.bytes.now) (gathered-as before.leaves) (rw same at put.leaves) in
    record { same = put.same ∙ before.same; leaves = rw (add-one k) one }

-- the same part by another name
pub puts-same : {s part whole t : List ℕ} {at : ℕ} {p : Option ℕ} → Puts s at part p t → part ≡ whole → Puts s at whole p t
puts-same {s} {at = at} puts same = record { answer = puts.answer ∙ ap (put_answer s at) same; bytes = puts.bytes ∙ ap (put_bytes s at) same }

-- the parts at the front of a buffer
abbrev pub front : List ℕ → List ℕ → Gathered
front s parts = gathered (length parts) (splice s 0 parts)

pub front-nil : (s : List ℕ) → gathered 0 s ≡ front s []
front-nil s = ap (gathered 0) (sym (splice-nil s 0))

-- one part more that fits
pub front-added : (s parts part : List ℕ) → length (parts ++ part) ≤ length s → added (front s parts) part ≡ front s (parts ++ part)
unfolding put_answer put_bytes
front-added s parts part h =
    let sum : length parts + length part ≤ length s = rw length-append at h in
    let same : length (splice s 0 parts) ≡ length s = length-splice s 0 parts (omega arith) in
    let test : leb (length parts + length part) (length (splice s 0 parts)) ≡ true = le-leb (length parts + length part) (length (splice s 0 parts)) (rw same sum) in
    let joined : splice (splice s 0 parts) (length parts) part ≡ splice s 0 (parts ++ part) =
    splice-next s 0 parts part (splice s 0 parts) (splice (splice s 0 parts) (length parts) part) (length parts) (omega arith) (omega arith) refl refl in
    rw test (λ i. gathered (sym (length-append parts part) i) (joined i))

-- parts that a loop adds
pub front-all : (s parts : List ℕ) (n : ℕ) (f : ℕ → List ℕ) → length (parts ++ cat n f) ≤ length s → added_all n f (front s parts) ≡ front s (parts ++ cat n f)
unfolding added_all cat
front-all s parts zero f h = rw append-nil
front-all s parts (suc n) f h =
    let all : length (parts ++ cat n f ++ f n) ≤ length s = rw append_assoc h in
    let before : length (parts ++ cat n f) ≤ length s = omega (arith, length-append (parts ++ cat n f) (f n)) in
    ap (λ (g : Gathered). added g (f n)) (front-all s parts n f before)
    ∙ front-added s (parts ++ cat n f) (f n) all
    ∙ ap (front s) (append_assoc parts (cat n f) (f n))

-- the parts of a list, and then those of another
pub added-both : (parts more : List (List ℕ)) (g : Gathered) → added_parts (parts ++ more) g ≡ added_parts more (added_parts parts g)
unfolding added_parts
added-both [] more g = refl
added-both (part ∷ parts) more g = added-both parts more (added g part)

-- what two functions gather, one after the other
pub leaves-both : (parts more : List (List ℕ)) (g : Gathered) {at r : ℕ} {s t : List ℕ}
    → Leaves (added_parts parts g) at s → Leaves (added_parts more (gathered at s)) r t → Leaves (added_parts (parts ++ more) g) r t
leaves-both parts more g {r = r} {t = t} before then =
    rw (added-both parts more g) (subst (λ (x : Gathered). Leaves (added_parts more x) r t) (gathered-as before) then)

-- the same of a writer
pub writes-both : (parts more : List (List ℕ)) (g : Gathered) {a b c : Out}
    → Writes a (added_parts parts g) b → Writes b (added_parts more (written b)) c → Writes a (added_parts (parts ++ more) g) c
writes-both parts more g before then = record { same = then.same ∙ before.same; leaves = leaves-both parts more g before.leaves then.leaves }

-- .. of which the second puts one part
pub writes-one : (part : List ℕ) (a : Out) {b : Out} → Writes a (added (written a) part) b → Writes a (added_parts (part ∷ []) (written a)) b
unfolding added_parts
writes-one part a put = put

-- .. or nothing
pub writes_none : (a : Out) → Writes a (added_parts [] (written a)) a
unfolding added_parts
writes_none a = record { same = refl; leaves = record { end = refl; bytes = refl } }

-- the parts of a list that fit
pub front-parts : (s begun : List ℕ) (parts : List (List ℕ)) → length (begun ++ flatten parts) ≤ length s
    → added_parts parts (front s begun) ≡ front s (begun ++ flatten parts)
unfolding added_parts flatten
front-parts s begun [] h = rw append-nil
front-parts s begun (part ∷ parts) h =
    let all : length (begun ++ part ++ flatten parts) ≤ length s = rw append_assoc h in
    let before : length (begun ++ part) ≤ length s = omega (arith, length-append (begun ++ part) (flatten parts)) in
    ap (added_parts parts) (front-added s begun part before)
    ∙ front-parts s (begun ++ part) parts all
    ∙ ap (front s) (append_assoc begun part (flatten parts))

-- what is gathered at the front is read back
pub front-taken : (s parts : List ℕ) → length parts ≤ length s → take (length parts) (splice s 0 parts) ≡ parts
front-taken s parts h = rw zero-add at (take-splice-part s 0 parts (omega arith))

-- `parts` gathered in a text `z` of 21 bytes for each field: where k fields are there, one more fits
pub record Held (k : ℕ) (z parts : List ℕ) (at : ℕ) (s : List ℕ) : Type 0 where
  pub short : length parts ≤ 21 * k
  pub leaves : Leaves (front z parts) at s

pub held_none : (z : List ℕ) → Held 0 z [] 0 z
held_none z = record { short = omega arith; leaves = record { end = refl; bytes = sym (splice-nil z 0) } }

pub held_next : (part : List ℕ) {k at r : ℕ} {z parts s t : List ℕ} → Held k z parts at s → 21 * (k + 1) ≤ length z → length part ≤ 21
    → Leaves (added (gathered at s) part) r t → Held (k + 1) z (parts ++ part) r t
held_next part {k} {at} {r} {z} {parts} {s} {t} held fits size next =
    let long : length (parts ++ part) ≤ 21 * (k + 1) = rw length-append (omega (arith, held.short)) in
    let one : added (gathered at s) part ≡ front z (parts ++ part) =
    ap (λ (g : Gathered). added g part) (gathered-as held.leaves) ∙ front-added z parts part (omega arith) in
    record { short = long; leaves = record { end = next.end ∙ ap (λ (g : Gathered). g.end) one; bytes = next.bytes ∙ ap (λ (g : Gathered). g.bytes) one } }

-- a number and the byte after it are at most 21 bytes
pub held_number : (style : Style) (n after : ℕ) {k at r : ℕ} {z parts s t : List ℕ} → Held k z parts at s → 21 * (k + 1) ≤ length z
    → Leaves (added (gathered at s) (numeral style n ++ (after ∷ []))) r t → Held (k + 1) z (parts ++ (numeral style n ++ (after ∷ []))) r t
held_number style n after held fits next =
    held_next (numeral style n ++ (after ∷ [])) held fits (rw length-append (omega (arith, digits-most (base_of style) (least_of style) 20 n))) next

pub held-taken : {k at : ℕ} {z parts s : List ℕ} → Held k z parts at s → 21 * k ≤ length z → take at s ≡ parts
held-taken {k} {at} {z} {parts} {s} held fits = rw (held.leaves.end, held.leaves.bytes) (front-taken z parts (omega (arith, held.short)))
