-- An entry put into a write log by carrying: up to place i the log is done, and what is carried is still to be put into the rest of it, which ascends.
use mathlib.Core.Bool.{true}
use mathlib.Core.List.{List, [], ◌∷◌, ◌++◌, append_assoc}
use mathlib.Core.Path.{◌≡◌, refl, sym, ap, ◌∙◌}
use Prim.Native.Nat.{ℕ, suc, ◌+◌, ◌-◌, ◌<◌, ◌≤◌}
use native.Mathlib.Numerals.{add-one}
use native.Mathlib.Omega.{arith}
use borrow.Author.Tests.{lt-ltb, le-ltb, eq-eqb, ne_eqb}
use lib.Dec.{ltb}
use lib.ListN.{length, get_or, set, take, drop, replicate, take-append-drop, length-append, length-take, drop_of_length-le}
use lib.Seq.{drop_at, length-take-le, drop-cons, take-suc-set, drop-set-lt, set_split, take_all}
use Rattle.slot.specs.Layout.{write_capacity, no_write}
use Rattle.slot.specs.Logic.{all, pairwise}
use Rattle.slot.specs.Logs.{Ascending, write_log, padded_writes, put_write}
use Rattle.slot.specs.Operations.{with_writes, Writable, written}
use Rattle.slot.specs.declared.SlotRecord.{SlotRecord}
use Rattle.slot.specs.declared.WriteEntry.{WriteEntry}
use Rattle.slot.proofs.Logic.{and_left, pairwise_drop}
use Rattle.slot.proofs.Padding.{length-padded, padded-next}

-- an entry below all others comes first
put-least : (b : WriteEntry) (l : List WriteEntry) → all (λ (y : WriteEntry). ltb b.cell y.cell) l ≡ true → put_write b l ≡ b ∷ l
unfolding put_write all
put-least b [] p = refl
put-least b (x ∷ l) p = rw (and_left _ _ p)

-- put before a larger one, which is put into the rest; past a smaller one; in place of the one of its cell
module _ (a b : WriteEntry) (l : List WriteEntry) where
  put-before : a.cell < b.cell → Ascending (b ∷ l) → put_write a (b ∷ l) ≡ a ∷ put_write b l
  unfolding put_write pairwise
  put-before h up = rw (lt-ltb a.cell b.cell h, put-least b l (and_left _ _ up))

  put-past : b.cell < a.cell → put_write a (b ∷ l) ≡ b ∷ put_write a l
  unfolding put_write
  put-past h = rw (le-ltb a.cell b.cell (omega arith), ne_eqb a.cell b.cell (omega arith))

  put_same : a.cell ≡ b.cell → put_write a (b ∷ l) ≡ a ∷ l
  unfolding put_write
  put_same same = rw (le-ltb a.cell b.cell (omega arith), eq-eqb a.cell b.cell same)

-- the entry e is put into the log; `now` is what stands in its place
pub record Carried (e : WriteEntry) (log now : List WriteEntry) (x : WriteEntry) (i : ℕ) : Type 0 where
  pub put : take i now ++ put_write x (drop i log) ≡ put_write e log
  pub left : drop i now ≡ drop i log

module _ {e : WriteEntry} {log now : List WriteEntry} {x : WriteEntry} {i : ℕ} (k : Carried e log now x i) (sized : length now ≡ length log) where
  abbrev here : WriteEntry
  here = get_or now i no_write

  abbrev tail : List WriteEntry
  tail = drop (suc i) log

  module _ (inside : i < length log) where
    rest : drop i log ≡ here ∷ tail
    rest =
        let there = drop-cons log i no_write inside in
        let now-there = drop-cons now i no_write (omega (arith, sized)) in
        let same = k.left in
        cc

    past : drop (suc i) now ≡ tail
    past =
        let there = drop-cons log i no_write inside in
        let now-there = drop-cons now i no_write (omega (arith, sized)) in
        let same = k.left in
        cc

    -- one place further
    next : {now′ : List WriteEntry} {x′ lower higher : WriteEntry} → put_write x (here ∷ tail) ≡ lower ∷ put_write higher tail
        → now′ ≡ set now i lower → x′ ≡ higher → Carried e log now′ x′ (i + 1)
    next {lower = lower} {higher = higher} step stored held =
        rw (stored, held, add-one)
        (record {
          put = rw (take-suc-set now i lower (omega (arith, sized)), append_assoc, ← step, ← rest) k.put;
          left = drop-set-lt (suc i) now i lower (omega arith) ∙ past;
        })

    pub carry-before : {now′ : List WriteEntry} {x′ : WriteEntry} → Ascending log → x.cell < here.cell
        → now′ ≡ set now i x → x′ ≡ here → Carried e log now′ x′ (i + 1)
    carry-before up h = next (put-before x here tail h (rw rest at (pairwise_drop _ i log up)))

    pub carry-past : {now′ : List WriteEntry} {x′ : WriteEntry} → here.cell < x.cell → now′ ≡ set now i here → x′ ≡ x → Carried e log now′ x′ (i + 1)
    carry-past h = next (put-past x here tail h)

    pub carry_same : x.cell ≡ here.cell → set now i x ≡ put_write e log
    carry_same q = rw (set_split now i x (omega (arith, sized)), past, ← put_same x here tail q, ← rest) k.put

  pub carry-end : length log ≤ i → now ++ (x ∷ []) ≡ put_write e log
  unfolding put_write
  carry-end h =
      let done : take i now ≡ now = take_all i now (omega (arith, sized)) in
      let none : drop i log ≡ [] = drop_of_length-le log {i = i} h in
      rw (done, none) at k.put

-- the last entry that is carried takes the first unused place
pub carried-on : {v : SlotRecord} {e : WriteEntry} (now : List WriteEntry) (last : WriteEntry) {count : ℕ} → Writable v e → count ≡ v.writecount
    → length now ≡ length v.writes → take count now ++ (last ∷ []) ≡ put_write e (take count v.writes) → drop count now ≡ drop count v.writes
    → with_writes v (v.writecount + 1) (set now count last) ≡ written v e
carried-on {v} {e} now last {count} able counted sized put same =
    let front = take count now in
    let whole : length v.writes ≡ write_capacity = ap length able.unused ∙ length-padded no_write (write_log v) write_capacity (rw length-take (omega (arith, able.counted))) in
    let full : length front ≡ count = length-take-le count now (omega (arith, able.counted)) in
    let as_many : length (write_log v) ≡ count = length-take-le v.writecount v.writes (omega (arith, able.counted)) ∙ sym counted in
    let unused : drop count v.writes ≡ replicate (write_capacity - length front) no_write =
    ap (drop count) able.unused ∙ drop_at (write_log v) _ count as_many ∙ ap (λ (n : ℕ). replicate (write_capacity - n) no_write) (as_many ∙ sym full) in
    let padded : now ≡ front ++ replicate (write_capacity - length front) no_write = sym (take-append-drop count now) ∙ ap (λ (l : List WriteEntry). front ++ l) (same ∙ unused) in
    let result : front ++ (last ∷ []) ≡ put_write e (write_log v) = put ∙ ap (λ (n : ℕ). put_write e (take n v.writes)) counted in
    let more : length (put_write e (write_log v)) ≡ count + 1 = ap length (sym result) ∙ length-append front (last ∷ []) ∙ omega (arith, full) in
    let place : count ≡ length front = sym full in
    let room : length front < write_capacity = omega (arith, able.room) in
    let writes : set now count last ≡ padded_writes (put_write e (write_log v)) =
    (λ j. set (padded j) (place j) last) ∙ padded-next no_write front write_capacity last room ∙ ap padded_writes result in
    let size : v.writecount + 1 ≡ length (put_write e (write_log v)) = omega arith in
    λ i. with_writes v (size i) (writes i)
