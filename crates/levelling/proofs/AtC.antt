-- The number that C gets holds place, code, kind and word, and the early refusals change no byte.
use mathlib.Core.Bool.{Bool, true, false}
use mathlib.Core.List.{List}
use mathlib.Core.Logic.{◌⊎◌, inl, inr}
use Rattle.std.specs.Prelude.{Option, None, Some}
use mathlib.Core.Path.{◌≡◌, refl, sym, ◌∙◌, ap, subst}
use Prim.Native.Nat.{ℕ, pred, ◌/◌, ◌%◌, ◌^◌, ◌<◌, ◌≤◌}
use native.Mathlib.Omega.{arith}
use lib.Dec.{lit<}
use lib.ListN.{length, get_or}
use Rattle.wire.specs.Field.{Bytes}
use Rattle.wire.proofs.Unique.{unique}
use Rattle.call.specs.Answer.{Reply}
use Rattle.rules.specs.Model.{Model, FitsBytes, controller}
use Rattle.rules.specs.State.{State}
use Rattle.rules.specs.StateRight.{state_right}
use Rattle.rules.specs.Layout.{pack, state_of}
use Rattle.rules.specs.AreaRight.{well_formed}
use Rattle.rules.proofs.Controller.{controller-fits}
use Rattle.rules.proofs.RoundTrip.{pack-state, state-right}
use Rattle.history.specs.InTheWay.{InTheWay}
use Rattle.history.proofs.InTheWay.{in-the-way}
use Rattle.pick.specs.Pick.{negative_at, picked}
use Rattle.pick.proofs.PicksRight.{picks-right}
use Rattle.wearset.specs.WearSet.{group_count}
use Rattle.level.specs.Level.{Reading, going, stopped, read_first, Levelled, refusing, writing, judging, levelling, levelled_number}
use Rattle.wear.specs.Wear.{wear}
use Rattle.wear.specs.OnBytes.{wear_on_bytes}
use Rattle.wear.specs.Contract.{Worn}
use Rattle.levelling.specs.AsCalls.{admitted}
use Rattle.levelling.specs.AtC.{WearAtC}
use Rattle.levelling.proofs.Cases.{wear-case}
use Rattle.levelling.proofs.ReadLaws.{is-begun}
use Rattle.levelling.proofs.Leaves.{Conflict, refused-read, leaves}

-- the codes that come before the first read
abbrev Early : ℕ → Type 0
Early code = (code ≡ 1) ⊎ (code ≡ 32) ⊎ (code ≡ 3) ⊎ (code ≡ 4)

-- none of them comes later
early : (code : ℕ) → Early code → (1 ≤ code) × (code ≤ 32) × (code ≡ 14 → ⊥) × (code ≡ 10 → ⊥)
early code = elim [ inl e ↦ omega arith | inr (inl e) ↦ omega arith | inr (inr (inl e)) ↦ omega arith | inr (inr (inr e)) ↦ omega arith ]

-- each part is below the next one's weight, the code is not 1, and with an early code the state is as it was
record Fits (S : State) (w : Levelled) : Type 0 where
  code_fits : w.code < 2 ^ 8
  kind_fits : w.kind < 2 ^ 8
  word_fits : w.word < 2 ^ 32
  not_one : w.code ≡ 1 → ⊥
  kept : Early w.code → w.state ≡ S

-- place, code, kind and word come back from the number
number-parts : (S : State) (w : Levelled) → Fits S w
    → (levelled_number w / 2 ^ 48 ≡ w.place) × (levelled_number w / 2 ^ 40 % 2 ^ 8 ≡ w.code) × (levelled_number w / 2 ^ 32 % 2 ^ 8 ≡ w.kind) × (levelled_number w % 2 ^ 32 ≡ w.word)
unfolding levelled_number
number-parts S w f =
    let code = f.code_fits in
    let kind = f.kind_fits in
    let word = f.word_fits in
    (omega arith, omega arith, omega arith, omega arith)

module _ (M : Model) (model-fits : FitsBytes M) (S : State) (set : List ℕ) (slot : ℕ) (right : state_right M S ≡ true) where
  -- a refusal has kind and word 0
  refusing-fits : (place code : ℕ) (T : State) → 1 < code → code < 2 ^ 8 → (Early code → T ≡ S) → Fits S (refusing place code T)
  refusing-fits place code T low high kept =
      record { code_fits = high; kind_fits = lit< tt; word_fits = lit< tt; not_one = λ one. omega arith; kept = kept }

  module _ (adm : admitted M S set slot ≡ true) where
    -- 34, or a group's number, which is below 8
    write-fits : (words : List ℕ) (T : State) (o : Option ℕ) → picked words (group_count set) ≡ o → Fits S (writing M T slot set words o)
    write-fits words T None e = refusing-fits 0 34 T (lit< tt) (lit< tt) (λ c. let low = (early 34 c).1 in absurd (omega arith))
    write-fits words T (Some g) e =
        let few = (picks-right.pick words (group_count set) g e).inside in
        let short = (is-begun M S set slot right adm).short in
        record {
          code_fits = lit< tt;
          kind_fits = lit< tt;
          word_fits = omega arith;
          not_one = λ one. omega arith;
          kept = λ c. let high = (early 0 c).0 in absurd (omega arith);
        }

    -- 33, or one of those
    judge-fits : (words : List ℕ) (T : State) (o : Option ℕ) → Fits S (judging M T slot set words o)
    judge-fits words T None = write-fits words T (picked words (group_count set)) refl
    judge-fits words T (Some place) = refusing-fits place 33 T (lit< tt) (lit< tt) (λ c. let low = (early 33 c).1 in absurd (omega arith))

    -- a core code: 14 with a slot's number, which is a byte, or 10 with nothing beside it
    stopped-fits : (place : ℕ) (reply : Reply) (T : State) → Conflict S slot (get_or set place 0) reply → Fits S (levelling M slot set (stopped place reply T))
    stopped-fits place reply T (inl (taken, said)) =
        let who = in-the-way S (pred slot) (get_or set place 0) taken M (is-begun M S set slot right adm).right slot refl in
        rw said
        (record {
          code_fits = lit< tt;
          kind_fits = lit< tt;
          word_fits = omega (arith, who.to_last, model-fits.slots_fit);
          not_one = λ one. omega arith;
          kept = λ c. absurd ((early 14 c).2 refl);
        })
    stopped-fits place reply T (inr (free, new, said)) =
        rw said (refusing-fits place 10 T (lit< tt) (lit< tt) (λ c. absurd ((early 10 c).3 refl)))

    -- .. or one of those
    reads_fit : (r : Reading) → read_first M S slot set (length set) ≡ r → Fits S (levelling M slot set r)
    reads_fit (going words T) e = judge-fits words T (negative_at words (group_count set))
    reads_fit (stopped place reply T) e = stopped-fits place reply T (refused-read M S set slot right adm place reply T e)

  -- so of the operation on any well-formed state
  wear-fits : Fits S (wear M S set slot)
  wear-fits =
      wear-case M S set slot (λ (w : Levelled) (b : Bool). admitted M S set slot ≡ b → Fits S w)
      (λ e. refusing-fits 0 32 S (lit< tt) (lit< tt) (λ c. refl)) (λ e. refusing-fits 0 3 S (lit< tt) (lit< tt) (λ c. refl)) (λ e. refusing-fits 0 4 S (lit< tt) (lit< tt) (λ c. refl))
      (λ e. reads_fit e (read_first M S slot set (length set)) refl) refl

-- 14 comes from a read alone, so once the operation has begun
held-begun : (M : Model) (S : State) (set : List ℕ) (slot : ℕ) → (wear M S set slot).code ≡ 14 → admitted M S set slot ≡ true
held-begun M S set slot =
    wear-case M S set slot (λ (w : Levelled) (b : Bool). w.code ≡ 14 → b ≡ true)
    (λ e. absurd (omega arith)) (λ e. absurd (omega arith)) (λ e. absurd (omega arith)) (λ e. refl)

-- what the number says with code 14
abbrev Held : List ℕ → List ℕ → ℕ → ℕ → Type 0
Held l set slot r = (r / 2 ^ 32 % 2 ^ 8 ≡ 2) × (r / 2 ^ 48 < length set) × InTheWay controller (state_of controller l) slot (get_or set (r / 2 ^ 48) 0) (r % 2 ^ 32)

-- of a well-formed area: what the number and the bytes are
module _ (l set : List ℕ) (slot r : ℕ) (l' : List ℕ) (bytes : Bytes l) (p : well_formed controller l ≡ true) (worn : Worn l set slot r l') where
  -- what it comes to on the state
  abbrev w : Levelled
  w = wear controller (state_of controller l) set slot

  -- its parts fit
  fits : Fits (state_of controller l) w
  fits = wear-fits controller controller-fits (state_of controller l) set slot (state-right controller l bytes p)

  -- the number's parts
  wear-parts : (r / 2 ^ 48 ≡ w.place) × (r / 2 ^ 40 % 2 ^ 8 ≡ w.code) × (r / 2 ^ 32 % 2 ^ 8 ≡ w.kind) × (r % 2 ^ 32 ≡ w.word)
  unfolding wear_on_bytes
  wear-parts = rw (worn.answer, p) (number-parts (state_of controller l) w fits)

  -- .. and its code is not 1
  wear-not-one : r / 2 ^ 40 % 2 ^ 8 ≡ 1 → ⊥
  wear-not-one one = fits.not_one (sym wear-parts.1 ∙ one)

  -- 14: the operation had begun, and its place and word are those of the slot in the way
  wear-held : r / 2 ^ 40 % 2 ^ 8 ≡ 14 → Held l set slot r
  wear-held e =
      let code : w.code ≡ 14 = sym wear-parts.1 ∙ e in
      let begun = held-begun controller (state_of controller l) set slot code in
      let left = (leaves controller).operation (state_of controller l) set slot (state-right controller l bytes p) begun in
      let who = left.read_held code in
      rw (wear-parts.0, wear-parts.2, wear-parts.3) (who.0, (left.conflicts (inl code)).0, who.1)

  -- an early code packs the state that was unpacked
  untouched-good : Early (r / 2 ^ 40 % 2 ^ 8) → l' ≡ l
  unfolding wear_on_bytes
  untouched-good c = rw (worn.bytes, p) (ap (pack controller) (fits.kept (subst Early wear-parts.1 c)) ∙ pack-state controller l bytes p)

-- What C can rely on.
pub wear-at-c : WearAtC
unfolding wear_on_bytes levelled_number
wear-at-c =
    record {
      definite = λ l set slot r₁ r₂ l₁ l₂ s t. (unique s.answer t.answer, unique s.bytes t.bytes);
      parts = wear-parts;
      area_never1 = wear-not-one;
      read_held = λ l set slot r l' bytes worn e. tells l set slot r l' bytes worn e (well_formed controller l) refl;
      untouched = λ l set slot r l' bytes worn c. by l set slot r l' bytes worn c (well_formed controller l) refl;
    }
  where
    by : (l set : List ℕ) (slot r : ℕ) (l' : List ℕ) → Bytes l → Worn l set slot r l' → Early (r / 2 ^ 40 % 2 ^ 8) → (b : Bool) → well_formed controller l ≡ b → l' ≡ l
    by l set slot r l' bytes worn c true p = untouched-good l set slot r l' bytes p worn c
    by l set slot r l' bytes worn c false p = rw (worn.bytes, p)

    tells : (l set : List ℕ) (slot r : ℕ) (l' : List ℕ) → Bytes l → Worn l set slot r l' → r / 2 ^ 40 % 2 ^ 8 ≡ 14 → (b : Bool) → well_formed controller l ≡ b → Held l set slot r
    tells l set slot r l' bytes worn e true p = wear-held l set slot r l' bytes p worn e
    tells l set slot r l' bytes worn e false p = let one : r ≡ 2 ^ 40 = rw (worn.answer, p) in absurd (omega arith)
