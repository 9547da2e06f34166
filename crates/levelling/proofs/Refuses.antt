-- It refuses exactly if no group is left to pick: with all cells read and no count negative it comes to what the pick rule says of the words. With a negative count
-- it gives 33, and only then.
use mathlib.Core.Bool.{true, false≢true}
use mathlib.Core.List.{List}
use Rattle.std.specs.Prelude.{Option, None, Some}
use mathlib.Core.Path.{◌≡◌, refl, ◌∙◌, ap, subst, sym}
use Prim.Native.Nat.{ℕ, ◌<◌}
use native.Mathlib.Omega.{arith}
use Rattle.rules.specs.Model.{Model}
use Rattle.rules.specs.State.{State}
use Rattle.pick.specs.Groups.{erases_place, erases, negative}
use Rattle.pick.specs.Pick.{negative_at, picked}
use Rattle.pick.specs.PicksRight.{NoneLeft, LeastWorn, FirstNegative}
use Rattle.pick.proofs.PicksRight.{picks-right}
use Rattle.wearset.specs.WearSet.{group_count}
use Rattle.level.specs.Level.{Levelled, writing, judging, levelling}
use Rattle.wear.specs.Wear.{wear}
use Rattle.levelling.specs.Refuses.{SoundRead, RefusesExactly, AllRead, NegativeExactly}
use Rattle.levelling.proofs.Cases.{begins}

module _ (M : Model) (S : State) (set : List ℕ) (slot : ℕ) (words : List ℕ) (T : State) where
  -- what it comes to is settled by the signs ..
  judged-as : AllRead M S set slot words T → wear M S set slot ≡ judging M T slot set words (negative_at words (group_count set))
  judged-as p = begins M S set slot p.begun ∙ ap (levelling M slot set) p.words_are

  -- .. and by what is picked
  comes-to : SoundRead M S set slot words T → wear M S set slot ≡ writing M T slot set words (picked words (group_count set))
  comes-to p = judged-as p.all_read ∙ ap (judging M T slot set words) (picks-right.all_sound words (group_count set) p.sound)

  -- what is answered, by what is picked
  abbrev Answers : Levelled → Type 0
  Answers w =
      (w.code ≡ 34 → NoneLeft words (group_count set))
      × ((w.code ≡ 34 → ⊥) → (w.code ≡ 0) × LeastWorn words (group_count set) w.word)

  -- none: 34; a group: 0, and it is the least worn
  by-pick : (o : Option ℕ) → picked words (group_count set) ≡ o → Answers (writing M T slot set words o)
  by-pick None e = (λ refused. picks-right.none_left words (group_count set) e, λ other. absurd (other refl))
  by-pick (Some g) e = (λ refused. absurd (omega arith), λ other. (refl, picks-right.pick words (group_count set) g e))

  -- so of the operation
  answers : SoundRead M S set slot words T → Answers (wear M S set slot)
  answers p = subst Answers (sym (comes-to p)) (by-pick (picked words (group_count set)) refl)

-- It refuses exactly if no usable group is left, else it picks the least worn one.
pub refuses-exactly : (M : Model) → RefusesExactly M
refuses-exactly M =
    record {
      refuses = λ S set slot words T p left.
          ap (λ (w : Levelled). w.code) (comes-to M S set slot words T p ∙ ap (writing M T slot set words) (picks-right.no_pick words (group_count set) left));
      exactly = λ S set slot words T p. (answers M S set slot words T p).0;
      picks = λ S set slot words T p. (answers M S set slot words T p).1;
    }

module _ (M : Model) (S : State) (set : List ℕ) (slot : ℕ) (words : List ℕ) (T : State) where
  -- 33 comes if and only if a negative count is found
  abbrev Signs : Levelled → Type 0
  Signs w =
      ((g : ℕ) → g < group_count set → negative (erases words g) ≡ true → w.code ≡ 33)
      × (w.code ≡ 33 → (g : ℕ) × FirstNegative words (group_count set) g × (w.place ≡ erases_place g))

  -- no pick is answered with 33
  not-33 : (o : Option ℕ) → (writing M T slot set words o).code ≡ 33 → ⊥
  not-33 None e = omega arith
  not-33 (Some g) e = omega arith

  by_sign : (o : Option ℕ) → negative_at words (group_count set) ≡ o → Signs (judging M T slot set words o)
  by_sign None e = (
    λ g h below. absurd (false≢true (sym (picks-right.sound words (group_count set) e g h) ∙ below)),
    λ refused. absurd (not-33 (picked words (group_count set)) refused),
  )
  by_sign (Some place) e =
      let found = picks-right.first words (group_count set) place e in
      (λ g h below. refl, λ refused. found)

  signs : AllRead M S set slot words T → Signs (wear M S set slot)
  signs p = subst Signs (sym (judged-as M S set slot words T p)) (by_sign (negative_at words (group_count set)) refl)

-- It gives 33 exactly if a count is negative, at the first one's place.
pub negative-exactly : (M : Model) → NegativeExactly M
negative-exactly M =
    record {
      refuses = λ S set slot words T p. (signs M S set slot words T p).0;
      exactly = λ S set slot words T p. (signs M S set slot words T p).1;
    }
