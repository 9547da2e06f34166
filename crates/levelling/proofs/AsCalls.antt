-- What the operation does is what a list of core calls does. A read that is refused leaves the state, so it may stand in the list.
use mathlib.Core.Bool.{Bool, false, cond}
use mathlib.Core.List.{List, [], ◌∷◌, ◌++◌, map, map-append}
use Rattle.std.specs.Prelude.{Option, None, Some}
use mathlib.Core.Path.{◌≡◌, refl, sym, ◌∙◌, ap}
use Prim.Native.Nat.{ℕ, zero, suc, ◌<◌, ◌≤◌}
use native.Mathlib.Omega.{arith}
use lib.Dec.{eqb}
use lib.ListN.{length, get_or, take}
use lib.Seq.{take-suc, take-length}
use Rattle.wire.specs.Field.{Bytes}
use Rattle.call.specs.Answer.{reply_code}
use Rattle.rules.specs.Model.{Model, FitsBytes}
use Rattle.rules.specs.State.{State}
use Rattle.rules.specs.Outcome.{reply_of, after}
use Rattle.rules.specs.Step.{Call, step}
use Rattle.rules.specs.Run.{end_state}
use Rattle.rules.specs.Layout.{pack, state_of}
use Rattle.rules.specs.AreaRight.{well_formed}
use Rattle.rules.specs.Area.{step_on_bytes}
use Rattle.rules.proofs.RoundTrip.{pack-state, state-right}
use Rattle.history.specs.Keeps.{bytes_after}
use Rattle.history.proofs.Keeps.{keeps}
use Rattle.history.proofs.Keeps.Lists.{cond-elim}
use Rattle.pick.specs.Pick.{negative_at, picked}
use Rattle.wearset.specs.WearSet.{group_count}
use Rattle.level.specs.Level.{read_of, Reading, going, stopped, read_at, read_first, Levelled, writing, judging, levelling}
use Rattle.wear.specs.Wear.{wear}
use Rattle.wear.specs.OnBytes.{LevelledArea, wear_on_bytes}
use Rattle.level.proofs.Reading.{read_kept}
use Rattle.levelling.specs.AsCalls.{write_picked, write_if_sound, calls_made, wear_calls, AsCalls}
use Rattle.levelling.proofs.Cases.{wear-case}

module _ (M : Model) where
  -- calls in two parts
  end-append : (calls more : List Call) (S : State) → end_state M S (calls ++ more) ≡ end_state M (end_state M S calls) more
  unfolding end_state
  end-append [] more S = refl
  end-append (a ∷ calls) more S = end-append calls more (after S (step M S a))

module _ (M : Model) (S : State) (slot : ℕ) (set : List ℕ) where
  -- the state after the first n reads
  abbrev after_reads : ℕ → State
  after_reads n = end_state M S (map (read_of slot) (take n set))

  -- how far the reads have come is what the calls that were made come to
  abbrev Reached : ℕ → Reading → Type 0
  Reached n (going words T) = T ≡ after_reads n
  Reached n (stopped place reply T) = T ≡ after_reads (suc place)

  -- one read more is one call more
  one_more : (n : ℕ) → n < length set → after_reads (suc n) ≡ after (after_reads n) (step M (after_reads n) (read_of slot (get_or set n 0)))
  unfolding end_state
  one_more n h =
      ap (λ (l : List ℕ). end_state M S (map (read_of slot) l)) (take-suc set n 0 h)
      ∙ ap (end_state M S) (map-append (read_of slot) (take n set) (get_or set n 0 ∷ []))
      ∙ end-append M (map (read_of slot) (take n set)) (read_of slot (get_or set n 0) ∷ []) S

  -- a read that is refused is among the calls too
  next : (n : ℕ) → n < length set → (r : Reading) → Reached n r → Reached (suc n) (read_at M slot set n r)
  unfolding read_at
  next n h (stopped place reply T) e = e
  next n h (going words T) e =
      let a = read_of slot (get_or set n 0) in
      let done : after T (step M T a) ≡ after_reads (suc n) = ap (λ (U : State). after U (step M U a)) e ∙ sym (one_more n h) in
      cond-elim (Reached (suc n)) (eqb (reply_code (reply_of (step M T a))) 0) _ _ (λ p. done) (λ p. sym (read_kept M T slot (get_or set n 0) p) ∙ done)

  -- so it is after any number of reads
  reached : (n : ℕ) → n ≤ length set → Reached n (read_first M S slot set n)
  unfolding read_first end_state
  reached zero h = refl
  reached (suc n) h = next n h (read_first M S slot set n) (reached n (omega arith))

  -- then the write, if there is one
  module _ (words : List ℕ) (T : State) where
    write-end : (o : Option ℕ) → (writing M T slot set words o).state ≡ end_state M T (write_picked slot set words o)
    unfolding end_state
    write-end None = refl
    write-end (Some g) = refl

    -- .. and no count is negative
    judge-end : (o : Option ℕ) → (judging M T slot set words o).state ≡ end_state M T (write_if_sound slot set words o)
    unfolding end_state
    judge-end None = write-end (picked words (group_count set))
    judge-end (Some place) = refl

  -- the operation once begun leaves what its calls leave
  calls-end : (r : Reading) → Reached (length set) r → (levelling M slot set r).state ≡ end_state M S (calls_made slot set r)
  calls-end (stopped place reply T) e = e
  calls-end (going words T) e =
      let all : T ≡ end_state M S (map (read_of slot) set) = e ∙ ap (λ (l : List ℕ). end_state M S (map (read_of slot) l)) (take-length set) in
      let rest = write_if_sound slot set words (negative_at words (group_count set)) in
      judge-end words T (negative_at words (group_count set))
      ∙ ap (λ (U : State). end_state M U rest) all
      ∙ sym (end-append M (map (read_of slot) set) rest S)

module _ (M : Model) where
  -- on states, well formed or not
  on-states : (S : State) (set : List ℕ) (slot : ℕ) → (wear M S set slot).state ≡ end_state M S (wear_calls M S set slot)
  unfolding wear_calls end_state
  on-states S set slot =
      wear-case M S set slot (λ (w : Levelled) (b : Bool). w.state ≡ end_state M S (cond b (calls_made slot set (read_first M S slot set (length set))) []))
      refl refl refl (calls-end M S slot set (read_first M S slot set (length set)) (reached M S slot set (length set) (omega arith)))

  -- an area that is not well formed stays as it is
  stays : (a : List ℕ) (calls : List Call) → well_formed M a ≡ false → bytes_after M a calls ≡ a
  unfolding bytes_after step_on_bytes
  stays a [] p = refl
  stays a (call ∷ calls) p = rw p (stays a calls p)

module _ (M : Model) (fits : FitsBytes M) where
  -- on areas: well formed, it follows its state; else both leave it as it is
  on-areas : (a : List ℕ) → Bytes a → (set : List ℕ) (slot : ℕ) → (wear_on_bytes M a set slot).bytes ≡ bytes_after M a (wear_calls M (state_of M a) set slot)
  unfolding wear_on_bytes
  on-areas a bytes set slot =
      let calls = wear_calls M (state_of M a) set slot in
      cond-elim (λ (w : LevelledArea). w.bytes ≡ bytes_after M a calls) (well_formed M a) _ _
      (λ p.
      ap (pack M) (on-states M (state_of M a) set slot)
      ∙ sym ((keeps M fits).same_end (state_of M a) calls (state-right M a bytes p))
      ∙ ap (λ (b : List ℕ). bytes_after M b calls) (pack-state M a bytes p))
      (λ p. sym (stays M a calls p))

-- The operation is a list of core calls.
pub as-calls : (M : Model) → FitsBytes M → AsCalls M
as-calls M fits = record { on_states = on-states M; on_areas = on-areas M fits }
