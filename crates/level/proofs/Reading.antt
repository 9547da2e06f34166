-- The reads of a set, one cell more: where the loop stands before a place, and how it goes on.
use mathlib.Core.Bool.{false, not, false≢true}
use mathlib.Core.List.{List}
use mathlib.Core.Path.{◌≡◌, refl, sym, ◌∙◌, ap}
use Prim.Native.Nat.{ℕ, zero, suc, pred, ◌+◌, ◌-◌, ◌<◌, ◌≤◌}
use native.Mathlib.Numerals.{add-one}
use native.Mathlib.Omega.{arith}
use lib.Dec.{eqb, leb}
use lib.ListN.{length, get_or, take, set as replaced, length-set}
use lib.Seq.{take-suc-set}
use Rattle.std.specs.Prelude.{Result, Ok, Err}
use Rattle.std.proofs.lemmas.List.{take_all}
use Rattle.value.specs.Value.{word_of}
use Rattle.call.specs.declared.Answer.TheVariants.{Done, Verdict, Value, Aborted}
use Rattle.call.specs.declared.Refusal.{Refusal}
use Rattle.call.specs.declared.Refusal.TheVariants.{NotWellFormed, NoSuchStep, NoSuchSlot, NotAllowed, MarkedWritten, NoSuchCell, IllegalValue, OtherKind, NotInLog, LogFull, ReadHeld, ReadNewer, LockHeld, ReloadHeld, LastStamp}
use Rattle.call.specs.declared.Step.TheVariants.{Read}
use Rattle.call.specs.Answer.{Reply, reply_code, refusal_code}
use Rattle.call.specs.Decode.{decoded}
use Rattle.slot.specs.Layout.{read_capacity}
use Rattle.slot.specs.Logic.{◌and◌}
use Rattle.slot.specs.Logs.{read_entry, write_entry}
use Rattle.rules.specs.Model.{Model, controller}
use Rattle.rules.specs.State.{State, cell_count, cell_at, slot_at}
use Rattle.rules.specs.Cells.{held_by_other, newer}
use Rattle.rules.specs.Outcome.{Outcome, refused, accepted, reply_of, after}
use Rattle.rules.specs.Steps.{read_shared, read}
use Rattle.rules.specs.Step.{step_of, step}
use Rattle.rules.specs.Layout.{pack}
use Rattle.rules.proofs.Cases.{cond-case, found-case, open-case}
use Rattle.area.specs.Good.{Good, state_in}
use Rattle.area.proofs.Good.{good-kept}
use Rattle.ways.specs.Did.{Did}
use Rattle.level.specs.declared.Unlevelled.{Unlevelled}
use Rattle.level.specs.declared.Unlevelled.TheVariants.{Core}
use Rattle.level.specs.Level.{read_of, Reading, going, stopped, read_at, read_first}
use Rattle.level.specs.Reached.{word_read, WasRead, Reached}
use Rattle.level.proofs.CoreStep.{Stepping, stepping}

-- what a read comes to: a cell's value, or a refusal
abbrev IsRead : Outcome → Type 0
IsRead (refused r) = Unit {0}
IsRead (accepted (Value v) T) = Unit {0}
IsRead (accepted Done T) = ⊥
IsRead (accepted (Verdict b) T) = ⊥
IsRead (accepted Aborted T) = ⊥

read_is : (M : Model) (S : State) (slot c : ℕ) → IsRead (step M S (read_of slot c))
unfolding step step_of decoded read read_shared ◌and◌
read_is M S slot c =
    cond-case IsRead (not (leb 1 slot and leb slot M.slots)) _ _ (λ p. tt) λ p.
    open-case IsRead (slot_at S (pred slot)) _ (λ p. tt) λ start reads writes x.
    cond-case IsRead (leb (cell_count S) c) _ _ (λ p. tt) λ p.
    found-case IsRead (write_entry writes c) _ _ (λ w p. tt) λ p.
    found-case IsRead (read_entry reads c) _ _ (λ w p. tt) λ p.
    cond-case IsRead (leb read_capacity (length reads)) _ _ (λ p. tt) λ p.
    cond-case IsRead (held_by_other (pred slot) (cell_at S c)) _ _ (λ p. tt) λ p.
    cond-case IsRead (newer start (cell_at S c)) _ _ (λ p. tt) λ p. tt

-- no refusal has code 0
some_code : (r : Refusal) → eqb (refusal_code r) 0 ≡ false
some_code NotWellFormed = refl
some_code NoSuchStep = refl
some_code NoSuchSlot = refl
some_code NotAllowed = refl
some_code MarkedWritten = refl
some_code NoSuchCell = refl
some_code IllegalValue = refl
some_code OtherKind = refl
some_code NotInLog = refl
some_code LogFull = refl
some_code (ReadHeld holder) = refl
some_code ReadNewer = refl
some_code (LockHeld cell holder) = refl
some_code (ReloadHeld cell holder) = refl
some_code LastStamp = refl

-- a read that is refused leaves the state, whatever it is
abbrev pub Kept : State → Outcome → Type 0
Kept S o = eqb (reply_code (reply_of o)) 0 ≡ false → after S o ≡ S

pub read_kept : (M : Model) (S : State) (slot c : ℕ) → Kept S (step M S (read_of slot c))
read_kept M S slot c = by (step M S (read_of slot c)) (read_is M S slot c)
  where
    by : (o : Outcome) → IsRead o → Kept S o
    by (refused r) is e = refl
    by (accepted (Value v) T) is e = absurd (false≢true (sym e))
    by (accepted Done T) is e = absurd is
    by (accepted (Verdict b) T) is e = absurd is
    by (accepted Aborted T) is e = absurd is

-- a step of the core that reads the cell at a place
module _ (l : List ℕ) (slot : ℕ) (set : List ℕ) (place : ℕ) (good : Good l) {reply : Reply} {l' : List ℕ}
    (did : Did (step_of controller (state_in l) slot (Ok (Read (get_or set place 0)))) l reply l') where
  read-stepping : Stepping l (read_of slot (get_or set place 0)) reply l'
  unfolding decoded
  read-stepping = stepping l good (read_of slot (get_or set place 0)) did

  pub was-read : (r : Result ℕ Unlevelled) → r ≡ word_read place reply → WasRead (state_in l) slot set place r l'
  was-read r e =
      let made = read-stepping in
      record { answer = e ∙ ap (word_read place) made.reply_is; good = made.good; state = made.state }

-- reads that go on have come as far as the area and the array say
pub goes_on : (R : Reading) (l array : List ℕ) → Reached R (Ok tt) l array → Good l × (R ≡ going array (state_in l))
goes_on (going words S) l array t = (t.good, rw (t.kept, t.state))
goes_on (stopped place reply S) l array t = cc (t.answer)

-- reads that have stopped stay so, with one more
pub still-stopped : (M : Model) (slot : ℕ) (set : List ℕ) (place : ℕ) (R : Reading) (e : Unlevelled) (l array : List ℕ) → Reached R (Err e) l array
    → Reached (read_at M slot set place R) (Err e) l array
unfolding read_at
still-stopped M slot set place (going words S) e l array t = cc (t.nothing)
still-stopped M slot set place (stopped at reply S) e l array t = t

module _ (l₀ : List ℕ) (slot : ℕ) (set : List ℕ) where
  abbrev reads_to : ℕ → Reading
  reads_to n = read_first controller (state_in l₀) slot set n

  -- before a place the cells of all places below it are read
  pub record AtPlace (place : ℕ) (l words : List ℕ) : Type 0 where
    pub size : length words ≡ length set
    pub good : Good l
    pub reads : reads_to place ≡ going (take place words) (state_in l)

  pub at_first : (words : List ℕ) → length words ≡ length set → Good l₀ → AtPlace 0 l₀ words
  unfolding read_first
  at_first words size good = record { size = size; good = good; reads = refl }

  -- reads that have stopped stay so
  stays-stopped : (more n place : ℕ) (reply : Reply) (S : State) → reads_to n ≡ stopped place reply S → reads_to (more + n) ≡ stopped place reply S
  unfolding read_first read_at
  stays-stopped zero n place reply S e = let here : 0 + n ≡ n = omega arith in rw here e
  stays-stopped (suc more) n place reply S e =
      let next : suc more + n ≡ suc (more + n) = omega arith in
      rw (next, stays-stopped more n place reply S e)

  module _ (place : ℕ) (l words : List ℕ) (here : AtPlace place l words) (l' : List ℕ) where
    abbrev o : Outcome
    o = step controller (state_in l) (read_of slot (get_or set place 0))

    module _ (inside : place < length set) where
      -- the cell at the place was read
      pub read_goes : (word : ℕ) → WasRead (state_in l) slot set place (Ok word) l' → AtPlace (place + 1) l' (replaced words place word)
      unfolding read_first read_at
      read_goes word was = by o (read_is controller (state_in l) slot (get_or set place 0)) refl was.answer
        where
          by : (p : Outcome) → IsRead p → o ≡ p → ◌≡◌ {A = Result ℕ Unlevelled} (Ok word) (word_read place (reply_of p)) → AtPlace (place + 1) l' (replaced words place word)
          by (accepted (Value v) T) is same e =
              let read : word ≡ word_of v = cc in
              let state : state_in l' ≡ T = was.state ∙ ap (after (state_in l)) same in
              let size = here.size in
              let room : place < length words = omega arith in
              record {
                size = length-set words place word ∙ here.size;
                good = was.good;
                reads = rw (add-one place, here.reads, same, state, take-suc-set words place word room, read);
              }
          by (accepted Done T) is same e = absurd is
          by (accepted (Verdict b) T) is same e = absurd is
          by (accepted Aborted T) is same e = absurd is
          by (refused r) is same e = cc

      -- the core refused
      pub read-stops : (e : Unlevelled) → WasRead (state_in l) slot set place (Err e) l' → (array : List ℕ) → Reached (reads_to (length set)) (Err e) l' array
      unfolding read_first read_at
      read-stops e was array = by o refl was.answer
        where
          by : (p : Outcome) → o ≡ p → ◌≡◌ {A = Result ℕ Unlevelled} (Err e) (word_read place (reply_of p)) → Reached (reads_to (length set)) (Err e) l' array
          by (accepted a T) same q = cc
          by (refused r) same q =
              let told : e ≡ Core place r = cc in
              let state : state_in l' ≡ state_in l = was.state ∙ ap (after (state_in l)) same in
              let now : reads_to (suc place) ≡ stopped place (Err r) (state_in l) = rw (here.reads, same, some_code r) in
              let far : length set - suc place + suc place ≡ length set = omega arith in
              let all : reads_to (length set) ≡ stopped place (Err r) (state_in l) =
              rw (← far) (stays-stopped (length set - suc place) (suc place) place (Err r) (state_in l) now) in
              rw all (record { refusal = r; reply_is = refl; answer = ap Err told; bytes = good-kept l' was.good ∙ ap (pack controller) state })

  pub all_read : (place : ℕ) (l words : List ℕ) → AtPlace place l words → length set ≤ place → place ≤ length set → Reached (reads_to (length set)) (Ok tt) l words
  all_read place l words here many few =
      let size = here.size in
      let same : length set ≡ place = omega arith in
      rw (same, here.reads) (record { nothing = refl; good = here.good; state = refl; kept = sym (take_all place words (omega arith)) })
