-- "One operation .. reads all of them (group by group, truth cell first), picks the usable group with the fewest erases, lowest number on a tie, writes its count plus one and
-- answers its number." Of the core it knows the step alone.
use Rattle.std.specs.Prelude.{cond, List, [], ◌∷◌, ◌++◌, Option, None, Some, ℕ, zero, suc, ◌+◌, ◌*◌, ◌^◌, eqb, get_or}
use Rattle.call.specs.Answer.{Reply, reply_code, reply_kind, reply_word}
use Rattle.rules.specs.Model.{Model}
use Rattle.rules.specs.State.{State}
use Rattle.rules.specs.Outcome.{reply_of, after}
use Rattle.rules.specs.Step.{Call, step}
use Rattle.rules.specs.Run.{call}
use Rattle.pick.specs.Groups.{erases_place, erases}
use Rattle.pick.specs.Pick.{negative_at, picked}
use Rattle.wearset.specs.WearSet.{group_count}

-- the calls of the core that it makes: a read of a cell, and the write of a count, which is of kind 2
abbrev pub read_of : ℕ → ℕ → Call
read_of slot c = call 2 slot c 0 0

abbrev pub write_of : ℕ → ℕ → ℕ → Call
write_of slot c count = call 3 slot c 2 count

-- how far the reads have come: the words of the cells read so far, or the place at which the core refused, and the state
pub data Reading : Type 0 where
  going : (words : List ℕ) (S : State) → Reading
  stopped : (place : ℕ) (reply : Reply) (S : State) → Reading

-- the cell at a place of the set is read
unfoldable pub read_at : Model → ℕ → List ℕ → ℕ → Reading → Reading
read_at M slot set place (going words S) =
    let o = step M S (read_of slot (get_or set place 0)) in
    cond (eqb (reply_code (reply_of o)) 0) (going (words ++ (reply_word (reply_of o) ∷ [])) (after S o))
    (stopped place (reply_of o) S)
read_at M slot set place (stopped at reply S) = stopped at reply S

-- the first n cells of the set are read, in its order
unfoldable pub read_first : Model → State → ℕ → List ℕ → ℕ → Reading
read_first M S slot set zero = going [] S
read_first M S slot set (suc n) = read_at M slot set n (read_first M S slot set n)

-- What the operation comes to: what it answers, and the state that it leaves.
pub record Levelled : Type 0 where
  pub place : ℕ
  pub code : ℕ
  pub kind : ℕ
  pub word : ℕ
  pub state : State

-- a refusal of its own, at a place of the set (0 where none is meant)
abbrev pub refusing : ℕ → ℕ → State → Levelled
refusing place code S = record { place = place; code = code; kind = 0; word = 0; state = S }

-- The picked group's count plus one is written, and its number answered. The core does not refuse this write (`written` of `Left`, crate `levelling`). 34: none left
abbrev pub writing : Model → State → ℕ → List ℕ → List ℕ → Option ℕ → Levelled
writing M S slot set words None = refusing 0 34 S
writing M S slot set words (Some g) =
    record {
      place = 0;
      code = 0;
      kind = 2;
      word = g;
      state = after S (step M S (write_of slot (get_or set (erases_place g) 0) (suc (erases words g))));
    }

-- 33: a count is negative, usable or not
abbrev pub judging : Model → State → ℕ → List ℕ → List ℕ → Option ℕ → Levelled
judging M S slot set words (Some place) = refusing place 33 S
judging M S slot set words None = writing M S slot set words (picked words (group_count set))

abbrev pub judged : Model → State → ℕ → List ℕ → List ℕ → Levelled
judged M S slot set words = judging M S slot set words (negative_at words (group_count set))

-- "On a core code it passes that code on with the place in the set (from 0). Reads made before a refusal stay in the log".
abbrev pub levelling : Model → ℕ → List ℕ → Reading → Levelled
levelling M slot set (stopped place reply S) =
    record { place = place; code = reply_code reply; kind = reply_kind reply; word = reply_word reply; state = S }
levelling M slot set (going words S) = judged M S slot set words

-- the one 64-bit number that C gets
unfoldable pub levelled_number : Levelled → ℕ
levelled_number w = w.place * 2 ^ 48 + w.code * 2 ^ 40 + w.kind * 2 ^ 32 + w.word
