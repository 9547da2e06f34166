-- What the functions between the check and the answer promise: how far the reads have come, in an area and an array of words, and what the operation comes to.
use Rattle.std.specs.Prelude.{List, ◌≡◌, ℕ, length, get_or, Result, Ok, Err}
use Rattle.call.specs.declared.Refusal.{Refusal}
use Rattle.call.specs.Answer.{Reply, answer_word}
use Rattle.rules.specs.Model.{controller}
use Rattle.rules.specs.State.{State}
use Rattle.rules.specs.Outcome.{reply_of, after}
use Rattle.rules.specs.Step.{step}
use Rattle.rules.specs.Layout.{pack}
use Rattle.area.specs.Good.{Good, state_in}
use Rattle.level.specs.declared.Unlevelled.{Unlevelled}
use Rattle.level.specs.declared.Unlevelled.TheVariants.{Core}
use Rattle.level.specs.Level.{read_of, Reading, going, stopped, read_first, Levelled, levelled_number}

-- the word of a cell that was read, or the core's refusal with its place
abbrev pub word_read : ℕ → Reply → Result ℕ Unlevelled
word_read place (Ok answer) = Ok (answer_word answer)
word_read place (Err refusal) = Err (Core place refusal)

-- the cell at a place of the set is read: what the core replies, and the area has its state
pub record WasRead (S : State) (slot : ℕ) (set : List ℕ) (place : ℕ) (r : Result ℕ Unlevelled) (l : List ℕ) : Type 0 where
  pub answer : r ≡ word_read place (reply_of (step controller S (read_of slot (get_or set place 0))))
  pub good : Good l
  pub state : state_in l ≡ after S (step controller S (read_of slot (get_or set place 0)))

-- all cells of the set are read
abbrev pub read_all : List ℕ → ℕ → List ℕ → Reading
read_all l slot set = read_first controller (state_in l) slot set (length set)

-- the reads go on: the area has their state, and the array is their words
pub record Going (words : List ℕ) (S : State) (r : Result (Unit {0}) Unlevelled) (l array : List ℕ) : Type 0 where
  pub nothing : r ≡ Ok tt
  pub good : Good l
  pub state : state_in l ≡ S
  pub kept : array ≡ words

-- a read was refused: the core's refusal with its place
pub record Stopped (place : ℕ) (reply : Reply) (S : State) (r : Result (Unit {0}) Unlevelled) (l : List ℕ) : Type 0 where
  pub refusal : Refusal
  pub reply_is : reply ≡ Err refusal
  pub answer : r ≡ Err (Core place refusal)
  pub bytes : l ≡ pack controller S

abbrev pub Reached : Reading → Result (Unit {0}) Unlevelled → List ℕ → List ℕ → Type 0
Reached (going words S) r l array = Going words S r l array
Reached (stopped place reply S) r l array = Stopped place reply S r l

-- what the operation comes to, as an answer and an area
pub record Comes (w : Levelled) (r : ℕ) (l : List ℕ) : Type 0 where
  pub answer : r ≡ levelled_number w
  pub bytes : l ≡ pack controller w.state
