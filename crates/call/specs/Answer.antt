-- The code, kind and word for each case of a reply: the answer to a step that was taken, or why the call is refused.
use Rattle.std.specs.Prelude.{cond, ◌⊎◌, ◌≡◌, ℕ, ◌+◌, ◌*◌, ◌^◌, Result, Ok, Err}
use Rattle.value.specs.Value.{kind_of, word_of}
use Rattle.call.specs.declared.Answer.{Answer}
use Rattle.call.specs.declared.Answer.TheVariants.{Done, Verdict, Value, Aborted}
use Rattle.call.specs.declared.Refusal.{Refusal}
use Rattle.call.specs.declared.Refusal.TheVariants.{NotWellFormed, NoSuchStep, NoSuchSlot, NotAllowed, MarkedWritten, NoSuchCell, IllegalValue, OtherKind, NotInLog, LogFull, ReadHeld, ReadNewer, LockHeld, ReloadHeld, LastStamp}

abbrev pub Reply : Type 0
Reply = Result Answer Refusal

abbrev pub answer_code : Answer → ℕ
answer_code Done = 0
answer_code (Verdict b) = 0
answer_code (Value v) = 0
answer_code Aborted = 13

abbrev pub refusal_code : Refusal → ℕ
refusal_code NotWellFormed = 1
refusal_code NoSuchStep = 2
refusal_code NoSuchSlot = 3
refusal_code NotAllowed = 4
refusal_code MarkedWritten = 15
refusal_code NoSuchCell = 5
refusal_code IllegalValue = 6
refusal_code OtherKind = 7
refusal_code NotInLog = 8
refusal_code LogFull = 9
refusal_code (ReadHeld holder) = 14
refusal_code ReadNewer = 10
refusal_code (LockHeld cell holder) = 11
refusal_code (ReloadHeld cell holder) = 11
refusal_code LastStamp = 12

abbrev pub reply_code : Reply → ℕ
reply_code (Ok a) = answer_code a
reply_code (Err r) = refusal_code r

-- "kind 0 and word 0 unless stated": a truth value has kind 1, a value its own, and a holder kind 2
abbrev pub answer_kind : Answer → ℕ
answer_kind Done = 0
answer_kind (Verdict b) = 1
answer_kind (Value v) = kind_of v
answer_kind Aborted = 0

abbrev pub refusal_kind : Refusal → ℕ
refusal_kind NotWellFormed = 0
refusal_kind NoSuchStep = 0
refusal_kind NoSuchSlot = 0
refusal_kind NotAllowed = 0
refusal_kind MarkedWritten = 0
refusal_kind NoSuchCell = 0
refusal_kind IllegalValue = 0
refusal_kind OtherKind = 0
refusal_kind NotInLog = 0
refusal_kind LogFull = 0
refusal_kind (ReadHeld holder) = 2
refusal_kind ReadNewer = 0
refusal_kind (LockHeld cell holder) = 2
refusal_kind (ReloadHeld cell holder) = 2
refusal_kind LastStamp = 0

abbrev pub reply_kind : Reply → ℕ
reply_kind (Ok a) = answer_kind a
reply_kind (Err r) = refusal_kind r

abbrev pub answer_word : Answer → ℕ
answer_word Done = 0
answer_word (Verdict b) = cond b 1 0
answer_word (Value v) = word_of v
answer_word Aborted = 0

-- a cell and its holder in one word
abbrev pub held_word : ℕ → ℕ → ℕ
held_word cell holder = cell * 256 + holder

-- .. and a refusal that is due to a holder says who is in the way: of a read the holder, of a lock and a reload the cell too
abbrev pub refusal_word : Refusal → ℕ
refusal_word NotWellFormed = 0
refusal_word NoSuchStep = 0
refusal_word NoSuchSlot = 0
refusal_word NotAllowed = 0
refusal_word MarkedWritten = 0
refusal_word NoSuchCell = 0
refusal_word IllegalValue = 0
refusal_word OtherKind = 0
refusal_word NotInLog = 0
refusal_word LogFull = 0
refusal_word (ReadHeld holder) = holder
refusal_word ReadNewer = 0
refusal_word (LockHeld cell holder) = held_word cell holder
refusal_word (ReloadHeld cell holder) = held_word cell holder
refusal_word LastStamp = 0

abbrev pub reply_word : Reply → ℕ
reply_word (Ok a) = answer_word a
reply_word (Err r) = refusal_word r

-- code, kind and word in one number
abbrev pub side_by_side : ℕ → ℕ → ℕ → ℕ
side_by_side code kind word = code * 2 ^ 40 + kind * 2 ^ 32 + word

-- the one 64-bit number that C gets
unfoldable pub reply_number : Reply → ℕ
reply_number r = side_by_side (reply_code r) (reply_kind r) (reply_word r)

-- "Code 13 is an outcome": a refusal is every code but 0 and 13.
abbrev pub Refuses : ℕ → Type 0
Refuses code = (code ≡ 0 → ⊥) × (code ≡ 13 → ⊥)

-- the two refusals that say who is in the way; all others are bare
abbrev pub SaysWho : ℕ → Type 0
SaysWho code = (code ≡ 11) ⊎ (code ≡ 14)
