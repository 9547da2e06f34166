-- The five wrong cores of "What the contracts are tested against", each whole, and the statement that the contract of `crocktendril_step` allows none of them.
use Rattle.std.specs.Prelude.{Bool, true, not, cond, List, [], ◌∷◌, ◌⊎◌, ◌≡◌, ℕ, suc, pred, ◌/◌, ◌^◌, eqb, get_or, set}
use Rattle.call.specs.declared.Answer.TheVariants.{Done, Aborted}
use Rattle.call.specs.Answer.{Refuses}
use Rattle.slot.specs.declared.WriteEntry.{WriteEntry}
use Rattle.slot.specs.Layout.{no_write}
use Rattle.slot.specs.Logic.{◌and◌, all}
use Rattle.slot.specs.Logs.{some_marked}
use Rattle.rules.specs.declared.Cell.{Cell}
use Rattle.rules.specs.Model.{controller}
use Rattle.rules.specs.State.{State, Slot, idle, no_cell, cell_at, slot_at, writes_of, taken_of, commit_of, turn}
use Rattle.rules.specs.Cells.{freed, free_all}
use Rattle.rules.specs.Outcome.{Outcome, accepted, when_twilight, when_publishing}
use Rattle.rules.specs.Steps.{publishing_or_idle}
use Rattle.rules.specs.Step.{Call, step}
use Rattle.rules.specs.Layout.{state_of}
use Rattle.tested.specs.Core.{Core, Askable, Meets, core_of, with_row}

-- "a core that always refuses": with whichever code but 0 and 13
abbrev pub AlwaysRefuses : Core → Type 0
AlwaysRefuses core = (l : List ℕ) (call : Call) → Askable l call → Refuses ((core l call).answer / 2 ^ 40)

-- "one that always replies the same": with whichever number, and whatever it leaves
abbrev pub AlwaysRepliesTheSame : Core → Type 0
AlwaysRepliesTheSame core = (l m : List ℕ) (call next : Call) → Askable l call → Askable m next → (core l call).answer ≡ (core m next).answer

-- "one that changes nothing": whatever it answers
abbrev pub ChangesNothing : Core → Type 0
ChangesNothing core = (l : List ℕ) (call : Call) → Askable l call → (core l call).left ≡ l

-- "one that writes all cells at finish and only pretends to publish": a finish that is done leaves every cell of the write log with its word ..
abbrev pub all_have_words : State → List WriteEntry → Bool
all_have_words S writes = all (λ (e : WriteEntry). eqb (cell_at S e.cell).word e.word) writes

abbrev pub WritesAtFinish : Core → Type 0
WritesAtFinish core =
    (l : List ℕ) (call : Call) → Askable l call → call.step ≡ 12 → (core l call).answer ≡ 0
    → all_have_words (state_of controller (core l call).left) (writes_of (slot_at (state_of controller l) (pred call.slot))) ≡ true

-- .. and a publish leaves every cell with the word that it had
abbrev pub PretendsToPublish : Core → Type 0
PretendsToPublish core =
    (l : List ℕ) (call : Call) → Askable l call → call.step ≡ 13
    → (c : ℕ) → (cell_at (state_of controller (core l call).left) c).word ≡ (cell_at (state_of controller l) c).word

-- A core that does both and is the rules' own but for these two rows: at finish every cell of the write log gets its word and the commit stamp and stays held;
-- publish frees the next cell and counts.
abbrev pub written_as : ℕ → ℕ → Cell → Cell
written_as word commit x = record { kind = x.kind; holder = x.holder; word = word; stamp = commit }

unfoldable pub all_written : ℕ → List WriteEntry → List Cell → List Cell
all_written commit [] cells = cells
all_written commit (e ∷ writes) cells = all_written commit writes (set cells e.cell (written_as e.word commit (get_or cells e.cell no_cell)))

unfoldable pub finish_writes : State → ℕ → Outcome
finish_writes S i =
    when_twilight (slot_at S i) λ ignoring start commit reads writes.
    cond (some_marked reads and not ignoring)
    (accepted Aborted (turn S i S.clock (free_all i S.cells) idle))
    (accepted Done (turn S i S.clock (all_written commit writes S.cells) (publishing_or_idle ignoring 0 start commit reads writes)))

unfoldable pub publish_nothing : State → ℕ → Outcome
publish_nothing S i =
    when_publishing (slot_at S i) λ ignoring taken start commit reads writes.
    let c = (get_or writes taken no_write).cell in
    accepted Done
    (turn S i S.clock (set S.cells c (freed (cell_at S c))) (publishing_or_idle ignoring (suc taken) start commit reads writes))

abbrev pub writes_and_pretends : State → Call → Outcome
writes_and_pretends = with_row 12 finish_writes (with_row 13 publish_nothing (step controller))

-- "one that invents stamps": it accepts a step and leaves other stamps than that step gives. An enter and a reload make clock + 1 the clock and the slot's commit stamp; a publish
-- gives its cell, the lowest unpublished one, the slot's commit stamp. Once is enough, on whichever area, and whatever else the core does.
abbrev pub next_to_publish : Slot → ℕ
next_to_publish x = (get_or (writes_of x) (taken_of x) no_write).cell

pub record StampsRight (S : State) (call : Call) (T : State) : Type 0 where
  pub taken : (call.step ≡ 6) ⊎ (call.step ≡ 10) → (T.clock ≡ suc S.clock) × (commit_of (slot_at T (pred call.slot)) ≡ suc S.clock)
  pub published : call.step ≡ 13 → let x = slot_at S (pred call.slot) in (cell_at T (next_to_publish x)).stamp ≡ commit_of x

pub record InventsStamps (core : Core) : Type 0 where
  pub area : List ℕ
  pub call : Call
  pub asked : Askable area call
  pub accepted : (core area call).answer / 2 ^ 40 ≡ 0
  pub wrong : ¬ (StampsRight (state_of controller area) call (state_of controller (core area call).left))

-- None of them is allowed.
pub record ShutOut : Type 0 where
  pub refusing : (core : Core) → AlwaysRefuses core → Meets core → ⊥
  pub replying_the_same : (core : Core) → AlwaysRepliesTheSame core → Meets core → ⊥
  pub changing_nothing : (core : Core) → ChangesNothing core → Meets core → ⊥
  pub writing_at_finish : (core : Core) → WritesAtFinish core → Meets core → ⊥
  pub pretending_to_publish : (core : Core) → PretendsToPublish core → Meets core → ⊥
  -- .. of which there is a core that does both
  pub writes_at_finish : WritesAtFinish (core_of writes_and_pretends)
  pub pretends_to_publish : PretendsToPublish (core_of writes_and_pretends)
  pub writing_and_pretending : Meets (core_of writes_and_pretends) → ⊥
  pub inventing_stamps : (core : Core) → InventsStamps core → Meets core → ⊥
  -- The core made of the rules' own step is allowed.
  pub right_step : Meets (core_of (step controller))
