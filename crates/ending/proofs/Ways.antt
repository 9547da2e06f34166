-- Each way out of finish, publish and give up, in the terms in which the code has its facts: the slot's record, and tests on its fields. Each test that was passed takes away
-- one line of the step's definition.
use mathlib.Core.Bool.{Bool, true, false}
use mathlib.Core.List.{List}
use mathlib.Core.Path.{◌≡◌, ◌∙◌, ap}
use Prim.Native.Nat.{ℕ, suc, ◌<◌}
use lib.Dec.{ltb}
use lib.ListN.{length, get_or, set}
use borrow.Author.Tests.{ltb-true}
use Rattle.call.specs.declared.Answer.TheVariants.{Done, Aborted}
use Rattle.slot.specs.declared.WriteEntry.{WriteEntry}
use Rattle.slot.specs.declared.SlotRecord.{SlotRecord}
use Rattle.slot.specs.Layout.{no_write, empty}
use Rattle.slot.specs.Logs.{read_log, write_log}
use Rattle.slot.specs.Operations.{finished, published_one}
use Rattle.slot.proofs.Logic.{and_left, and_right}
use Rattle.slot.proofs.Laws.Operations.{busy-finished, busy-published}
use Rattle.rules.specs.declared.Cell.{Cell}
use Rattle.rules.specs.Model.{Model}
use Rattle.rules.specs.State.{State, Slot, idle, publishing, cell_at, slot_at, turn}
use Rattle.rules.specs.Layout.{lay, view}
use Rattle.rules.specs.Cells.{free_all, published_as}
use Rattle.rules.specs.StateRight.{slot_right}
use Rattle.rules.specs.Outcome.{Outcome, accepted, when_uncommitted}
use Rattle.rules.specs.Steps.{publishing_or_idle, finish, publish, give_up}
use Rattle.area.specs.Good.{Good, state_in}
use Rattle.area.proofs.Logged.{slot-holds}
use Rattle.ways.specs.Asked.{marked_unignored}
use Rattle.ways.proofs.Phases.{is-twilight, is-publishing, when-twilight}
use Rattle.ways.proofs.Record.{Stands, stands, laid-either}
use Rattle.ways.proofs.Known.{known, Next, next}

pub empty_stands : {w : SlotRecord} → w ≡ empty → Stands w idle
empty_stands made = stands idle made

module _ (x : Slot) (v : SlotRecord) (here : v ≡ lay x) {w : SlotRecord} where
  pub finished-stands : v.phase ≡ 3 → w ≡ finished v → Stands w (publishing_or_idle v.ignoring 0 v.start v.commit (read_log v) (write_log v))
  unfolding publishing_or_idle
  finished-stands p made =
      stands _
      (made
      ∙ ap finished (here ∙ ap lay (is-twilight x v here p))
      ∙ busy-finished 3 v.ignoring 0 v.start v.commit (read_log v) (write_log v)
      ∙ laid-either (ltb 0 (length (write_log v))) (publishing v.ignoring 0 v.start v.commit (read_log v) (write_log v)) idle)

  pub published-stands : v.phase ≡ 4 → w ≡ published_one v
      → Stands w (publishing_or_idle v.ignoring (suc v.taken) v.start v.commit (read_log v) (write_log v))
  unfolding publishing_or_idle
  published-stands p made =
      stands _
      (made
      ∙ ap published_one (here ∙ ap lay (is-publishing x v here p))
      ∙ busy-published 4 v.ignoring v.taken v.start v.commit (read_log v) (write_log v)
      ∙ laid-either (ltb (suc v.taken) (length (write_log v))) (publishing v.ignoring (suc v.taken) v.start v.commit (read_log v) (write_log v)) idle)

module _ (M : Model) (S : State) (i : ℕ) where
  -- v is the slot's record
  module _ {v : SlotRecord} (here : v ≡ lay (slot_at S i)) where
    module _ {w : SlotRecord} where
      -- finish, in twilight: the transaction is spoilt, or committed
      module _ (p : v.phase ≡ 3) {spoilt : Bool} (unsound : spoilt ≡ marked_unignored v) where
        pub finish-13 : spoilt ≡ true → w ≡ empty → finish M S i ≡ accepted Aborted (turn S i S.clock (free_all i S.cells) (view w))
        unfolding finish
        finish-13 so made = when-twilight (slot_at S i) v here p _ ∙ rw (← unsound, so, (empty_stands made).viewed)

        pub finish-0 : spoilt ≡ false → w ≡ finished v → finish M S i ≡ accepted Done (turn S i S.clock S.cells (view w))
        unfolding finish
        finish-0 never made = when-twilight (slot_at S i) v here p _ ∙ rw (← unsound, never, (finished-stands (slot_at S i) v here p made).viewed)

      pub publish-0 : {e : WriteEntry} {x : Cell} {stamp : ℕ} → v.phase ≡ 4 → get_or (write_log v) v.taken no_write ≡ e → x ≡ cell_at S e.cell → stamp ≡ v.commit
          → w ≡ published_one v → publish M S i ≡ accepted Done (turn S i S.clock (set S.cells e.cell (published_as e.word stamp x)) (view w))
      unfolding publish
      publish-0 p entry there commit made = rw (is-publishing (slot_at S i) v here p, entry, there, commit, (published-stands (slot_at S i) v here p made).viewed)

      pub give-up-0 : ((o : Outcome) → when_uncommitted (slot_at S i) o ≡ o) → w ≡ empty → give_up M S i ≡ accepted Done (turn S i S.clock (free_all i S.cells) (view w))
      unfolding give_up
      give-up-0 there made = there _ ∙ rw (empty_stands made).viewed

-- a publishing slot of a good area has a cell left, the write entry that publish takes next
pub next_of : {l : List ℕ} {i : ℕ} {v : SlotRecord} → Good l → i < 8 → v ≡ lay (slot_at (state_in l) i) → v.phase ≡ 4 → Next l v
unfolding slot_right
next_of {l} {i} {v} good below here p =
    let k = known good below here in
    let right = rw (is-publishing (slot_at (state_in l) i) v here p) at (slot-holds l good i below) in
    let left : v.taken < length (write_log v) = ltb-true _ _ (and_left _ _ (and_right _ _ right)) in
    next k (rw (← k.counted) left)
