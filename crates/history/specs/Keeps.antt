-- A step keeps the area well formed. A call has arbitrary numbers: wrong steps and wrong slots are among them.
use Rattle.std.specs.Prelude.{true, List, [], ◌∷◌, ◌≡◌, ℕ, ◌≤◌, length}
use Rattle.wire.specs.Field.{Bytes}
use Rattle.call.specs.Answer.{reply_code, Refuses}
use Rattle.rules.specs.Model.{Model, last_stamp}
use Rattle.rules.specs.State.{State, cell_count, cell_at}
use Rattle.rules.specs.StateRight.{state_right}
use Rattle.rules.specs.Outcome.{after}
use Rattle.rules.specs.Step.{Call, step}
use Rattle.rules.specs.Layout.{pack}
use Rattle.rules.specs.AreaRight.{well_formed}
use Rattle.rules.specs.Area.{step_on_bytes, lay_out}
use Rattle.rules.specs.Run.{Shown, show, replies, end_state}

-- a list of calls on an area, one after the other: what is replied, and the area at the end
unfoldable pub replies_on_bytes : Model → List ℕ → List Call → List Shown
replies_on_bytes M a [] = []
replies_on_bytes M a (call ∷ calls) = show (step_on_bytes M a call).reply ∷ replies_on_bytes M (step_on_bytes M a call).bytes calls

unfoldable pub bytes_after : Model → List ℕ → List Call → List ℕ
bytes_after M a [] = a
bytes_after M a (call ∷ calls) = bytes_after M (step_on_bytes M a call).bytes calls

pub record Keeps (M : Model) : Type 0 where
  -- A step keeps a state well formed.
  pub state_kept : (S : State) (a : Call) → state_right M S ≡ true → state_right M (after S (step M S a)) ≡ true
  -- The clock never falls, and it never passes the last stamp.
  pub clock_rises : (S : State) (a : Call) → S.clock ≤ (after S (step M S a)).clock
  pub clock_last : (S : State) (a : Call) → state_right M S ≡ true → (after S (step M S a)).clock ≤ last_stamp M
  -- A cell never changes its kind; n never changes, nor does the number of slots.
  pub kind_kept : (S : State) (a : Call) (c : ℕ) → (cell_at (after S (step M S a)) c).kind ≡ (cell_at S c).kind
  pub count_kept : (S : State) (a : Call) → cell_count (after S (step M S a)) ≡ cell_count S
  pub slot_count_kept : (S : State) (a : Call) → length (after S (step M S a)).slots ≡ length S.slots
  -- A well-formed area never gets code 1, and after the step it is bytes and well formed again.
  pub area_never1 : (a : List ℕ) (call : Call) → well_formed M a ≡ true → reply_code (step_on_bytes M a call).reply ≡ 1 → ⊥
  pub area_kept : (a : List ℕ) (call : Call) → Bytes a → well_formed M a ≡ true → well_formed M (step_on_bytes M a call).bytes ≡ true
  pub bytes_kept : (a : List ℕ) (call : Call) → Bytes a → well_formed M a ≡ true → Bytes (step_on_bytes M a call).bytes
  -- Every refusal leaves the area untouched, well formed or not.
  pub untouched : (a : List ℕ) (call : Call) → Refuses (reply_code (step_on_bytes M a call).reply) → (step_on_bytes M a call).bytes ≡ a
  -- An area that is laid out, and then only ever stepped, never gets code 1: no call does, whatever the calls before it.
  pub never1 : (a ds : List ℕ) → (lay_out M a ds).code ≡ 0 → (calls : List Call) (call : Call)
      → reply_code (step_on_bytes M (bytes_after M (lay_out M a ds).bytes calls) call).reply ≡ 1 → ⊥
  -- Calls on the area of a well-formed state give the replies that they give on the state, and end in the area of the state where those end.
  pub same_replies : (S : State) (calls : List Call) → state_right M S ≡ true → replies_on_bytes M (pack M S) calls ≡ replies M S calls
  pub same_end : (S : State) (calls : List Call) → state_right M S ≡ true → bytes_after M (pack M S) calls ≡ pack M (end_state M S calls)
