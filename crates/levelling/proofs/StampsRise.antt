-- Along a history from rest no cell's stamp falls: only a publish changes it, to a commit stamp above it.
use mathlib.Core.List.{List, [], ◌∷◌, ◌++◌}
use Prim.Native.Nat.{ℕ, pred, ◌<◌, ◌≤◌}
use native.Mathlib.Omega.{arith}
use lib.ListN.{length}
use Rattle.call.specs.declared.Step.{Step}
use Rattle.call.specs.declared.Answer.{Answer}
use Rattle.slot.specs.declared.WriteEntry.{WriteEntry}
use Rattle.rules.specs.declared.Cell.{Cell}
use Rattle.rules.specs.Model.{Model}
use Rattle.rules.specs.State.{State, cell_at, no_cell}
use Rattle.rules.specs.Cells.{published_as}
use Rattle.rules.specs.Outcome.{after, reply_of}
use Rattle.rules.specs.Step.{Call, step}
use Rattle.history.specs.History.{Event, final, Commit, SharedRead, log_at}
use Rattle.history.proofs.Record.{commit_in, read_in}
use Rattle.history.proofs.Move.{Move, began, read-written, read_again, read_first, wrote, closed, locked, entered, reread-done, updated, ask-done, reloading, ignored, nothing-to-ignore, aborted, committed, published, gave-up}
use Rattle.history.proofs.StepCase.{step_case}
use Rattle.history.proofs.Invariant.{Inv}
use Rattle.history.proofs.Keeps.Lists.{set-each}
use Rattle.history.proofs.Turns.{lock-data, free-data}
use Rattle.history.proofs.Publish.{mine, lower}
use Rattle.history.proofs.Along.{Along, begun}
use Rattle.history.proofs.Demand3.{along-step}

-- from S to T no stamp of a cell falls
abbrev pub Risen : State → State → Type 0
Risen S T = (c : ℕ) → (cell_at S c).stamp ≤ (cell_at T c).stamp

module _ (begun : ℕ → ℕ) (M : Model) (logs : ℕ → List WriteEntry) (S : State) (inv : Inv begun M logs S) (i : ℕ) (inside : i < length S.slots) where
  -- in a move
  move-rises : {s : Step} {r : Answer} {T : State} → Move M S i s r T → Risen S T
  move-rises (began x) = λ c. omega arith
  move-rises (read-written x h w) = λ c. omega arith
  move-rises (read_again x h w r) = λ c. omega arith
  move-rises (read_first x h w r room held new) = λ c. omega arith
  move-rises (wrote x fit room) = λ c. omega arith
  move-rises (closed x) = λ c. omega arith
  move-rises (locked {c = d} x more same free) = λ c. let kept = (lock-data begun M logs S inv i inside d c).1 in omega arith
  move-rises (entered x whole below) = λ c. omega arith
  move-rises (reread-done e) = λ c. omega arith
  move-rises (updated x fit found) = λ c. omega arith
  move-rises (ask-done e) = λ c. omega arith
  move-rises (reloading x clear below) = λ c. omega arith
  move-rises (ignored x free m) = λ c. omega arith
  move-rises nothing-to-ignore = λ c. omega arith
  move-rises (aborted x m) = λ c. let kept = (free-data begun M logs S inv i inside c).1 in omega arith
  move-rises (committed x m) = λ c. omega arith
  move-rises (published {ignoring = ignoring} {count = count} {start = start} {commit = commit} {e = e} {reads = reads} {writes = writes} x same) =
      let own = mine begun M logs S inv i inside ignoring count start commit reads writes x in
      let below : (cell_at S e.cell).stamp < commit = rw same (lower begun M logs S inv i inside ignoring count start commit reads writes x _ own) in
      set-each (λ c (y : Cell). (cell_at S c).stamp ≤ y.stamp) S.cells e.cell (published_as e.word commit (cell_at S e.cell)) no_cell
      (omega arith) (λ c. omega arith)
  move-rises (gave-up x) = λ c. let kept = (free-data begun M logs S inv i inside c).1 in omega arith

module _ (M : Model) (start : State) where
  -- in a call
  call-rises : (L : List Commit) (R : List SharedRead) (S : State) → Along M start L R S → (a : Call) → Risen S (after S (step M S a))
  call-rises L R S along a =
      step_case M S (λ o. Risen S (after S o)) (λ r k c. omega arith) a
      (λ s made h r T m. move-rises (begun M start) M (log_at L) S along.inv (pred a.slot) (rw along.inv.right.slot_count h) m)

  -- in any calls
  pub stamps-rise : (L : List Commit) (R : List SharedRead) (S : State) → Along M start L R S → (calls : List Call) → Risen S (final (step M) S calls)
  unfolding final
  stamps-rise L R S along [] c = omega arith
  stamps-rise L R S along (a ∷ calls) c =
      let first = call-rises L R S along a c in
      let e : Event = record { before = S; call = a; reply = reply_of (step M S a) } in
      let rest = stamps-rise (L ++ commit_in e) (R ++ read_in e) (after S (step M S a)) (along-step M start L R S along a) calls c in
      omega arith
