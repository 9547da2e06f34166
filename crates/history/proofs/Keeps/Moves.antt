-- A step keeps a state well formed: every accepted step is one of the moves, and each move does.
use mathlib.Core.Bool.{true}
use mathlib.Core.Path.{◌≡◌}
use Prim.Native.Nat.{ℕ, pred, ◌<◌}
use Rattle.call.specs.declared.Step.{Step}
use Rattle.call.specs.declared.Answer.{Answer}
use Rattle.rules.specs.Model.{Model}
use Rattle.rules.specs.State.{State}
use Rattle.rules.specs.StateRight.{state_right}
use Rattle.rules.specs.Outcome.{after}
use Rattle.rules.specs.Step.{Call, step}
use Rattle.history.proofs.Move.{Move, began, read-written, read_again, read_first, wrote, closed, locked, entered, reread-done, updated, ask-done, reloading, ignored, nothing-to-ignore, aborted, committed, published, gave-up}
use Rattle.history.proofs.StepCase.{step_case}
use Rattle.history.proofs.Right.{Right, right_of}
use Rattle.history.proofs.Keeps.Back.{right-back}
use Rattle.history.proofs.Keeps.Steady.{began-right, read_right, wrote_right, closed-right, entered-right, updated-right, reloaded-right, ignored-right, committed-right}
use Rattle.history.proofs.Keeps.Holding.{locked-right, published-right, freed-right}

pub move-right : (M : Model) (S : State) → Right M S → (i : ℕ) → i < M.slots → {s : Step} {r : Answer} {T : State} → Move M S i s r T → Right M T
move-right M S right i h (began x) = began-right M S right i h x
move-right M S right i h (read-written x inside w) = right
move-right M S right i h (read_again x inside w r) = right
move-right M S right i h (read_first x inside w r room held new) = read_right M S right i h _ _ _ x _ inside r room
move-right M S right i h (wrote x fit room) = wrote_right M S right i h _ _ _ x _ _ fit room
move-right M S right i h (closed x) = closed-right M S right i h _ _ _ x
move-right M S right i h (locked x more e free) = locked-right M S right i h _ _ _ _ _ x more e free
move-right M S right i h (entered x whole below) = entered-right M S right i h _ _ _ _ x whole below
move-right M S right i h (reread-done e) = right
move-right M S right i h (updated x fit found) = updated-right M S right i h _ _ _ _ _ x _ _ _ fit found
move-right M S right i h (ask-done e) = right
move-right M S right i h (reloading x clear below) = reloaded-right M S right i h _ _ _ _ _ x below
move-right M S right i h (ignored x free m) = ignored-right M S right i h _ _ _ _ _ x free m
move-right M S right i h nothing-to-ignore = right
move-right M S right i h (aborted x m) = freed-right M S right i h
move-right M S right i h (committed x m) = committed-right M S right i h _ _ _ _ _ x m
move-right M S right i h (published x e) = published-right M S right i h _ _ _ _ _ _ _ x e
move-right M S right i h (gave-up x) = freed-right M S right i h

pub step_keeps : (M : Model) (S : State) (a : Call) → state_right M S ≡ true → state_right M (after S (step M S a)) ≡ true
step_keeps M S a right =
    step_case M S (λ o. state_right M (after S o) ≡ true) (λ r k. right) a
    (λ s d h r T m. right-back M T (move-right M S (right_of M S right) (pred a.slot) h m))
