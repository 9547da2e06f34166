-- The slips that look right, and half of a wrong core, as steps that differ from the right one in a row or two, and for each a history that shows it. The wrong cores, whole,
-- are in `tested/specs/WrongCores.antt`.
use Rattle.std.specs.Prelude.{true, false, not, cond, List, [], ◌∷◌, ◌++◌, map, ℕ, suc, pred, eqb, ltb, leb, length, get_or, set}
use Rattle.call.specs.declared.Answer.TheVariants.{Done, Verdict}
use Rattle.call.specs.declared.Refusal.TheVariants.{NotAllowed, LogFull, ReadNewer}
use Rattle.slot.specs.declared.ReadEntry.{ReadEntry}
use Rattle.slot.specs.declared.WriteEntry.{WriteEntry}
use Rattle.slot.specs.Layout.{read_capacity, no_write}
use Rattle.slot.specs.Logs.{read_entry, write_entry, some_marked}
use Rattle.rules.specs.Model.{controller}
use Rattle.rules.specs.State.{State, opened, locking, twilight, cell_at, slot_at, turn}
use Rattle.rules.specs.Cells.{newer, with_mark, reloaded, published_as, free_all}
use Rattle.rules.specs.Outcome.{Outcome, accepted, when_open, when_locking, when_twilight, when_publishing, refuse_if, inside_cells, found_or, below_last_stamp}
use Rattle.rules.specs.Steps.{answer, publishing_or_idle}
use Rattle.rules.specs.Step.{Call}
use Rattle.rules.specs.Run.{call}
use Rattle.rules.specs.Edges.{alone}

-- the right step but for one row
unfoldable pub slip : ℕ → (State → Call → Outcome) → (State → Call → Outcome) → State → Call → Outcome
slip number wrong next S a = cond (eqb a.step number) (wrong S a) (next S a)

-- "Marking reads at close and stamping at enter."
unfoldable pub close_marks : State → Call → Outcome
close_marks S a =
    let i = pred a.slot in
    when_open (slot_at S i) λ start reads writes.
    accepted Done (turn S i S.clock S.cells (locking 0 start (map (with_mark S i start) reads) writes))

unfoldable pub enter_stamps : State → Call → Outcome
enter_stamps S a =
    let i = pred a.slot in
    when_locking (slot_at S i) λ taken start reads writes.
    refuse_if (ltb taken (length writes)) NotAllowed
    (below_last_stamp controller S
    (accepted (Verdict (not (some_marked reads))) (turn S i (suc S.clock) S.cells (twilight false start (suc S.clock) reads writes))))

-- slot 1 reads cell 0 and closes; slot 2 writes it whole in between; slot 1 enters and finishes
unfoldable pub writer_between : List Call
writer_between =
    alone 1 1
    ∷ call 2 1 0 0 0
    ∷ alone 4 1
    ∷ alone 1 2
    ∷ call 3 2 0 2 9
    ∷ alone 4 2
    ∷ alone 5 2
    ∷ alone 6 2
    ∷ alone 12 2
    ∷ alone 13 2
    ∷ alone 6 1
    ∷ alone 12 1
    ∷ []

-- "Keeping the old stamp at reload."
unfoldable pub reload_keeps : State → Call → Outcome
reload_keeps S a =
    let i = pred a.slot in
    when_twilight (slot_at S i) λ ignoring start commit reads writes.
    accepted Done (turn S i S.clock S.cells (twilight false start commit (map (reloaded S) reads) writes))

-- slot 1 reads cell 0, which slot 2 then locks; slot 1 enters, slot 2 writes cell 0 whole; slot 1 reloads and finishes
unfoldable pub reload_later : List Call
reload_later =
    alone 1 1
    ∷ call 2 1 0 0 0
    ∷ alone 1 2
    ∷ call 3 2 0 2 9
    ∷ alone 4 2
    ∷ alone 5 2
    ∷ alone 4 1
    ∷ alone 6 1
    ∷ alone 6 2
    ∷ alone 12 2
    ∷ alone 13 2
    ∷ alone 10 1
    ∷ alone 12 1
    ∷ []

-- "Letting a held cell be read because its stamp is low."
unfoldable pub read_held : State → Call → Outcome
read_held S a =
    let i = pred a.slot in
    let c = a.cell in
    when_open (slot_at S i) λ start reads writes.
    inside_cells S c
    (found_or (write_entry writes c) (λ (e : WriteEntry). accepted (answer S c e.word) S)
    (found_or (read_entry reads c) (λ (e : ReadEntry). accepted (answer S c e.word) S)
    (refuse_if (leb read_capacity (length reads)) LogFull
    (refuse_if (newer start (cell_at S c)) ReadNewer
    (accepted (answer S c (cell_at S c).word)
    (turn S i S.clock S.cells (opened start (reads ++ (record { cell = c; mark = false; word = (cell_at S c).word } ∷ [])) writes)))))))

-- slot 1 has stamp 1 and holds cell 0; slot 2 begins at clock 1 and reads it; slot 1 finishes
unfoldable pub read_under_hold : List Call
read_under_hold =
    alone 1 1 ∷ call 3 1 0 2 9 ∷ alone 4 1 ∷ alone 5 1 ∷ alone 6 1 ∷ alone 1 2 ∷ call 2 2 0 0 0 ∷ alone 12 1 ∷ []

-- "Freeing all held cells at the first publish."
unfoldable pub publish_frees : State → Call → Outcome
publish_frees S a =
    let i = pred a.slot in
    when_publishing (slot_at S i) λ ignoring taken start commit reads writes.
    let e = get_or writes taken no_write in
    accepted Done
    (turn S i S.clock (free_all i (set S.cells e.cell (published_as e.word commit (cell_at S e.cell))))
    (publishing_or_idle ignoring (suc taken) start commit reads writes))

-- slot 1 writes both cells and publishes the first; slot 2 begins and reads the second
unfoldable pub read_unpublished : List Call
read_unpublished =
    alone 1 1
    ∷ call 3 1 0 2 8
    ∷ call 3 1 1 2 9
    ∷ alone 4 1
    ∷ alone 5 1
    ∷ alone 5 1
    ∷ alone 6 1
    ∷ alone 12 1
    ∷ alone 13 1
    ∷ alone 1 2
    ∷ call 2 2 1 0 0
    ∷ []

-- The half of a wrong core that only pretends to publish (its finish writes nothing): the cell is freed with the word that it has.
unfoldable pub publish_pretends : State → Call → Outcome
publish_pretends S a =
    let i = pred a.slot in
    when_publishing (slot_at S i) λ ignoring taken start commit reads writes.
    let x = cell_at S (get_or writes taken no_write).cell in
    accepted Done
    (turn S i S.clock (set S.cells (get_or writes taken no_write).cell (published_as x.word commit x))
    (publishing_or_idle ignoring (suc taken) start commit reads writes))

-- slot 1 writes cell 0 whole
unfoldable pub write_alone : List Call
write_alone =
    alone 1 1 ∷ call 3 1 0 2 9 ∷ alone 4 1 ∷ alone 5 1 ∷ alone 6 1 ∷ alone 12 1 ∷ alone 13 1 ∷ []

-- "Ignoring loses updates": the ignoring of a mark on a cell that the slot also writes.
unfoldable pub ignore_loses : State → Call → Outcome
ignore_loses S a =
    let i = pred a.slot in
    when_twilight (slot_at S i) λ ignoring start commit reads writes.
    cond (some_marked reads)
    (accepted Done (turn S i S.clock S.cells (twilight true start commit reads writes)))
    (accepted Done S)

-- "A totaliser ignored a mark and dropped a colleague's increment." Slots 1 and 2 read the total in cell 0; slot 2 puts in its 10, and then slot 1 its 1, and ignores its mark.
unfoldable pub totaliser : List Call
totaliser =
    alone 1 1
    ∷ call 2 1 0 0 0
    ∷ alone 1 2
    ∷ call 2 2 0 0 0
    ∷ call 3 2 0 2 15
    ∷ alone 4 2
    ∷ alone 5 2
    ∷ alone 6 2
    ∷ alone 12 2
    ∷ alone 13 2
    ∷ call 3 1 0 2 6
    ∷ alone 4 1
    ∷ alone 5 1
    ∷ alone 6 1
    ∷ alone 11 1
    ∷ alone 12 1
    ∷ alone 13 1
    ∷ []

-- "Treating one's own hold as a conflict" breaks no sentence of demand 3, since it only marks and refuses more: E12 and the exact step of demand 2 shut it out.
