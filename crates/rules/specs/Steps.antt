-- The fourteen steps, a definition for each row of the table. Slot i is counted from 0.
use Rattle.std.specs.Prelude.{Bool, true, false, not, cond, List, [], ◌∷◌, ◌++◌, map, ℕ, suc, ltb, leb, length, get_or, set}
use Rattle.value.specs.declared.CellValue.{CellValue}
use Rattle.value.specs.Value.{word_of, value_of}
use Rattle.call.specs.declared.Answer.{Answer}
use Rattle.call.specs.declared.Answer.TheVariants.{Done, Verdict, Value, Aborted}
use Rattle.call.specs.declared.Refusal.TheVariants.{NotAllowed, MarkedWritten, IllegalValue, LogFull, ReadHeld, ReadNewer, LockHeld, ReloadHeld}
use Rattle.slot.specs.declared.ReadEntry.{ReadEntry}
use Rattle.slot.specs.declared.WriteEntry.{WriteEntry}
use Rattle.slot.specs.Layout.{read_capacity, write_capacity, no_write}
use Rattle.slot.specs.Logic.{◌and◌}
use Rattle.slot.specs.Logs.{read_entry, write_entry, writes_cell, put_write, some_marked, marked_written}
use Rattle.rules.specs.Model.{Model}
use Rattle.rules.specs.State.{State, Slot, idle, opened, locking, twilight, publishing, cell_at, slot_at, turn}
use Rattle.rules.specs.Cells.{held_by_other, newer, with_mark, reloaded, obstacle, taken_by, published_as, free_all}
use Rattle.rules.specs.Outcome.{Outcome, refused, accepted, when_idle, when_open, when_locking, when_twilight, when_publishing, when_uncommitted, refuse_if, inside_cells, fitting_value, in_log, found_or, below_last_stamp}

-- "Answers kind and word": the word in the cell's kind
abbrev pub answer : State → ℕ → ℕ → Answer
answer S c word = Value (value_of (cell_at S c).kind word)

-- 1 begin: open; start := clock; logs empty
unfoldable pub begin : Model → State → ℕ → Outcome
begin M S i = when_idle (slot_at S i) (accepted Done (turn S i S.clock S.cells (opened S.clock [] [])))

-- a read from the shared cell, which joins the read log
unfoldable pub read_shared : Model → State → ℕ → ℕ → ℕ → List ReadEntry → List WriteEntry → Outcome
read_shared M S i c start reads writes =
    refuse_if (leb read_capacity (length reads)) LogFull
    (refuse_if (held_by_other i (cell_at S c)) (ReadHeld (cell_at S c).holder)
    (refuse_if (newer start (cell_at S c)) ReadNewer
    (accepted (answer S c (cell_at S c).word)
    (turn S i S.clock S.cells (opened start (reads ++ (record { cell = c; mark = false; word = (cell_at S c).word } ∷ [])) writes)))))

-- 2 read: from the write log if the cell is there, else from the read log, else from the shared cell
unfoldable pub read : Model → State → ℕ → ℕ → Outcome
read M S i c =
    when_open (slot_at S i) λ start reads writes.
    inside_cells S c
    (found_or (write_entry writes c) (λ (e : WriteEntry). accepted (answer S c e.word) S)
    (found_or (read_entry reads c) (λ (e : ReadEntry). accepted (answer S c e.word) S)
    (read_shared M S i c start reads writes)))

-- 3 write: puts or replaces the value in the write log
unfoldable pub write : Model → State → ℕ → ℕ → CellValue → Outcome
write M S i c v =
    when_open (slot_at S i) λ start reads writes.
    inside_cells S c
    (fitting_value S c v
    (refuse_if (not (writes_cell writes c) and leb write_capacity (length writes)) LogFull
    (accepted Done (turn S i S.clock S.cells (opened start reads (put_write (record { cell = c; word = word_of v }) writes))))))

-- a write whose kind or word is illegal
unfoldable pub illegal_write : Model → State → ℕ → ℕ → Outcome
illegal_write M S i c = when_open (slot_at S i) λ start reads writes. inside_cells S c (refused IllegalValue)

-- 4 close: locking, none taken
unfoldable pub close : Model → State → ℕ → Outcome
close M S i =
    when_open (slot_at S i) λ start reads writes. accepted Done (turn S i S.clock S.cells (locking 0 start reads writes))

-- 5 lock, while some are missing: takes the lowest cell of the write log not yet taken
unfoldable pub lock : Model → State → ℕ → Outcome
lock M S i =
    when_locking (slot_at S i) λ taken start reads writes.
    refuse_if (leb (length writes) taken) NotAllowed
    (let c = (get_or writes taken no_write).cell in
    refuse_if (held_by_other i (cell_at S c)) (LockHeld c (cell_at S c).holder)
    (accepted Done (turn S i S.clock (set S.cells c (taken_by i (cell_at S c))) (locking (suc taken) start reads writes))))

-- 6 enter, when none is missing: clock + 1 becomes clock and commit stamp; marks; taken := 0, so that twilight has none. Answers kind 1, word 1 if nothing is marked, else 0
unfoldable pub enter : Model → State → ℕ → Outcome
enter M S i =
    when_locking (slot_at S i) λ taken start reads writes.
    refuse_if (ltb taken (length writes)) NotAllowed
    (below_last_stamp M S
    (let entries = map (with_mark S i start) reads in
    accepted (Verdict (not (some_marked entries)))
    (turn S i (suc S.clock) S.cells (twilight false start (suc S.clock) entries writes))))

-- 7 reread: the read log's value of the cell
unfoldable pub reread : Model → State → ℕ → ℕ → Outcome
reread M S i c =
    when_twilight (slot_at S i) λ ignoring start commit reads writes.
    inside_cells S c
    (in_log (read_entry reads c) λ (e : ReadEntry). accepted (answer S c e.word) S)

-- 8 update: replaces the cell's value in the write log
unfoldable pub update : Model → State → ℕ → ℕ → CellValue → Outcome
update M S i c v =
    when_twilight (slot_at S i) λ ignoring start commit reads writes.
    inside_cells S c
    (fitting_value S c v
    (in_log (write_entry writes c) λ (e : WriteEntry).
    accepted Done
    (turn S i S.clock S.cells
    (twilight ignoring start commit reads (put_write (record { cell = c; word = word_of v }) writes)))))

-- an update whose kind or word is illegal
unfoldable pub illegal_update : Model → State → ℕ → ℕ → Outcome
illegal_update M S i c = when_twilight (slot_at S i) λ ignoring start commit reads writes. inside_cells S c (refused IllegalValue)

-- 9 ask: kind 1, word 1 if the entry is marked, else 0
unfoldable pub ask : Model → State → ℕ → ℕ → Outcome
ask M S i c =
    when_twilight (slot_at S i) λ ignoring start commit reads writes.
    inside_cells S c
    (in_log (read_entry reads c) λ (e : ReadEntry). accepted (Verdict e.mark) S)

-- 10 reload: every read entry takes its shared cell's present value (never its own written one), marks and the ignoring flag are cleared, clock + 1 becomes clock and the new commit
-- stamp; start stays
unfoldable pub reload : Model → State → ℕ → Outcome
reload M S i =
    when_twilight (slot_at S i) λ ignoring start commit reads writes.
    found_or (obstacle S i reads) (λ (e : ReadEntry). refused (ReloadHeld e.cell (cell_at S e.cell).holder))
    (below_last_stamp M S
    (accepted Done
    (turn S i (suc S.clock) S.cells
    (twilight false start (suc S.clock) (map (reloaded S) reads) writes))))

-- 11 ignore: sets the ignoring flag if any entry is marked; else changes nothing. "Ignore shall be refused if some marked cell is also in the slot's write log."
unfoldable pub ignore : Model → State → ℕ → Outcome
ignore M S i =
    when_twilight (slot_at S i) λ ignoring start commit reads writes.
    refuse_if (marked_written reads writes) MarkedWritten
    (cond (some_marked reads)
    (accepted Done (turn S i S.clock S.cells (twilight true start commit reads writes)))
    (accepted Done S))

-- publishing while a cell is unpublished, else idle
unfoldable pub publishing_or_idle : Bool → ℕ → ℕ → ℕ → List ReadEntry → List WriteEntry → Slot
publishing_or_idle ignoring taken start commit reads writes =
    cond (ltb taken (length writes)) (publishing ignoring taken start commit reads writes) idle

-- 12 finish: some mark and no flag: frees all held cells, idle, outcome 13. Else the transaction is committed: publishing, or idle at once if the write log
-- is empty
unfoldable pub finish : Model → State → ℕ → Outcome
finish M S i =
    when_twilight (slot_at S i) λ ignoring start commit reads writes.
    cond (some_marked reads and not ignoring)
    (accepted Aborted (turn S i S.clock (free_all i S.cells) idle))
    (accepted Done (turn S i S.clock S.cells (publishing_or_idle ignoring 0 start commit reads writes)))

-- 13 publish: the lowest unpublished cell gets its value and the commit stamp and is freed; after the last, idle
unfoldable pub publish : Model → State → ℕ → Outcome
publish M S i =
    when_publishing (slot_at S i) λ ignoring taken start commit reads writes.
    let e = get_or writes taken no_write in
    accepted Done
    (turn S i S.clock (set S.cells e.cell (published_as e.word commit (cell_at S e.cell)))
    (publishing_or_idle ignoring (suc taken) start commit reads writes))

-- 14 give up: frees all cells it holds, idle
unfoldable pub give_up : Model → State → ℕ → Outcome
give_up M S i = when_uncommitted (slot_at S i) (accepted Done (turn S i S.clock (free_all i S.cells) idle))
