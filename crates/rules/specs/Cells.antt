-- The cells, and what they say of the logs' entries.
use Rattle.std.specs.Prelude.{Bool, false, not, cond, List, map, ℕ, suc, eqb, ltb}
use Rattle.std.proofs.Math.Option.{Option}
use Rattle.slot.specs.declared.ReadEntry.{ReadEntry}
use Rattle.slot.specs.Logic.{◌and◌, ◌or◌, first}
use Rattle.rules.specs.State.{State, cell_at}
use Rattle.rules.specs.declared.Cell.{Cell}

-- a cell is held by a slot other than i; it has a stamp above start
unfoldable pub held_by_other : ℕ → Cell → Bool
unfolding ◌and◌
held_by_other i x = not (eqb x.holder 0) and not (eqb x.holder (suc i))

unfoldable pub newer : ℕ → Cell → Bool
newer start x = ltb start x.stamp

-- enter marks each read entry whose cell is held by another slot or has a stamp above start
unfoldable pub with_mark : State → ℕ → ℕ → ReadEntry → ReadEntry
unfolding ◌or◌ held_by_other newer
with_mark S i start e =
    record { cell = e.cell; mark = held_by_other i (cell_at S e.cell) or newer start (cell_at S e.cell); word = e.word }

-- reload gives each read entry its shared cell's present value, and clears its mark
unfoldable pub reloaded : State → ReadEntry → ReadEntry
reloaded S e = record { cell = e.cell; mark = false; word = (cell_at S e.cell).word }

-- the first entry of the read log whose cell is held by another slot
unfoldable pub obstacle : State → ℕ → List ReadEntry → Option ReadEntry
unfolding first held_by_other
obstacle S i reads = first (λ (e : ReadEntry). held_by_other i (cell_at S e.cell)) reads

-- a cell with slot i as its holder; freed; with a published word and its commit stamp, freed
abbrev pub taken_by : ℕ → Cell → Cell
taken_by i x = record { kind = x.kind; holder = suc i; word = x.word; stamp = x.stamp }

abbrev pub freed : Cell → Cell
freed x = record { kind = x.kind; holder = 0; word = x.word; stamp = x.stamp }

abbrev pub published_as : ℕ → ℕ → Cell → Cell
published_as word commit x = record { kind = x.kind; holder = 0; word = word; stamp = commit }

-- all cells that slot i holds are freed
unfoldable pub free_all : ℕ → List Cell → List Cell
free_all i cells = map (λ (x : Cell). cond (eqb x.holder (suc i)) (freed x) x) cells
