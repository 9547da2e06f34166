-- What "well formed" says of a cell, of the logs and of the holders, for a state and for an area alike.
use Rattle.std.specs.Prelude.{Bool, not, List, ℕ, suc, eqb, ltb, leb, length, get_or}
use Rattle.value.specs.Legal.{legal_word}
use Rattle.slot.specs.declared.ReadEntry.{ReadEntry}
use Rattle.slot.specs.declared.WriteEntry.{WriteEntry}
use Rattle.slot.specs.Logic.{◌and◌, ◌or◌, same, every, all, pairwise}
use Rattle.slot.specs.Logs.{marked_written}
use Rattle.rules.specs.Model.{Model}
use Rattle.rules.specs.State.{no_cell}
use Rattle.rules.specs.declared.Cell.{Cell}

-- kinds and words legal; cell stamps at most the clock
unfoldable pub cell_right : ℕ → Cell → Bool
cell_right clock x = legal_word x.kind x.word and leb x.stamp clock

-- log cells below n, words legal: the kind of a log word is that of its cell
unfoldable pub logged_right : List Cell → ℕ → ℕ → Bool
logged_right cells c word = ltb c (length cells) and legal_word (get_or cells c no_cell).kind word

-- .. none twice in one log
unfoldable pub reads_right : List Cell → List ReadEntry → Bool
reads_right cells reads =
    all (λ (e : ReadEntry). logged_right cells e.cell e.word) reads
    and pairwise (λ (e f : ReadEntry). not (eqb e.cell f.cell)) reads

-- .. write log ascending, so that no cell stands there twice
unfoldable pub writes_right : List Cell → List WriteEntry → Bool
writes_right cells writes =
    all (λ (e : WriteEntry). logged_right cells e.cell e.word) writes
    and pairwise (λ (e f : WriteEntry). ltb e.cell f.cell) writes

-- "An area with the flag set in such a state is not well formed": the flag is 1 only if no marked cell is also in the write log
unfoldable pub no_update_lost : Bool → List ReadEntry → List WriteEntry → Bool
no_update_lost ignoring reads writes = not ignoring or not (marked_written reads writes)

-- n from 1 to 64
unfoldable pub cell_count_right : Model → ℕ → Bool
cell_count_right M n = leb 1 n and leb n M.cells

-- the commit stamp is above start, at most the clock ..
unfoldable pub commit_between : ℕ → ℕ → ℕ → Bool
commit_between start commit clock = ltb start commit and leb commit clock

-- .. and different from any other slot's: a commit stamp (0 where there is none) and another's
unfoldable pub stamps_apart : ℕ → ℕ → Bool
stamps_apart k l = eqb k 0 or not (eqb k l)

-- Holders legal. A cell's holder is s exactly if slot s has to hold it: `holds s c`, with s counted from 0.
unfoldable pub holders_right : List Cell → ℕ → (ℕ → ℕ → Bool) → Bool
holders_right cells slots holds =
    every (length cells)
    (λ c. leb (get_or cells c no_cell).holder slots and every slots (λ s. same (eqb (get_or cells c no_cell).holder (suc s)) (holds s c)))
