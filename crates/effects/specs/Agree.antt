-- A trace agrees with demand 3: its `co` lines are the commits of the same history and its `r` lines the reads from shared cells, in the same order.
use mathlib.Core.List.{List, [], ◌∷◌, map, flat_map}
use Rattle.std.specs.Prelude.{◌≡◌, ℕ}
use Rattle.history.specs.History.{Event, Commit, commits, SharedRead, shared_reads}
use Rattle.effects.specs.Effects.{Effect, begun, read_shared, reloaded, committed, aborted, written_cells, effects}

-- a stamp and the written cells
pub record ShownCommit : Type 0 where
  pub stamp : ℕ
  pub cells : List ℕ

-- what a `co` line shows, and what of a commit it shows
abbrev pub commit_shown : Effect → List ShownCommit
commit_shown (begun slot number) = []
commit_shown (read_shared slot number cell) = []
commit_shown (reloaded slot number) = []
commit_shown (committed slot number stamp cells) = record { stamp = stamp; cells = cells } ∷ []
commit_shown (aborted slot number) = []

abbrev pub shown_of : Commit → ShownCommit
shown_of x = record { stamp = x.stamp; cells = written_cells x.writes }

-- the cell of an `r` line
abbrev pub cell_shown : Effect → List ℕ
cell_shown (begun slot number) = []
cell_shown (read_shared slot number cell) = cell ∷ []
cell_shown (reloaded slot number) = []
cell_shown (committed slot number stamp cells) = []
cell_shown (aborted slot number) = []

-- of all lines
abbrev pub commits_shown : List Effect → List ShownCommit
commits_shown effects = flat_map commit_shown effects

abbrev pub cells_shown : List Effect → List ℕ
cells_shown effects = flat_map cell_shown effects

-- of any history
pub record Agrees : Type 0 where
  pub commits_agree : (events : List Event) → commits_shown (effects events) ≡ map shown_of (commits events)
  pub reads_agree : (events : List Event) → cells_shown (effects events) ≡ map (λ (r : SharedRead). r.cell) (shared_reads events)
