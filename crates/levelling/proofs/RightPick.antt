-- A read log that begins with a set's cells. Where its entries of the set are what the replay holds just before a stamp, the group that was picked is the pick of those words too.
use mathlib.Core.List.{List, [], ◌∷◌, map}
use mathlib.Core.Path.{◌≡◌, refl, sym, ◌∙◌, ap}
use Prim.Native.Nat.{ℕ, zero, suc, pred, ◌<◌}
use native.Mathlib.Nat.{not-suc-le-zero, le_of_suc-le-suc}
use native.Mathlib.Omega.{arith}
use lib.ListN.{length, get_or, take, length-map, length-take, get_or-map}
use lib.Seq.{get_or-take}
use Rattle.slot.specs.declared.ReadEntry.{ReadEntry}
use Rattle.slot.specs.Layout.{no_read}
use Rattle.slot.specs.Logic.{All}
use Rattle.rules.specs.State.{State}
use Rattle.history.specs.History.{Event, Commit, replay}
use Rattle.pick.proofs.Alike.{Alike, negative-alike, picked-alike}
use Rattle.pick.proofs.PicksRight.{picks-right}
use Rattle.wearset.specs.WearSet.{group_count}
use Rattle.levelling.specs.CountsUp.{words_read, cells_read, words_before, LevelsWith, RightPick}

-- what a function gives at each place of a list
at_place : (f : ℕ → ℕ) (set : List ℕ) (k : ℕ) → k < length set → get_or (map f set) k 0 ≡ f (get_or set k 0)
at_place f [] k h = absurd (not-suc-le-zero h)
at_place f (c ∷ set) zero h = refl
at_place f (c ∷ set) (suc k) h = at_place f set k (le_of_suc-le-suc h)

-- what holds of each entry of a read log
entry_has : (P : ReadEntry → Type 0) (reads : List ReadEntry) → All P reads → (k : ℕ) → k < length reads → P (get_or reads k no_read)
entry_has P [] all k h = absurd (not-suc-le-zero h)
entry_has P (e ∷ reads) all zero h = all.0
entry_has P (e ∷ reads) all (suc k) h = entry_has P reads all.1 k (le_of_suc-le-suc h)

-- a read log that begins with a set's cells
module _ (reads : List ReadEntry) (set : List ℕ) (cells : take (length set) (cells_read reads) ≡ set) (k : ℕ) (inside : k < length set) where
  -- what holds of each entry holds of the one at a place of the set ..
  pub set-has : (P : ReadEntry → Type 0) → All P reads → P (get_or reads k no_read)
  set-has P all =
      let cut = length-take (length set) (cells_read reads) in
      let same = ap length cells in
      let whole = length-map reads (λ (e : ReadEntry). e.cell) in
      entry_has P reads all k (omega arith)

  -- .. whose cell is the set's ..
  pub set-cell : (get_or reads k no_read).cell ≡ get_or set k 0
  set-cell =
      sym (get_or-map (λ (e : ReadEntry). e.cell) reads k no_read)
      ∙ sym (get_or-take (length set) (cells_read reads) k 0 inside)
      ∙ ap (λ (l : List ℕ). get_or l k 0) cells

  -- .. and its word what f has there, if it has that at the entry's cell
  pub set_word : (f : ℕ → ℕ) → (get_or reads k no_read).word ≡ f (get_or reads k no_read).cell → get_or (words_read reads) k 0 ≡ f (get_or set k 0)
  set_word f had = get_or-map (λ (e : ReadEntry). e.word) reads k no_read ∙ had ∙ ap f set-cell

-- a commit whose entries of the set are what the replay holds just before its stamp
pub right-pick : (S : State) (events : List Event) (x : Commit) (set : List ℕ) (g : ℕ) → LevelsWith set g x.reads x.writes
    → ((k : ℕ) → k < length set → (get_or x.reads k no_read).word ≡ replay S events (pred x.stamp) (get_or x.reads k no_read).cell)
    → RightPick S events x.stamp set g
right-pick S events x set g levels had =
    let words : List ℕ = words_before S events x.stamp set in
    let f : ℕ → ℕ = replay S events (pred x.stamp) in
    let alike : Alike (words_read x.reads) words (group_count set) =
    λ k h.
    let inside : k < length set = omega arith in
    set_word x.reads set levels.cells k inside f (had k inside) ∙ sym (at_place f set k inside) in
    let pick = sym (picked-alike (words_read x.reads) words (group_count set) alike) ∙ levels.pick in
    record {
      sound = sym (negative-alike (words_read x.reads) words (group_count set) alike) ∙ levels.sound;
      pick = pick;
      least = picks-right.pick words (group_count set) g pick;
    }
