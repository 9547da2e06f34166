-- The descriptions one after the other: the chunks of 5 bytes give the cells that are described.
use mathlib.Core.Bool.{Bool, true, false, ◌&&◌}
use mathlib.Core.List.{List, [], ◌∷◌, ◌++◌}
use mathlib.Core.Path.{◌≡◌, refl, sym, ap, ◌∙◌}
use Prim.Native.Nat.{ℕ, suc, ◌*◌, ◌<◌}
use native.Mathlib.Omega.{arith}
use lib.ListN.{length, get_or, drop, length-append, get_or-append}
use Rattle.std.specs.Iterator.{AlwaysYields}
use Rattle.std.specs.List.{list_all, enumerate_from}
use Rattle.std.specs.Slice.Iter.{chunks_exact_rest, chunks_exact_size, chunks_exact_steps}
use Rattle.std.specs.declared.slice.ChunksExact.{ChunksExact}
use Rattle.std.proofs.Math.Seq.{drop-append-add}
use Rattle.std.proofs.lemmas.Iterator.{YieldsList}
use Rattle.std.proofs.lemmas.List.{drop-append-le, length-drop}
use Rattle.std.proofs.lemmas.List.FromFn.{length-enumerate_from, get_or-enumerate_from}
use Rattle.wire.specs.Field.{be}
use Rattle.wire.proofs.Laws.Field.{be-front}
use Rattle.wire.proofs.Laws.Table.{get_or-tab}
use Rattle.slot.specs.Logic.{◌and◌, all}
use Rattle.rules.specs.State.{no_cell}
use Rattle.rules.specs.Area.{described_count, described_cell, described_cells}
use Rattle.rules.specs.declared.Cell.{Cell}
use Rattle.rules.proofs.LaidOut.{described-length, described-at}

-- a description is read alone as it is read before others
before-others : (d rest : List ℕ) → length d ≡ 5 → described_cell (d ++ rest) ≡ described_cell d
unfolding described_cell
before-others d rest size =
    let kind : get_or (d ++ rest) 0 0 ≡ get_or d 0 0 = get_or-append d rest 0 0 (omega arith) in
    let word : be 4 (drop 1 (d ++ rest)) ≡ be 4 (drop 1 d) =
    ap (be 4) (drop-append-le 1 d rest (omega arith)) ∙ be-front 4 (drop 1 d) rest (rw length-drop (omega arith)) in
    λ i. record { kind = kind i; holder = 0; word = word i; stamp = 0 }

yielded : (cells : List Cell) (s : ChunksExact ℕ) → chunks_exact_size s ≡ 5 → length cells ≡ described_count (chunks_exact_rest s)
    → ((k : ℕ) → k < length cells → get_or cells k no_cell ≡ described_cell (drop (5 * k) (chunks_exact_rest s)))
    → AlwaysYields (chunks_exact_steps {A = ℕ}) (λ d. described_cell d.now) s cells
yielded [] s size count each = λ d t step.
    let long = ap length step.1.0 ∙ length-append d.now (chunks_exact_rest t) in
    let whole = step.1.1 in
    omega arith
yielded (x ∷ cells) s size count each = (
  λ t step. let short = step.1.0 in omega arith,
  λ d t step.
      let long = ap length step.1.0 ∙ length-append d.now (chunks_exact_rest t) in
      let whole : length d.now ≡ 5 = step.1.1 ∙ size in (
        sym (each 0 (omega arith) ∙ ap described_cell step.1.0 ∙ before-others d.now (chunks_exact_rest t) whole),
        yielded cells t (step.0 ∙ size) (omega arith)
            (λ k h.
            let past : drop (5 * suc k) (d.now ++ chunks_exact_rest t) ≡ drop (5 * k) (chunks_exact_rest t) =
            ap (λ (n : ℕ). drop n (d.now ++ chunks_exact_rest t)) (omega arith) ∙ drop-append-add d.now (chunks_exact_rest t) (5 * k) in
            each (suc k) (omega arith) ∙ ap (λ (l : List ℕ). described_cell (drop (5 * suc k) l)) step.1.0 ∙ ap described_cell past),
      ),
)

pub cells-yielded : {s : ChunksExact ℕ} (ds : List ℕ) → chunks_exact_rest s ≡ ds → chunks_exact_size s ≡ 5
    → YieldsList (chunks_exact_steps {A = ℕ}) (λ d. described_cell d.now) s (described_cells ds)
cells-yielded {s} ds rest size =
    record {
      runs = yielded (described_cells ds) s size (described-length ds ∙ ap described_count (sym rest))
          (λ k h. described-at ds k (rw (described-length ds) at h) ∙ ap (λ (l : List ℕ). described_cell (drop (5 * k) l)) (sym rest));
    }

-- the place and the cell at turn k, where each description is given with its place
pub cell-turn : (ds : List ℕ) (k c : ℕ) (x : Cell) → (k < length (enumerate_from 0 (described_cells ds))) × ((c, x) ≡ get_or (enumerate_from 0 (described_cells ds)) k (c, x))
    → (c ≡ k) × (x ≡ described_cell (drop (5 * k) ds))
unfolding described_cells
cell-turn ds k c x turn =
    let inside : k < length (described_cells ds) = rw length-enumerate_from at turn.0 in
    let pair = turn.1 ∙ get_or-enumerate_from 0 (described_cells ds) k (c, x) inside in
    (ap (λ (p : ℕ × Cell). p.0) pair ∙ omega arith, ap (λ (p : ℕ × Cell). p.1) pair ∙ get_or-tab (described_count ds) (λ j. described_cell (drop (5 * j) ds)) x k (rw (described-length ds) at inside))

-- the library's word for every element, and the rules'
pub all-listed : {A : Type 0} (f : A → Bool) (l : List A) → list_all f l ≡ all f l
unfolding all ◌and◌
all-listed f [] = refl
all-listed f (x ∷ l) = rest (f x) (list_all f l) (all f l) (all-listed f l)
  where
    rest : (b p q : Bool) → p ≡ q → (b && p) ≡ (b and q)
    rest true p q e = e
    rest false p q e = refl
