-- A read log with its entries changed: the changed entries, one for each, and zero behind them.
use mathlib.Core.List.{List, ◌++◌, map}
use mathlib.Core.Path.{◌≡◌, sym, ap, ◌∙◌}
use Prim.Native.Nat.{ℕ, ◌-◌, ◌≤◌}
use lib.ListN.{length, get_or, take, drop, replicate, length-map, get_or-map}
use lib.Seq.{length-take-le, get_or-take}
use Rattle.std.proofs.lemmas.List.{drop-replicate}
use Rattle.wire.specs.Table.{tab}
use Rattle.wire.proofs.Laws.Table.{tab-ext, tab-of}
use Rattle.slot.specs.Layout.{read_capacity, no_read}
use Rattle.slot.specs.Logs.{padded_reads}
use Rattle.slot.specs.declared.ReadEntry.{ReadEntry}

module _ (f : ReadEntry → ReadEntry) (reads : List ReadEntry) (n : ℕ) (h : n ≤ length reads) where
  front_length : length (map f (take n reads)) ≡ n
  front_length = length-map (take n reads) f ∙ length-take-le n reads h

  front-changed : tab n (λ k. f (get_or reads k no_read)) ≡ map f (take n reads)
  front-changed =
      tab-ext n (λ k. f (get_or reads k no_read)) (λ k. get_or (map f (take n reads)) k (f no_read))
      (λ k below. sym (get_or-map f (take n reads) k no_read ∙ ap f (get_or-take n reads k no_read below)))
      ∙ tab-of n (map f (take n reads)) (f no_read) front_length

  pub filled : (items : List ReadEntry) → items ≡ tab n (λ k. f (get_or reads k no_read)) → items ++ drop n (replicate read_capacity no_read) ≡ padded_reads (map f (take n reads))
  filled items e =
      ap (λ (front : List ReadEntry). front ++ drop n (replicate read_capacity no_read)) (e ∙ front-changed)
      ∙ ap (λ (rest : List ReadEntry). map f (take n reads) ++ rest)
      (drop-replicate n read_capacity no_read ∙ ap (λ (m : ℕ). replicate (read_capacity - m) no_read) (sym front_length))
