-- What the operation answers, as the one number that C gets: the group that is levelled, of kind 2, or why nothing is levelled.
use Rattle.std.specs.Prelude.{ℕ, ◌+◌, ◌*◌, ◌^◌, Result, Ok, Err}
use Rattle.call.specs.Answer.{refusal_code, refusal_kind, refusal_word, side_by_side}
use Rattle.level.specs.declared.Unlevelled.{Unlevelled}
use Rattle.level.specs.declared.Unlevelled.TheVariants.{NotWellFormed, BadSet, NoSuchSlot, NotOpenAndEmpty, Core, NegativeCount, NoneLeft}

-- a place in the set, and code, kind and word as the core puts them side by side
abbrev pub at_place : ℕ → ℕ → ℕ → ℕ → ℕ
at_place place code kind word = place * 2 ^ 48 + side_by_side code kind word

abbrev pub number_in : Result ℕ Unlevelled → ℕ
number_in (Ok group) = at_place 0 0 2 group
number_in (Err NotWellFormed) = at_place 0 1 0 0
number_in (Err BadSet) = at_place 0 32 0 0
number_in (Err NoSuchSlot) = at_place 0 3 0 0
number_in (Err NotOpenAndEmpty) = at_place 0 4 0 0
number_in (Err (Core place refusal)) = at_place place (refusal_code refusal) (refusal_kind refusal) (refusal_word refusal)
number_in (Err (NegativeCount place)) = at_place place 33 0 0
number_in (Err NoneLeft) = at_place 0 34 0 0
