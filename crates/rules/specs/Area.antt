-- The area's round trip, the step on bytes and the lay-out on bytes: total for any bytes.
use Rattle.std.specs.Prelude.{Bool, cond, List, ℕ, ◌*◌, ◌/◌, eqb, length, get_or, drop, replicate, Err, Ok}
use Rattle.std.proofs.Math.Option.{Option, none, some}
use Rattle.value.specs.Legal.{legal_word}
use Rattle.call.specs.Answer.{Reply}
use Rattle.call.specs.declared.Refusal.TheVariants.{NotWellFormed}
use Rattle.wire.specs.Field.{be}
use Rattle.wire.specs.Table.{tab}
use Rattle.slot.specs.Logic.{◌and◌, all}
use Rattle.rules.specs.Model.{Model, area_length}
use Rattle.rules.specs.State.{State, idle}
use Rattle.rules.specs.Outcome.{Outcome, refused, accepted}
use Rattle.rules.specs.Step.{Call, step}
use Rattle.rules.specs.LogsRight.{cell_count_right}
use Rattle.rules.specs.StateRight.{is_idle}
use Rattle.rules.specs.Layout.{pack, state_of}
use Rattle.rules.specs.AreaRight.{well_formed}
use Rattle.rules.specs.declared.Cell.{Cell}

-- the state in an area that is well formed
unfoldable pub unpack : Model → List ℕ → Option State
unpack M a = cond (well_formed M a) (some (state_of M a)) none

-- At rest means well formed with all slots idle.
unfoldable pub at_rest : Model → List ℕ → Bool
at_rest M a = well_formed M a and all is_idle (state_of M a).slots

-- a reply, and the area after it
pub record Answered : Type 0 where
  pub reply : Reply
  pub bytes : List ℕ

-- a refusal leaves the area untouched; else it holds the state after the step
abbrev pub answered : Model → List ℕ → Outcome → Answered
answered M a (refused r) = record { reply = Err r; bytes = a }
answered M a (accepted r S) = record { reply = Ok r; bytes = pack M S }

-- code 1: the area is not well formed
unfoldable pub step_on_bytes : Model → List ℕ → Call → Answered
step_on_bytes M a call =
    cond (well_formed M a) (answered M a (step M (state_of M a) call)) (record { reply = Err NotWellFormed; bytes = a })

-- descriptions of 5 bytes, kind and word
abbrev pub description_size : ℕ
description_size = 5

abbrev pub described_count : List ℕ → ℕ
described_count ds = length ds / description_size

-- a fresh cell: free, stamp 0
unfoldable pub described_cell : List ℕ → Cell
described_cell l = record { kind = get_or l 0 0; holder = 0; word = be 4 (drop 1 l); stamp = 0 }

unfoldable pub described_cells : List ℕ → List Cell
described_cells ds = tab (described_count ds) (λ i. described_cell (drop (description_size * i) ds))

-- clock and stamps 0, at rest
abbrev pub fresh : Model → List Cell → State
fresh M cells = record { clock = 0; cells = cells; slots = replicate M.slots idle }

-- the descriptions are 5 × n bytes with n from 1 to 64, and the area has the right length
unfoldable pub lengths_fit : Model → List ℕ → List ℕ → Bool
lengths_fit M a ds =
    eqb (description_size * described_count ds) (length ds)
    and cell_count_right M (described_count ds)
    and eqb (length a) (area_length M (described_count ds))

-- the lay-out's plain code, and the area after it
pub record Laying : Type 0 where
  pub code : ℕ
  pub bytes : List ℕ

-- 1 for a wrong length, then 6 for an illegal kind or word, else 0; a refusal writes nothing
unfoldable pub lay_out : Model → List ℕ → List ℕ → Laying
lay_out M a ds =
    cond (lengths_fit M a ds)
    (cond (all (λ (x : Cell). legal_word x.kind x.word) (described_cells ds))
    (record { code = 0; bytes = pack M (fresh M (described_cells ds)) })
    (record { code = 6; bytes = a }))
    (record { code = 1; bytes = a })
