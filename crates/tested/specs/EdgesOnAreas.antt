-- E1 to E12 on areas: the table of the rules (`Edges`), of calls on the bytes of an area, and of calls of `crocktendril_step` one after the other.
use Rattle.std.specs.Prelude.{List, [], ◌∷◌, map, ◌≡◌, ℕ, ◌+◌, ◌*◌, ◌^◌, length}
use Rattle.std.proofs.Math.Option.{some}
use Rattle.wire.specs.Table.{cat}
use Rattle.rules.specs.Model.{controller}
use Rattle.rules.specs.State.{State}
use Rattle.rules.specs.Step.{Call}
use Rattle.rules.specs.Layout.{pack}
use Rattle.rules.specs.Area.{unpack, lay_out}
use Rattle.rules.specs.Run.{Shown, shown}
use Rattle.rules.specs.Edges.{two, seventeen, late, Edges}
use Rattle.history.specs.Keeps.{replies_on_bytes, bytes_after}
use Rattle.crocktendril.specs.Demands.{Made, in_turn, last_left}

-- what calls on the area of S are told; they end in the area of T
abbrev pub ToldOnAreas : State → List Call → List Shown → Type 0
ToldOnAreas S calls told = replies_on_bytes controller (pack controller S) calls ≡ told

abbrev pub EndsOnAreas : State → List Call → State → Type 0
EndsOnAreas S calls T = bytes_after controller (pack controller S) calls ≡ pack controller T

-- a reply as the one number that C gets
abbrev pub as_number : Shown → ℕ
as_number (shown code kind word) = code * 2 ^ 40 + kind * 2 ^ 32 + word

-- what `crocktendril_step` answers when C makes these calls in turn on the area of S; it leaves the area of T
abbrev pub ToldAtC : State → List Call → List Shown → Type 0
ToldAtC S calls told =
    (made : List Made) → map (λ (m : Made). m.call) made ≡ calls → in_turn (pack controller S) made
    → map (λ (m : Made). m.answer) made ≡ map as_number told

abbrev pub EndsAtC : State → List Call → State → Type 0
EndsAtC S calls T =
    (made : List Made) → map (λ (m : Made). m.call) made ≡ calls → in_turn (pack controller S) made
    → last_left (pack controller S) made ≡ pack controller T

pub record EdgesOnAreas : Type 0 where
  pub on_areas : Edges ToldOnAreas EndsOnAreas
  pub at_c : Edges ToldAtC EndsAtC
  -- any calls can be made in turn: `at_c` speaks of some
  pub can_be_made : (l : List ℕ) (calls : List Call) → (made : List Made) × (map (λ (m : Made). m.call) made ≡ calls) × in_turn l made
  -- The areas that the rows start from are what the lay-out leaves of an area of the right length, whatever stood there ..
  pub two_laid_out : (a : List ℕ) → length a ≡ 1618
      → lay_out controller a (2 ∷ 0 ∷ 0 ∷ 0 ∷ 5 ∷ 1 ∷ 0 ∷ 0 ∷ 0 ∷ 0 ∷ []) ≡ record { code = 0; bytes = pack controller two }
  pub seventeen_laid_out : (a : List ℕ) → length a ≡ 1828
      → lay_out controller a (cat 17 (λ c. 2 ∷ 0 ∷ 0 ∷ 0 ∷ 0 ∷ [])) ≡ record { code = 0; bytes = pack controller seventeen }
  -- .. but for E9's late clock, which no lay-out gives: its area is well formed, and has that state
  pub late_formed : unpack controller (pack controller late) ≡ some late
