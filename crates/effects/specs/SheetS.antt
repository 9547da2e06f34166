-- Sheet S of document 01 gives the seven lines of request #104.
use Rattle.std.specs.Prelude.{List, [], ◌∷◌, ◌≡◌, ℕ}
use Rattle.stage.specs.SheetS.{sheet_s}
use Rattle.effects.specs.Traced.{traced}

abbrev pub trace_of_s : List ℕ
trace_of_s =
    -- at 1 1
    97 ∷ 116 ∷ 32 ∷ 49 ∷ 32 ∷ 49 ∷ 10
    -- r 1 1 0
    ∷ 114 ∷ 32 ∷ 49 ∷ 32 ∷ 49 ∷ 32 ∷ 48 ∷ 10
    -- at 2 2
    ∷ 97 ∷ 116 ∷ 32 ∷ 50 ∷ 32 ∷ 50 ∷ 10
    -- co 2 2 1 0
    ∷ 99 ∷ 111 ∷ 32 ∷ 50 ∷ 32 ∷ 50 ∷ 32 ∷ 49 ∷ 32 ∷ 48 ∷ 10
    -- r 1 1 1
    ∷ 114 ∷ 32 ∷ 49 ∷ 32 ∷ 49 ∷ 32 ∷ 49 ∷ 10
    -- rl 1 1
    ∷ 114 ∷ 108 ∷ 32 ∷ 49 ∷ 32 ∷ 49 ∷ 10
    -- co 1 1 3 1
    ∷ 99 ∷ 111 ∷ 32 ∷ 49 ∷ 32 ∷ 49 ∷ 32 ∷ 51 ∷ 32 ∷ 49 ∷ 10 ∷ []

abbrev pub SheetS : Type 0
SheetS = traced sheet_s ≡ trace_of_s
