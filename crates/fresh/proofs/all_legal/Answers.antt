-- `all_legal` meets its contract: the chunks are the descriptions, and each is tested as the definition tests it.
use mathlib.Core.Path.{◌∙◌}
use Rattle.std.proofs.Common.{rules}
use Rattle.std.proofs.lemmas.Iterator.Search.{all_from_yields_List}
use Rattle.rules.specs.Area.{described_cells}
use Rattle.fresh.specs.Parts.{legal_cell}
use Rattle.fresh.proofs.Descriptions.{cells-yielded, all-listed}
use Rattle.fresh.proofs.all_legal.Goals as goal

pub returns : goal.returns
returns c =
    all_from_yields_List legal_cell _ _ _ c.all.ensures.ran (cells-yielded c.args.ds.now c.chunks_exact.ensures.rest c.chunks_exact.ensures.size) (λ d b f called. search rules)
    ∙ all-listed legal_cell (described_cells c.args.ds.now)
