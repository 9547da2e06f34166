-- `some_marked` meets its contract: the chain goes through the entries of the read log.
use mathlib.Core.Path.{◌∙◌, refl, ap}
use Rattle.std.proofs.Common.{rules}
use Rattle.std.proofs.lemmas.Iterator.{YieldsList-from_range, YieldsList-from_map}
use Rattle.std.proofs.lemmas.Iterator.Consumers.{YieldsList-at}
use Rattle.std.proofs.lemmas.Iterator.Search.{any_from_yields_List}
use borrow.Author.Tests.{tests}
use native.Mathlib.Omega.{arith}
use Rattle.slot.specs.Logic.{any}
use Rattle.slot.specs.Logs.{some_marked}
use Rattle.slot.specs.declared.ReadEntry.{ReadEntry}
use Rattle.slot.proofs.Logic.{any-listed}
use Rattle.packed.specs.Places.{read_entry_at}
use Rattle.packed.proofs.InLog.{reads-listed}
use Rattle.packed.proofs.some_marked.Goals as goal

pub returns : goal.returns
unfolding some_marked
returns c =
    any_from_yields_List (λ (e : ReadEntry). e.mark) _ _ _ c.any.ensures.ran
    (YieldsList-from_map _ (read_entry_at c.args.width c.args.at c.args.s.now)
    (YieldsList-at c.map.ensures.source (YieldsList-from_range 0 c.min-count.result c.min-count.result refl (omega arith)))
    c.map.ensures.closure (λ x r q k. search rules))
    (λ x b q k. search (rules, tests))
    ∙ any-listed (λ (e : ReadEntry). e.mark) _
    ∙ ap (any (λ (e : ReadEntry). e.mark)) (reads-listed c.args.width c.args.at c.args.s.now c.min-count.ensures c.from.ensures)
