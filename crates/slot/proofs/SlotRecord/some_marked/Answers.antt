-- `some_marked` meets its contract: the chain goes through the entries of the read log.
use mathlib.Core.Path.{◌∙◌}
use Rattle.std.proofs.Common.{rules}
use Rattle.std.proofs.lemmas.Iterator.{YieldsList-from_slice, YieldsList-from_take}
use Rattle.std.proofs.lemmas.Iterator.Consumers.{YieldsList-at}
use Rattle.std.proofs.lemmas.Iterator.Search.{any_from_yields_List}
use borrow.Author.Tests.{tests}
use Rattle.slot.specs.Logs.{some_marked}
use Rattle.slot.specs.declared.ReadEntry.{ReadEntry}
use Rattle.slot.proofs.Logic.{any-listed}
use Rattle.slot.proofs.SlotRecord.some_marked.Goals as goal

pub returns : goal.returns
unfolding some_marked
returns c =
    any_from_yields_List (λ (e : ReadEntry). e.mark) _ _ _ c.any.ensures.ran
    (YieldsList-from_take c.args.self.readcount (YieldsList-at c.take.ensures.source (YieldsList-from_slice c.args.self.reads cc)) cc)
    (λ x b q k. search (rules, tests))
    ∙ any-listed _ _
