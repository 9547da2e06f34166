-- `find_read` meets its contract: the chain goes through the entries of the read log.
use mathlib.Core.Path.{◌∙◌, refl, ap, sym}
use Rattle.std.specs.List.{find}
use Rattle.std.proofs.Common.{rules}
use Rattle.std.proofs.lemmas.Iterator.{YieldsList-from_range, YieldsList-from_map}
use Rattle.std.proofs.lemmas.Iterator.Adapters.{option_map_id}
use Rattle.std.proofs.lemmas.Iterator.Consumers.{YieldsList-at}
use Rattle.std.proofs.lemmas.Iterator.Search.{find_from_yields_List}
use borrow.Author.Tests.{tests}
use lib.Dec.{eqb}
use native.Mathlib.Omega.{arith}
use Rattle.slot.specs.Logs.{read_log, read_entry}
use Rattle.slot.specs.declared.ReadEntry.{ReadEntry}
use Rattle.slot.proofs.Search.{find-listed}
use Rattle.packed.specs.Places.{slot_in, read_entry_at}
use Rattle.packed.proofs.InLog.{reads-listed}
use Rattle.packed.proofs.find_read.Goals as goal

pub returns : goal.returns
unfolding read_entry
returns c =
    sym (option_map_id c.find.result)
    ∙ find_from_yields_List (λ (e : ReadEntry). eqb e.cell c.args.cell) _ _ c.find.result c.find.ensures.ran
    (YieldsList-from_map _ (read_entry_at c.args.width c.args.at c.args.s.now)
    (YieldsList-at c.map.ensures.source (YieldsList-from_range 0 c.min-count.result c.min-count.result refl (omega arith)))
    c.map.ensures.closure (λ x r q k. search rules))
    (λ x b q k. search (rules, tests))
    ∙ ap (find (λ (e : ReadEntry). eqb e.cell c.args.cell)) (reads-listed c.args.width c.args.at c.args.s.now c.min-count.ensures c.from.ensures)
    ∙ find-listed (λ (e : ReadEntry). eqb e.cell c.args.cell) (read_log (slot_in c.args.width c.args.at c.args.s.now))
