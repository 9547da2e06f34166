-- `put_fresh` meets its contract: the three parts are put one after the other over the whole area.
use Rattle.fresh.proofs.Parts.{laid_out}
use Rattle.fresh.proofs.put_fresh.Goals as goal

pub returns : goal.returns
returns c =
    laid_out c.args.ds.now c.args.s.now c.put_header.new.s c.put_described.new.s c.put_idle.new.s
    c.requires.1 c.put_header.ensures c.put_described.ensures c.put_idle.ensures
