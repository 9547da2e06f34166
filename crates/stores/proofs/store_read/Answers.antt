-- `store_read` meets its contract: the fields are put before the logs, and the entry at its place in the read log.
use Rattle.stores.proofs.Stored.{read-stored}
use Rattle.stores.proofs.store_read.Goals as goal

pub returns : goal.returns
returns c =
    read-stored c.requires.good.0 c.requires.good.1 c.offset-at.ensures c.args.v _ _ c.put_fields.ensures _ c.from-last.ensures c.requires.good.2 c.requires.good.3 c.requires.v_value
    c.put_read.ensures
