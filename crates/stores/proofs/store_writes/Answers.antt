-- `store_writes` meets its contract: the fields and the write log are put, and the read log between them stays.
use Rattle.stores.proofs.Stored.{writes-stored}
use Rattle.stores.proofs.store_writes.Goals as goal

pub returns : goal.returns
returns c =
    writes-stored c.requires.good.0 c.requires.good.1 c.offset-at.ensures c.args.v _ _ c.put_fields.ensures c.requires.v_value c.put_writes.ensures
