-- `store_fields` meets its contract: the fields are put before the logs, which stay; an idle slot is put whole.
use Rattle.stores.proofs.Stored.{cleared-stored, fields-stored}
use Rattle.stores.proofs.store_fields.Goals as goal

pub returns-then-v-eq0 : goal.returns-then-v-eq0
returns-then-v-eq0 c = cleared-stored c.requires.good.0 c.requires.good.1 c.offset-at.ensures c.args.v _ c.if-v-eq0.true c.requires.v_value c.clear.ensures

pub returns : goal.returns
returns c = fields-stored c.requires.good.0 c.requires.good.1 c.offset-at.ensures c.args.v _ c.if-v-eq0.false c.requires.v_value c.put_fields.ensures
