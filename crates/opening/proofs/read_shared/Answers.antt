-- `read_shared` meets its contract: the tests in the order of the codes, and then the entry joins the read log.
use mathlib.Core.Path.{refl}
use Prim.Native.Nat.{◌<◌, ◌≤◌}
use native.Mathlib.Omega.{arith}
use Rattle.slot.specs.Layout.{read_capacity}
use Rattle.slot.proofs.Laws.Fields.{joined-fields}
use Rattle.rules.specs.Model.{controller}
use Rattle.rules.specs.State.{slot_at}
use Rattle.rules.specs.Layout.{lay}
use Rattle.area.specs.Good.{state_in}
use Rattle.ways.proofs.Fields.{fields}
use Rattle.ways.proofs.Done.{leaves}
use Rattle.opening.proofs.Ways.{joined-stands, shared-0}
use Rattle.opening.proofs.read_shared.Goals as goal

pub store_read-requires-clause-v_value : goal.store_read-requires-clause-v_value
store_read-requires-clause-v_value c =
    let v = lay (slot_at (state_in c.args.s.now) c.args.i) in
    let f = fields v c.fields-v.ensures in
    let room : v.readcount < read_capacity = omega (arith, c.if-from-ge-READS.false, c.from.ensures) in
    let x = slot_at (state_in c.args.s.now) c.args.i in
    (joined-stands x v refl c.requires.i_value.0 _ room (joined-fields v c.fields-v.ensures _ room c.joined.ensures)).kept

pub returns : goal.returns
returns c =
    let v = lay (slot_at (state_in c.args.s.now) c.args.i) in
    let f = fields v c.fields-v.ensures in
    let room : v.readcount < read_capacity = omega (arith, c.if-from-ge-READS.false, c.from.ensures) in
    let older : c.args.x.stamp ≤ v.start = omega (arith, c.if-v-x.false) in
    leaves _ (shared-0 controller _ _ refl _ room _ c.requires.i_value.1 c.held_by_other.ensures c.if-held_by_other.false older c.value_of.ensures
    c.requires.i_value.0 (joined-fields v c.fields-v.ensures _ room c.joined.ensures)) c.store_read.ensures
