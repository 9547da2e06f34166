-- A publishing slot of a good area has a cell left, which is a cell of the area: the fields after it are stored, and with them the published cell.
use mathlib.Core.Path.{refl, ◌∙◌}
use native.Mathlib.Omega.{arith}
use Rattle.slot.proofs.Laws.Fields.{published-fields}
use Rattle.rules.specs.Model.{controller}
use Rattle.rules.specs.State.{slot_at}
use Rattle.rules.specs.Layout.{lay}
use Rattle.area.specs.Good.{state_in}
use Rattle.ways.proofs.Fields.{fields, entry_at}
use Rattle.ways.proofs.Done.{leaves}
use Rattle.ending.proofs.Ways.{published-stands, publish-0, next_of}
use Rattle.ending.proofs.publish.Goals as goal

pub write_entry-e-requires : goal.write_entry-e-requires
write_entry-e-requires c =
    let f = fields (lay (slot_at (state_in c.args.s.now) c.args.i)) c.fields-v.ensures in
    let next = next_of c.requires.0 c.requires.1 refl c.in_ok-in_phase.ensures in
    omega arith

pub cell_at-x-requires : goal.cell_at-x-requires
cell_at-x-requires c =
    let f = fields (lay (slot_at (state_in c.args.s.now) c.args.i)) c.fields-v.ensures in
    let next = next_of c.requires.0 c.requires.1 refl c.in_ok-in_phase.ensures in
    let entry = entry_at f c.write_entry-e.ensures in
    (c.requires.0, rw (← entry) next.inside)

pub published_one-requires : goal.published_one-requires
published_one-requires c =
    let f = fields (lay (slot_at (state_in c.args.s.now) c.args.i)) c.fields-v.ensures in
    let next = next_of c.requires.0 c.requires.1 refl c.in_ok-in_phase.ensures in
    omega arith

pub store_fields_cell-requires-clause-good : goal.store_fields_cell-requires-clause-good
store_fields_cell-requires-clause-good c =
    let f = fields (lay (slot_at (state_in c.args.s.now) c.args.i)) c.fields-v.ensures in
    let next = next_of c.requires.0 c.requires.1 refl c.in_ok-in_phase.ensures in
    let entry = entry_at f c.write_entry-e.ensures in
    (c.requires.0, c.requires.1, rw (← entry) next.inside)

pub store_fields_cell-requires-clause-v_value : goal.store_fields_cell-requires-clause-v_value
store_fields_cell-requires-clause-v_value c =
    let p = c.in_ok-in_phase.ensures in
    (published-stands (slot_at (state_in c.args.s.now) c.args.i) _ refl p (published-fields _ c.fields-v.ensures p c.published_one.ensures)).kept

pub returns : goal.returns
returns c =
    let v = lay (slot_at (state_in c.args.s.now) c.args.i) in
    let f = fields v c.fields-v.ensures in
    let p = c.in_ok-in_phase.ensures in
    let next = next_of c.requires.0 c.requires.1 refl p in
    let entry = entry_at f c.write_entry-e.ensures in
    leaves _ (publish-0 controller _ _ refl p (next.logged ∙ entry) c.cell_at-x.ensures f.commit (published-fields v c.fields-v.ensures p c.published_one.ensures)) c.store_fields_cell.ensures
