use Rattle.std.proofs.Common.{◌∙◌, ◌<◌, ◌≤◌, refl, length, ap, sym, arith}
use Rattle.ep_defs.specs.declared.event.EventDef.{EventDef}
use Rattle.ep_row.specs.Row.{RowState}
use Rattle.ep_rows.specs.Told.{slot_in, config_in}
use Rattle.ep_slot.specs.Hand.{hand_of}
use Rattle.std.specs.Prelude.{option_map}
use Rattle.ep_rows.specs.Rows.{told_of}
use Rattle.ep_rows.proofs.OneRow.{lent_row, masks_after}
use Rattle.ep_rows.proofs.Changing.{attach_is, hand_at_row, attach_masks, attach_known, attach_written, attach_told, attach_expected, attach_configured, attach_none}
use Rattle.ep_rows.proofs.row_set.RowsRowSet.attach.Goals as goal

pub attach-requires-clause-quiet : goal.attach-requires-clause-quiet
attach-requires-clause-quiet c =
    let within : c.args.row ≤ length c.args.self.now.rows.items = omega (arith, c.args.self.now.row_count, c.args.self.now.rows.ok.0, c.requires.row.1) in
    ap (λ (x : RowState). x.in_write) (lent_row c.args.self.now.rows.items c.args.row c.index_mut-2.result.now c.requires.row.0 within c.index_mut-2.ensures.value) ∙ (c.requires.can_open (told_of c.args.self.now) refl).quiet

pub attach-requires-clause-stays : goal.attach-requires-clause-stays
attach-requires-clause-stays c =
    let within : c.args.row ≤ length c.args.self.now.rows.items = omega (arith, c.args.self.now.row_count, c.args.self.now.rows.ok.0, c.requires.row.1) in
    ap (λ (x : RowState). x.left) (lent_row c.args.self.now.rows.items c.args.row c.index_mut-2.result.now c.requires.row.0 within c.index_mut-2.ensures.value) ∙ (c.requires.can_open (told_of c.args.self.now) refl).stays

pub attach-requires-clause-events : goal.attach-requires-clause-events
attach-requires-clause-events c =
    let within : c.args.row ≤ length c.args.self.now.rows.items = omega (arith, c.args.self.now.row_count, c.args.self.now.rows.ok.0, c.requires.row.1) in
    ap (length {A = EventDef}) c.as_slice.ensures.value ∙ sym (ap (λ (x : RowState). length x.masks) (lent_row c.args.self.now.rows.items c.args.row c.index_mut-2.result.now c.requires.row.0 within c.index_mut-2.ensures.value) ∙ c.args.self.now.masks c.args.row c.requires.row)

pub invariant_of-self-clause-masks : goal.invariant_of-self-clause-masks
invariant_of-self-clause-masks c =
    let within : c.args.row ≤ length c.args.self.now.rows.items = omega (arith, c.args.self.now.row_count, c.args.self.now.rows.ok.0, c.requires.row.1) in
    let in_slots : c.args.slot < length c.args.self.now.columns.items = omega (arith, c.args.self.now.column_count, c.args.self.now.columns.ok.0, c.requires.slot) in
    masks_after c.args.self.now.events.items c.args.self.now.rows.items c.args.row c.index_mut-2.result.now c.attach.new.row c.requires.row.0 within c.requires.row.1 c.index_mut-2.ensures.value
    (attach_masks c.as_slice.result.now c.args.row c.args.slot c.args.session c.args.config.now c.attach.result c.index_mut-2.result.now c.attach.new.row c.index_mut.result.now c.attach.new.column
    (record { opens = c.attach.ensures.opens; known = c.attach.ensures.known; cells = c.attach.ensures.cells; same = c.attach.ensures.same; row_same = c.attach.ensures.row; pool = c.attach.ensures.pool })) c.args.self.now.masks

pub invariant_of-self-clause-known : goal.invariant_of-self-clause-known
invariant_of-self-clause-known c =
    let within : c.args.row ≤ length c.args.self.now.rows.items = omega (arith, c.args.self.now.row_count, c.args.self.now.rows.ok.0, c.requires.row.1) in
    let in_slots : c.args.slot < length c.args.self.now.columns.items = omega (arith, c.args.self.now.column_count, c.args.self.now.columns.ok.0, c.requires.slot) in
    attach_known c.args.self.now.events.items c.args.self.now.rows.items c.args.self.now.columns.items c.args.row c.args.slot c.args.session c.args.config.now c.attach.result c.attach.new.row c.attach.new.column c.requires.row.0 within in_slots (attach_is c.args.self.now.events.items c.as_slice.result.now c.args.self.now.rows.items c.args.self.now.columns.items c.args.row c.args.slot c.args.session c.args.config.now c.attach.result c.index_mut-2.result.now c.attach.new.row c.index_mut.result.now c.attach.new.column c.requires.row.0 within in_slots c.index_mut-2.ensures.value c.index_mut.ensures.value c.as_slice.ensures.value (record { opens = c.attach.ensures.opens; known = c.attach.ensures.known; cells = c.attach.ensures.cells; same = c.attach.ensures.same; row_same = c.attach.ensures.row; pool = c.attach.ensures.pool })) c.args.self.now.known

pub invariant_of-self-clause-written : goal.invariant_of-self-clause-written
invariant_of-self-clause-written c =
    let within : c.args.row ≤ length c.args.self.now.rows.items = omega (arith, c.args.self.now.row_count, c.args.self.now.rows.ok.0, c.requires.row.1) in
    let in_slots : c.args.slot < length c.args.self.now.columns.items = omega (arith, c.args.self.now.column_count, c.args.self.now.columns.ok.0, c.requires.slot) in
    attach_written c.args.self.now.events.items c.args.self.now.rows.items c.args.self.now.columns.items c.args.row c.args.slot c.args.session c.args.config.now c.attach.result c.attach.new.row c.attach.new.column in_slots (attach_is c.args.self.now.events.items c.as_slice.result.now c.args.self.now.rows.items c.args.self.now.columns.items c.args.row c.args.slot c.args.session c.args.config.now c.attach.result c.index_mut-2.result.now c.attach.new.row c.index_mut.result.now c.attach.new.column c.requires.row.0 within in_slots c.index_mut-2.ensures.value c.index_mut.ensures.value c.as_slice.ensures.value (record { opens = c.attach.ensures.opens; known = c.attach.ensures.known; cells = c.attach.ensures.cells; same = c.attach.ensures.same; row_same = c.attach.ensures.row; pool = c.attach.ensures.pool })) c.args.self.now.written

pub returns-clause-told : goal.returns-clause-told
returns-clause-told c =
    let within : c.args.row ≤ length c.args.self.now.rows.items = omega (arith, c.args.self.now.row_count, c.args.self.now.rows.ok.0, c.requires.row.1) in
    let in_slots : c.args.slot < length c.args.self.now.columns.items = omega (arith, c.args.self.now.column_count, c.args.self.now.columns.ok.0, c.requires.slot) in
    attach_told c.args.self.now.events.items c.args.self.now.rows.items c.args.self.now.columns.items c.args.row c.args.slot c.args.session c.args.config.now c.attach.result c.attach.new.row c.attach.new.column c.requires.row.0 within in_slots (attach_is c.args.self.now.events.items c.as_slice.result.now c.args.self.now.rows.items c.args.self.now.columns.items c.args.row c.args.slot c.args.session c.args.config.now c.attach.result c.index_mut-2.result.now c.attach.new.row c.index_mut.result.now c.attach.new.column c.requires.row.0 within in_slots c.index_mut-2.ensures.value c.index_mut.ensures.value c.as_slice.ensures.value (record { opens = c.attach.ensures.opens; known = c.attach.ensures.known; cells = c.attach.ensures.cells; same = c.attach.ensures.same; row_same = c.attach.ensures.row; pool = c.attach.ensures.pool }))

pub returns-clause-expected : goal.returns-clause-expected
returns-clause-expected c =
    let within : c.args.row ≤ length c.args.self.now.rows.items = omega (arith, c.args.self.now.row_count, c.args.self.now.rows.ok.0, c.requires.row.1) in
    let in_slots : c.args.slot < length c.args.self.now.columns.items = omega (arith, c.args.self.now.column_count, c.args.self.now.columns.ok.0, c.requires.slot) in
    attach_expected c.args.self.now.events.items c.args.self.now.rows.items c.args.self.now.columns.items c.args.row c.args.slot c.args.session c.args.config.now c.attach.result c.attach.new.row c.attach.new.column in_slots (hand_at_row c.args.session c.attach.result c.index_mut-2.result.now _ (lent_row c.args.self.now.rows.items c.args.row c.index_mut-2.result.now c.requires.row.0 within c.index_mut-2.ensures.value) c.attach.ensures.hand) (attach_is c.args.self.now.events.items c.as_slice.result.now c.args.self.now.rows.items c.args.self.now.columns.items c.args.row c.args.slot c.args.session c.args.config.now c.attach.result c.index_mut-2.result.now c.attach.new.row c.index_mut.result.now c.attach.new.column c.requires.row.0 within in_slots c.index_mut-2.ensures.value c.index_mut.ensures.value c.as_slice.ensures.value (record { opens = c.attach.ensures.opens; known = c.attach.ensures.known; cells = c.attach.ensures.cells; same = c.attach.ensures.same; row_same = c.attach.ensures.row; pool = c.attach.ensures.pool }))

pub returns-clause-configured : goal.returns-clause-configured
returns-clause-configured c =
    let within : c.args.row ≤ length c.args.self.now.rows.items = omega (arith, c.args.self.now.row_count, c.args.self.now.rows.ok.0, c.requires.row.1) in
    let in_slots : c.args.slot < length c.args.self.now.columns.items = omega (arith, c.args.self.now.column_count, c.args.self.now.columns.ok.0, c.requires.slot) in
    attach_configured c.args.self.now.events.items c.args.self.now.rows.items c.args.self.now.columns.items c.args.row c.args.slot c.args.session c.args.config.now c.attach.result c.attach.new.row c.attach.new.column in_slots (attach_is c.args.self.now.events.items c.as_slice.result.now c.args.self.now.rows.items c.args.self.now.columns.items c.args.row c.args.slot c.args.session c.args.config.now c.attach.result c.index_mut-2.result.now c.attach.new.row c.index_mut.result.now c.attach.new.column c.requires.row.0 within in_slots c.index_mut-2.ensures.value c.index_mut.ensures.value c.as_slice.ensures.value (record { opens = c.attach.ensures.opens; known = c.attach.ensures.known; cells = c.attach.ensures.cells; same = c.attach.ensures.same; row_same = c.attach.ensures.row; pool = c.attach.ensures.pool }))

pub returns-clause-none : goal.returns-clause-none
returns-clause-none c =
    let within : c.args.row ≤ length c.args.self.now.rows.items = omega (arith, c.args.self.now.row_count, c.args.self.now.rows.ok.0, c.requires.row.1) in
    let in_slots : c.args.slot < length c.args.self.now.columns.items = omega (arith, c.args.self.now.column_count, c.args.self.now.columns.ok.0, c.requires.slot) in
    attach_none (λ cell. option_map hand_of (slot_in cell)) c.args.self.now.events.items c.args.self.now.rows.items c.args.self.now.columns.items c.args.row c.args.slot c.args.session c.args.config.now c.attach.result c.attach.new.row c.attach.new.column in_slots (attach_is c.args.self.now.events.items c.as_slice.result.now c.args.self.now.rows.items c.args.self.now.columns.items c.args.row c.args.slot c.args.session c.args.config.now c.attach.result c.index_mut-2.result.now c.attach.new.row c.index_mut.result.now c.attach.new.column c.requires.row.0 within in_slots c.index_mut-2.ensures.value c.index_mut.ensures.value c.as_slice.ensures.value (record { opens = c.attach.ensures.opens; known = c.attach.ensures.known; cells = c.attach.ensures.cells; same = c.attach.ensures.same; row_same = c.attach.ensures.row; pool = c.attach.ensures.pool }))

pub returns-clause-none_configured : goal.returns-clause-none_configured
returns-clause-none_configured c =
    let within : c.args.row ≤ length c.args.self.now.rows.items = omega (arith, c.args.self.now.row_count, c.args.self.now.rows.ok.0, c.requires.row.1) in
    let in_slots : c.args.slot < length c.args.self.now.columns.items = omega (arith, c.args.self.now.column_count, c.args.self.now.columns.ok.0, c.requires.slot) in
    attach_none config_in c.args.self.now.events.items c.args.self.now.rows.items c.args.self.now.columns.items c.args.row c.args.slot c.args.session c.args.config.now c.attach.result c.attach.new.row c.attach.new.column in_slots (attach_is c.args.self.now.events.items c.as_slice.result.now c.args.self.now.rows.items c.args.self.now.columns.items c.args.row c.args.slot c.args.session c.args.config.now c.attach.result c.index_mut-2.result.now c.attach.new.row c.index_mut.result.now c.attach.new.column c.requires.row.0 within in_slots c.index_mut-2.ensures.value c.index_mut.ensures.value c.as_slice.ensures.value (record { opens = c.attach.ensures.opens; known = c.attach.ensures.known; cells = c.attach.ensures.cells; same = c.attach.ensures.same; row_same = c.attach.ensures.row; pool = c.attach.ensures.pool }))
