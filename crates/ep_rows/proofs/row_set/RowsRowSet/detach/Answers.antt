use Rattle.std.proofs.Common.{◌∙◌, ◌<◌, ◌≤◌, refl, length, ap, arith}
use Rattle.ep_row.specs.Row.{RowState}
use Rattle.ep_rows.specs.Rows.{told_of}
use Rattle.ep_rows.proofs.OneRow.{lent_row, masks_after}
use Rattle.ep_rows.proofs.Changing.{detach_known, detach_written}
use Rattle.ep_rows.proofs.row_set.RowsRowSet.detach.Goals as goal

pub detach-requires-clause-quiet : goal.detach-requires-clause-quiet
detach-requires-clause-quiet c =
    let within : c.args.row ≤ length c.args.self.now.rows.items = omega (arith, c.args.self.now.row_count, c.args.self.now.rows.ok.0, c.requires.row.1) in
    ap (λ (x : RowState). x.in_write) (lent_row c.args.self.now.rows.items c.args.row c.index_mut-2.result.now c.requires.row.0 within c.index_mut-2.ensures.value) ∙ c.requires.can_close (told_of c.args.self.now) refl

pub invariant_of-self-clause-masks : goal.invariant_of-self-clause-masks
invariant_of-self-clause-masks c =
    let within : c.args.row ≤ length c.args.self.now.rows.items = omega (arith, c.args.self.now.row_count, c.args.self.now.rows.ok.0, c.requires.row.1) in
    masks_after c.args.self.now.events.items c.args.self.now.rows.items c.args.row c.index_mut-2.result.now c.detach.new.row c.requires.row.0 within c.requires.row.1 c.index_mut-2.ensures.value c.detach.ensures.closes.masks.count c.args.self.now.masks

pub invariant_of-self-clause-known : goal.invariant_of-self-clause-known
invariant_of-self-clause-known c =
    let within : c.args.row ≤ length c.args.self.now.rows.items = omega (arith, c.args.self.now.row_count, c.args.self.now.rows.ok.0, c.requires.row.1) in
    let in_slots : c.args.slot < length c.args.self.now.columns.items = omega (arith, c.args.self.now.column_count, c.args.self.now.columns.ok.0, c.requires.slot) in
    detach_known c.args.self.now.rows.items c.args.self.now.columns.items c.args.row c.args.slot c.index_mut-2.result.now c.detach.new.row c.index_mut.result.now c.detach.new.column c.requires.row.0 within in_slots c.index_mut-2.ensures.value c.index_mut.ensures.value c.detach.ensures.closes c.detach.ensures.others c.args.self.now.known

pub invariant_of-self-clause-written : goal.invariant_of-self-clause-written
invariant_of-self-clause-written c =
    let in_slots : c.args.slot < length c.args.self.now.columns.items = omega (arith, c.args.self.now.column_count, c.args.self.now.columns.ok.0, c.requires.slot) in
    detach_written c.args.self.now.events.items c.args.self.now.columns.items c.args.row c.args.slot c.index_mut.result.now c.detach.new.column in_slots c.index_mut.ensures.value c.detach.ensures.others c.args.self.now.written
