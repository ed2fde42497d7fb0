use Rattle.std.proofs.Common.{◌≤◌, length, ap, arith}
use Rattle.ep_row.specs.Row.{RowState}
use Rattle.ep_rows.specs.Writes.{EntersRow}
use Rattle.ep_rows.proofs.OneRow.{masks_after, entered_after, alone_after}
use Rattle.ep_rows.proofs.rows.Rows.enter.Goals as goal

pub invariant_of-self-clause-masks : goal.invariant_of-self-clause-masks
invariant_of-self-clause-masks c =
    let within : c.args.row ≤ length c.args.self.now.rows.items = omega (arith, c.args.self.now.row_count, c.args.self.now.rows.ok.0, c.requires.row.1) in
    masks_after c.args.self.now.events.items c.args.self.now.rows.items c.args.row c.index_mut.result.now c.enter.new.self c.requires.row.0 within c.requires.row.1 c.index_mut.ensures.value
    (ap (λ (x : RowState). length x.masks) c.enter.ensures.row) c.args.self.now.masks

pub invariant_of-self-clause-known : goal.invariant_of-self-clause-known
invariant_of-self-clause-known c =
    let within : c.args.row ≤ length c.args.self.now.rows.items = omega (arith, c.args.self.now.row_count, c.args.self.now.rows.ok.0, c.requires.row.1) in
    entered_after c.args.self.now.rows.items c.args.self.now.columns.items c.args.row c.index_mut.result.now c.enter.new.self c.requires.row.0 within c.index_mut.ensures.value
    (ap (λ (x : RowState). x.slots) c.enter.ensures.row) c.requires.off c.args.self.now.known

pub returns-clause-enters : goal.returns-clause-enters
returns-clause-enters c =
    let within : c.args.row ≤ length c.args.self.now.rows.items = omega (arith, c.args.self.now.row_count, c.args.self.now.rows.ok.0, c.requires.row.1) in
    alone_after (EntersRow c.args.thread) c.args.self.now.rows.items c.args.self.now.columns.items c.args.row c.index_mut.result.now c.enter.new.self c.requires.row.0 within c.index_mut.ensures.value
    (record { row = c.enter.ensures.row; rest = c.enter.ensures.rest })
