use Rattle.std.proofs.Common.{◌≤◌, length, ap, arith}
use Rattle.ep_row.specs.Row.{RowState}
use Rattle.ep_rows.specs.Writes.{EndsRow}
use Rattle.ep_rows.proofs.OneRow.{masks_after, known_after, alone_after}
use Rattle.ep_rows.proofs.rows.Rows.end.Goals as goal

pub invariant_of-self-clause-masks : goal.invariant_of-self-clause-masks
invariant_of-self-clause-masks c =
    let within : c.args.row ≤ length c.args.self.now.rows.items = omega (arith, c.args.self.now.row_count, c.args.self.now.rows.ok.0, c.requires.row.1) in
    masks_after c.args.self.now.events.items c.args.self.now.rows.items c.args.row c.index_mut.result.now c.end.new.self c.requires.row.0 within c.requires.row.1 c.index_mut.ensures.value
    (ap (λ (x : RowState). length x.masks) c.end.ensures.row) c.args.self.now.masks

pub invariant_of-self-clause-known : goal.invariant_of-self-clause-known
invariant_of-self-clause-known c =
    let within : c.args.row ≤ length c.args.self.now.rows.items = omega (arith, c.args.self.now.row_count, c.args.self.now.rows.ok.0, c.requires.row.1) in
    known_after c.args.self.now.rows.items c.args.self.now.columns.items c.args.row c.index_mut.result.now c.end.new.self c.requires.row.0 within c.index_mut.ensures.value
    (ap (λ (x : RowState). x.slots) c.end.ensures.row) (ap (λ (x : RowState). x.thread) c.end.ensures.row) c.args.self.now.known

pub returns-clause-ends : goal.returns-clause-ends
returns-clause-ends c =
    let within : c.args.row ≤ length c.args.self.now.rows.items = omega (arith, c.args.self.now.row_count, c.args.self.now.rows.ok.0, c.requires.row.1) in
    alone_after (EndsRow) c.args.self.now.rows.items c.args.self.now.columns.items c.args.row c.index_mut.result.now c.end.new.self c.requires.row.0 within c.index_mut.ensures.value
    (record { row = c.end.ensures.row; rest = c.end.ensures.rest })
