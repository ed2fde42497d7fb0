use Rattle.std.proofs.Common.{◌≡◌, ◌^◌, ◌<◌, ◌≤◌, ◌∙◌, ℕ, length, ap, sym, subst, arith, rules}
use Rattle.ep_row.specs.Row.{RowState}
use Rattle.ep_rows.specs.Writes.{BeginsRow}
use Rattle.ep_rows.proofs.OneRow.{masks_after, known_after, alone_after, row_now}
use Rattle.ep_rows.proofs.rows.Rows.begin.Goals as goal

pub invariant_of-self-clause-masks : goal.invariant_of-self-clause-masks
invariant_of-self-clause-masks c =
    let within : c.args.row ≤ length c.args.self.now.rows.items = omega (arith, c.args.self.now.row_count, c.args.self.now.rows.ok.0, c.requires.row.1) in
    masks_after c.args.self.now.events.items c.args.self.now.rows.items c.args.row c.index_mut.result.now c.begin.new.self c.requires.row.0 within c.requires.row.1 c.index_mut.ensures.value
    (ap (λ (x : RowState). length x.masks) c.begin.ensures.row) c.args.self.now.masks

pub invariant_of-self-clause-known : goal.invariant_of-self-clause-known
invariant_of-self-clause-known c =
    let within : c.args.row ≤ length c.args.self.now.rows.items = omega (arith, c.args.self.now.row_count, c.args.self.now.rows.ok.0, c.requires.row.1) in
    known_after c.args.self.now.rows.items c.args.self.now.columns.items c.args.row c.index_mut.result.now c.begin.new.self c.requires.row.0 within c.index_mut.ensures.value
    (ap (λ (x : RowState). x.slots) c.begin.ensures.row) (ap (λ (x : RowState). x.thread) c.begin.ensures.row) c.args.self.now.known

pub returns-clause-begins : goal.returns-clause-begins
returns-clause-begins c =
    let within : c.args.row ≤ length c.args.self.now.rows.items = omega (arith, c.args.self.now.row_count, c.args.self.now.rows.ok.0, c.requires.row.1) in
    alone_after (BeginsRow c.args.stamp c.args.write.now) c.args.self.now.rows.items c.args.self.now.columns.items c.args.row c.index_mut.result.now c.begin.new.self c.requires.row.0 within c.index_mut.ensures.value
    (record { row = c.begin.ensures.row; rest = c.begin.ensures.rest })

pub returns-clause-bounded : goal.returns-clause-bounded
returns-clause-bounded c =
    let within : c.args.row ≤ length c.args.self.now.rows.items = omega (arith, c.args.self.now.row_count, c.args.self.now.rows.ok.0, c.requires.row.1) in
    let due : c.begin.new.self.due ≡ c.begin.result = ap (λ (x : RowState). x.due) c.begin.ensures.row ∙ sym c.begin.ensures.due in
    subst (λ (x : RowState). x.due < 2 ^ 64) (sym (row_now c.args.self.now.rows.items c.args.row c.begin.new.self c.requires.row.0 within)) (subst (λ (n : ℕ). n < 2 ^ 64) (sym due) (search rules))
