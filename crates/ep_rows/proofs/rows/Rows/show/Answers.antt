use Rattle.std.proofs.Common.{◌≡◌, ◌+◌, ◌^◌, ◌<◌, ◌≤◌, Option, length, ap, sym, subst, arith}
use Rattle.ep_row.specs.Row.{RowState}
use Rattle.ep_rows.specs.declared.column.Column.{Column}
use Rattle.ep_rows.specs.Told.{pool_in, pending_in}
use Rattle.ep_rows.proofs.OneRow.{masks_after, row_now}
use Rattle.ep_rows.proofs.Changing.{shown_lent, show_known, show_written, show_told}
use Rattle.ep_rows.proofs.Keeping.{out_kept, configs_shown}
use Rattle.ep_rows.proofs.rows.Rows.show.Goals as goal

pub invariant_of-self-clause-masks : goal.invariant_of-self-clause-masks
invariant_of-self-clause-masks c =
    let within : c.args.row ≤ length c.args.self.now.rows.items = omega (arith, c.args.self.now.row_count, c.args.self.now.rows.ok.0, c.requires.row.1) in
    masks_after c.args.self.now.events.items c.args.self.now.rows.items c.args.row c.index_mut-2.result.now c.show.new.row c.requires.row.0 within c.requires.row.1 c.index_mut-2.ensures.value
    (ap (λ (x : RowState). length x.masks) c.show.ensures.shown.row_is.others) c.args.self.now.masks

pub invariant_of-self-clause-known : goal.invariant_of-self-clause-known
invariant_of-self-clause-known c =
    let within : c.args.row ≤ length c.args.self.now.rows.items = omega (arith, c.args.self.now.row_count, c.args.self.now.rows.ok.0, c.requires.row.1) in
    let in_slots : c.args.slot < length c.args.self.now.columns.items = omega (arith, c.args.self.now.column_count, c.args.self.now.columns.ok.0, c.requires.slot) in
    let lent = shown_lent c.args.self.now.rows.items c.args.self.now.columns.items c.args.row c.args.slot c.args.write.now c.show.result c.index_mut-2.result.now c.show.new.row c.index_mut.result.now c.show.new.column c.requires.row.0 within in_slots c.index_mut-2.ensures.value c.index_mut.ensures.value c.show.ensures.others c.show.ensures.shown in
    show_known c.args.self.now.rows.items c.args.self.now.columns.items c.args.row c.args.slot c.args.write.now c.show.result c.show.new.row c.show.new.column c.requires.row.0 within lent.set lent.is c.args.self.now.known

pub invariant_of-self-clause-written : goal.invariant_of-self-clause-written
invariant_of-self-clause-written c =
    let within : c.args.row ≤ length c.args.self.now.rows.items = omega (arith, c.args.self.now.row_count, c.args.self.now.rows.ok.0, c.requires.row.1) in
    let in_slots : c.args.slot < length c.args.self.now.columns.items = omega (arith, c.args.self.now.column_count, c.args.self.now.columns.ok.0, c.requires.slot) in
    let lent = shown_lent c.args.self.now.rows.items c.args.self.now.columns.items c.args.row c.args.slot c.args.write.now c.show.result c.index_mut-2.result.now c.show.new.row c.index_mut.result.now c.show.new.column c.requires.row.0 within in_slots c.index_mut-2.ensures.value c.index_mut.ensures.value c.show.ensures.others c.show.ensures.shown in
    show_written c.args.self.now.events.items c.args.self.now.rows.items c.args.self.now.columns.items c.args.row c.args.slot c.args.write.now c.show.result c.show.new.row c.show.new.column c.requires.event c.requires.events c.requires.fits lent.set lent.is c.args.self.now.written

pub returns-clause-shows : goal.returns-clause-shows
returns-clause-shows c =
    let within : c.args.row ≤ length c.args.self.now.rows.items = omega (arith, c.args.self.now.row_count, c.args.self.now.rows.ok.0, c.requires.row.1) in
    let in_slots : c.args.slot < length c.args.self.now.columns.items = omega (arith, c.args.self.now.column_count, c.args.self.now.columns.ok.0, c.requires.slot) in
    let lent = shown_lent c.args.self.now.rows.items c.args.self.now.columns.items c.args.row c.args.slot c.args.write.now c.show.result c.index_mut-2.result.now c.show.new.row c.index_mut.result.now c.show.new.column c.requires.row.0 within in_slots c.index_mut-2.ensures.value c.index_mut.ensures.value c.show.ensures.others c.show.ensures.shown in
    show_told c.args.self.now.rows.items c.args.self.now.columns.items c.args.row c.args.slot c.args.write.now c.show.result c.show.new.row c.show.new.column c.requires.row.0 within in_slots lent.set lent.is

pub returns-clause-kept : goal.returns-clause-kept
returns-clause-kept c =
    let within : c.args.row ≤ length c.args.self.now.rows.items = omega (arith, c.args.self.now.row_count, c.args.self.now.rows.ok.0, c.requires.row.1) in
    let in_slots : c.args.slot < length c.args.self.now.columns.items = omega (arith, c.args.self.now.column_count, c.args.self.now.columns.ok.0, c.requires.slot) in
    let lent = shown_lent c.args.self.now.rows.items c.args.self.now.columns.items c.args.row c.args.slot c.args.write.now c.show.result c.index_mut-2.result.now c.show.new.row c.index_mut.result.now c.show.new.column c.requires.row.0 within in_slots c.index_mut-2.ensures.value c.index_mut.ensures.value c.show.ensures.others c.show.ensures.shown in
    record {
      configs = configs_shown c.args.self.now.rows.items c.args.self.now.columns.items c.args.row c.args.slot c.args.write.now c.show.result c.show.new.row c.show.new.column lent.set lent.is;
      out = out_kept c.args.self.now.columns.items c.args.slot c.show.new.column in_slots lent.is.pool_is.total
          (subst (λ (x : Option Column). pending_in c.show.new.column + (pool_in c.show.new.column).free ≡ pending_in x + (pool_in x).free) lent.column_is c.show.ensures.chunks);
    }

pub returns-clause-bounded : goal.returns-clause-bounded
returns-clause-bounded c =
    let within : c.args.row ≤ length c.args.self.now.rows.items = omega (arith, c.args.self.now.row_count, c.args.self.now.rows.ok.0, c.requires.row.1) in
    subst (λ (x : RowState). x.due < 2 ^ 64) (sym (row_now c.args.self.now.rows.items c.args.row c.show.new.row c.requires.row.0 within)) c.show.ensures.bounded
